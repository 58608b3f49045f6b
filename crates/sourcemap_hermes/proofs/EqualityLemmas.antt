-- `same_hermes` is true for two Hermes maps exactly if the maps are equal.
use Rattle.std.proofs.Common.{◌≡◌, ap}
use Rattle.std.specs.Bool.{Decides}
use Rattle.sourcemap_tokens.proofs.DecidesLemmas.{decides_both}
use Rattle.sourcemap_map_regular.proofs.EqualityLemmas.{same_map_decides}
use Rattle.sourcemap_hermes_scopes.proofs.SourceScopesLemmas.{source_scopes_decide}
use Rattle.sourcemap_hermes.specs.Equality.{same_hermes}
use Rattle.sourcemap_hermes.specs.Map.{HermesValue}

pub same_hermes_decides : (a b : HermesValue) → Decides (same_hermes a b) (a ≡ b)
same_hermes_decides a b =
    let all = decides_both (same_map_decides a.map b.map) (source_scopes_decide a.scopes b.scopes) in (
      λ h. let p = all.0 h in λ i. record { map = p.0 i; scopes = p.1 i },
      λ h. all.1 (ap (λ (h : HermesValue). h.map) h, ap (λ (h : HermesValue). h.scopes) h),
    )
