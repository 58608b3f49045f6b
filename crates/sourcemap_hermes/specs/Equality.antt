-- Equality of Hermes maps: their regular maps are equal, and their scopes are equal.
use Rattle.std.specs.Prelude.{Bool}
use Rattle.std.specs.Ordering.{on, eq_of_both}
use Rattle.std.specs.Cmp.{IsEquivalence}
use Rattle.std.specs.Cmp.Rules.{comparing}
use Rattle.std.proofs.Common.{rules}
use Rattle.sourcemap_map_regular.specs.Equality.{same_map}
use Rattle.sourcemap_hermes_scopes.specs.SourceScopes.{same_source_scopes}
use Rattle.sourcemap_hermes.specs.Map.{HermesValue}

abbrev pub same_hermes : HermesValue → HermesValue → Bool
same_hermes =
    eq_of_both
    (on (λ h. h.map) same_map)
    (on (λ h. h.scopes) same_source_scopes)

pub same_hermes_equiv : IsEquivalence same_hermes
same_hermes_equiv = search (comparing, rules) depth 16
