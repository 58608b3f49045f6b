-- Without `load_local_source_contents`, rewriting a Hermes map returns the map `rewritten`. The only error is
-- `OutOfMemory`.
use Rattle.std.specs.Prelude.{◌≡◌, false, Result, Ok, Err}
use Rattle.std.proofs.Common.{ap, sym}
use Rattle.sourcemap_errors.specs.Answer.{Gives, IsAnswer}
use Rattle.sourcemap_errors.specs.declared.errors.Error.{Error}
use Rattle.sourcemap_errors.proofs.AnswerLemmas.{UnlessMemory-weaker}
use Rattle.sourcemap_map_rewrite.specs.declared.options.RewriteOptions.{RewriteOptions}
use Rattle.sourcemap_map_regular.specs.Rewrite.{removal_of}
use Rattle.sourcemap_map_regular.specs.WithoutLoading.{without_loading as map_without_loading, lacks_none}
use Rattle.sourcemap_hermes.specs.Map.{HermesValue}
use Rattle.sourcemap_hermes.specs.Rewrite.{rewritten, Rewrites}

pub without_loading : (options : RewriteOptions) (h new : HermesValue) → options.load_local_source_contents ≡ false
    → Rewrites options h (Ok new) → new ≡ rewritten (removal_of options) h
without_loading options h new none (map, scopes) =
    λ i. record { map = map_without_loading options h.map new.map none map i; scopes = scopes i }

pub Gives-rewritten : {X : Type 0} (view : X → HermesValue) (options : RewriteOptions) (h : HermesValue)
    (result : Result X Error)
    → options.load_local_source_contents ≡ false → IsAnswer view (Rewrites options h) result
    → Gives view result (Ok (rewritten (removal_of options) h))
Gives-rewritten view options h (Ok x) none is = ap Ok (sym (without_loading options h (view x) none is))
Gives-rewritten view options h (Err e) none is =
    UnlessMemory-weaker e (λ lacks. absurd (lacks_none options e none lacks)) is
