-- A rewriting without `load_local_source_contents` has one possible result, and its only error is `OutOfMemory`.
use Rattle.std.specs.Prelude.{◌≡◌, false, MatchBool, Result, Ok, Err}
use Rattle.std.proofs.Common.{ap, sym, subst, ◌∙◌}
use Rattle.sourcemap_errors.specs.Answer.{Gives, IsAnswer}
use Rattle.sourcemap_errors.specs.declared.errors.Error.{Error}
use Rattle.sourcemap_errors.proofs.AnswerLemmas.{UnlessMemory-weaker}
use Rattle.sourcemap_map_rewrite.specs.declared.options.RewriteOptions.{RewriteOptions}
use Rattle.sourcemap_map_regular.specs.Map.{MapValue}
use Rattle.sourcemap_map_regular.specs.Rewrite.{removal_of, rewritten, IsLoaded, LacksFolder, Rewrites}

pub without_loading : (options : RewriteOptions) (m new : MapValue) → options.load_local_source_contents ≡ false
    → Rewrites options m (Ok new) → new ≡ rewritten (removal_of options) m
without_loading options m new none =
    subst (λ loads. MatchBool loads (IsLoaded options m new) (new ≡ rewritten (removal_of options) m)) none

pub lacks_none : (options : RewriteOptions) (e : Error) → options.load_local_source_contents ≡ false
    → LacksFolder options e → ⊥
lacks_none options e none lacks = subst (λ loads. MatchBool loads (Unit {0}) ⊥) (sym lacks.loads ∙ none) tt

pub Gives-rewritten : {X : Type 0} (view : X → MapValue) (options : RewriteOptions) (m : MapValue)
    (result : Result X Error)
    → options.load_local_source_contents ≡ false → IsAnswer view (Rewrites options m) result
    → Gives view result (Ok (rewritten (removal_of options) m))
Gives-rewritten view options m (Ok x) none is = ap Ok (sym (without_loading options m (view x) none is))
Gives-rewritten view options m (Err e) none is =
    UnlessMemory-weaker e (λ lacks. absurd (lacks_none options e none lacks)) is
