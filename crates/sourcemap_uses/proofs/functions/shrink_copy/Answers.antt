-- The copy has the same value as the map, so rewriting the copy returns the rewritten map. If the regular map is
-- well-formed and no two sources resolve to the same text, the result keeps the scopes of the map.
use Rattle.std.proofs.Common.{◌≡◌, Result, Ok, IfOk, subst, sym}
use Rattle.std.proofs.lemmas.Result.{IfOk-weaker}
use Rattle.sourcemap.specs.Answer.{Gives, IsAnswer}
use Rattle.sourcemap.specs.Hermes.{HermesValue, IsWellFormed, hermes_value}
use Rattle.sourcemap.specs.HermesRewrite.{HasDistinctSources, KeepsScopes, Rewrites, rewritten}
use Rattle.sourcemap.specs.HermesWithoutLoading.{Gives-rewritten}
use Rattle.sourcemap.specs.Rewrite.{IsDefault, Removal, no_removal, removal_of}
use Rattle.sourcemap.specs.declared.errors.Error.{Error}
use Rattle.sourcemap.specs.declared.hermes.SourceMapHermes.{SourceMapHermes}
use Rattle.sourcemap.specs.declared.types.RewriteOptions.{RewriteOptions}
use Rattle.sourcemap_uses.proofs.RewritingLemmas.{default_removal}
use Rattle.sourcemap_uses.proofs.functions.shrink_copy.Goals as goal

gives_rewritten : (options : RewriteOptions) (h : HermesValue) (copied : SourceMapHermes)
    (r : Result SourceMapHermes Error)
    → IsDefault options → Gives hermes_value (Ok copied) (Ok h)
    → IsAnswer hermes_value (Rewrites options (hermes_value copied)) r
    → Gives hermes_value r (Ok (rewritten no_removal h))
gives_rewritten options h copied r defaults same answered =
    let is : h ≡ hermes_value copied = cc in
    let due : Removal → HermesValue → Type 0 = λ removal old. Gives hermes_value r (Ok (rewritten removal old)) in
    subst (λ removal. due removal h) (default_removal options defaults)
    (subst (due (removal_of options)) (sym is)
    (Gives-rewritten hermes_value options (hermes_value copied) r defaults.no_files answered))

keeps_scopes : (h : HermesValue) (copied : SourceMapHermes) (r : Result SourceMapHermes Error)
    → Gives hermes_value (Ok copied) (Ok h)
    → IsWellFormed h → HasDistinctSources h
    → IfOk r (λ n. IsWellFormed (hermes_value copied) → HasDistinctSources (hermes_value copied)
    → KeepsScopes (hermes_value copied) (hermes_value n))
    → IfOk r (λ n. KeepsScopes h (hermes_value n))
keeps_scopes h copied r same well distinct keeps =
    let is : h ≡ hermes_value copied = cc in
    let kept : SourceMapHermes → HermesValue → Type 0 =
    λ n old. IsWellFormed old → HasDistinctSources old → KeepsScopes old (hermes_value n) in
    IfOk-weaker r (λ n. kept n (hermes_value copied)) (λ n. KeepsScopes h (hermes_value n))
    (λ n so. subst (kept n) (sym is) so well distinct) keeps

pub returns-clause-value : goal.returns-clause-value
returns-clause-value g c =
    gives_rewritten c.default.result (hermes_value c.args.map.now) c.in_ok-copy.copy c.rewrite.result c.default.ensures
    c.in_ok-copy.ensures c.rewrite.ensures.value

pub returns-clause-scopes : goal.returns-clause-scopes
returns-clause-scopes g c well distinct =
    keeps_scopes (hermes_value c.args.map.now) c.in_ok-copy.copy c.rewrite.result c.in_ok-copy.ensures
    (record { map = well; few = c.scope_count.ensures.few; of_entries = c.scope_count.ensures.of_entries })
    distinct c.rewrite.ensures.scopes
