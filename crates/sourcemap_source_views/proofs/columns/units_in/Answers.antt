use Rattle.std.proofs.Common.{◌∙◌, ◌+◌, sym, ap, subst, arith}
use Rattle.std.specs.Str.Iter.{chars_rest}
use Rattle.std.proofs.lemmas.Bool.{MatchBool-at_true}
use Rattle.sourcemap_source_views.proofs.ColumnsLemmas.{Counted, Counted-start, Counted-step, Counted-end, ascii-width}
use Rattle.sourcemap_source_views.proofs.ColumnsLemmas.{units_is}
use Rattle.sourcemap_source_views.proofs.columns.units_in.Goals as goal

pub returns-then-is_ascii-clause-value : goal.returns-then-is_ascii-clause-value
returns-then-is_ascii-clause-value c =
    ascii-width c.args.text.now (MatchBool-at_true _ _ c.if-is_ascii.true c.is_ascii.ensures.cases)

pub loop-character-init : goal.loop-character-init
loop-character-init c =
    subst (λ rest. Counted c.args.text.now rest 0)
    (sym (ap chars_rest c.into_iter-character-iterator.ensures.into_iter_gives ∙ c.chars-character-items.ensures.rest))
    (Counted-start c.args.text.now c.utf8.text)

pub overflow_add-total : goal.overflow_add-total
overflow_add-total c =
    let units = units_is _ _ c.len_utf16.ensures.bmp c.len_utf16.ensures.surrogate_pair in
    let counted = Counted-step _ _ _ _ _ c.in-Some.ensures.steps.0 c.loop-character.invariant in
    let few = counted.few in
    omega (arith, units, few)

pub loop-character-preserved : goal.loop-character-preserved
loop-character-preserved c =
    let units = units_is _ _ c.len_utf16.ensures.bmp c.len_utf16.ensures.surrogate_pair in
    subst (λ n. Counted c.args.text.now (chars_rest c.next.new.self) (c.loop-character.total + n)) (sym units)
    (Counted-step _ _ _ _ _ c.in-Some.ensures.steps.0 c.loop-character.invariant)

pub returns-clause-value : goal.returns-clause-value
returns-clause-value c = Counted-end _ _ _ c.in-None.ensures.steps.0.0 c.loop-character.invariant
