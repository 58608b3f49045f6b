use Rattle.std.proofs.Common.{◌≡◌, sym, ap, subst, ◌∙◌, ◌+◌, ◌-◌, Some, option_map, arith, length, take, chars}
use Rattle.std.proofs.Common.{IsCharBoundary}
use Rattle.std.specs.Str.Iter.{chars_rest}
use Rattle.sourcemap_source_views.specs.Columns.{column_offset, width}
use Rattle.sourcemap_source_views.proofs.ColumnsLemmas.{Walked, Walked-at, Walked-step, Walked-few, Walked-reaches}
use Rattle.sourcemap_source_views.proofs.ColumnsLemmas.{Walked-boundary, Walked-units, Walked-short, units_is}
use Rattle.sourcemap_source_views.proofs.columns.reach_by_characters.Goals as goal

pub returns-in_err-character-clause-value : goal.returns-in_err-character-clause-value
returns-in_err-character-clause-value c =
    ap (option_map (λ at. at.offset)) c.from_residual.ensures
    ∙ Walked-short _ _ _ _ c.loop-units-test.true c.in_err-character.ensures.steps.0.0 c.loop-units.invariant

pub overflow_add-units : goal.overflow_add-units
overflow_add-units c =
    let units = units_is _ _ c.len_utf16.ensures.bmp c.len_utf16.ensures.surrogate_pair in
    let walked =
    Walked-step _ _ _ _ _ _ c.loop-units-test.true c.in_ok-character.ensures.steps.0 c.loop-units.invariant in
    let few = Walked-few _ _ _ _ walked in
    omega (arith, units, few)

pub loop-units-preserved : goal.loop-units-preserved
loop-units-preserved c =
    let units = units_is _ _ c.len_utf16.ensures.bmp c.len_utf16.ensures.surrogate_pair in
    let walked =
    Walked-step _ _ _ _ _ _ c.loop-units-test.true c.in_ok-character.ensures.steps.0 c.loop-units.invariant in
    subst (λ n. Walked c.args.line.now c.args.col (chars_rest c.next.new.self) (c.loop-units.units + n))
    (sym units) walked

pub returns-clause-value : goal.returns-clause-value
returns-clause-value c =
    subst (λ r. Some (length c.args.line.now - length r) ≡ column_offset c.args.line.now c.args.col)
    (sym c.as_str.ensures) (Walked-reaches _ _ _ _ c.loop-units-test.false c.loop-units.invariant)

pub returns-clause-boundary : goal.returns-clause-boundary
returns-clause-boundary c =
    subst (λ r. IsCharBoundary c.args.line.now (length c.args.line.now - length r)) (sym c.as_str.ensures)
    (Walked-boundary _ _ _ _ c.loop-units.invariant)

pub returns-clause-units : goal.returns-clause-units
returns-clause-units c =
    subst (λ r. c.loop-units.units ≡ width (chars (take (length c.args.line.now - length r) c.args.line.now)))
    (sym c.as_str.ensures) (Walked-units _ _ _ _ c.utf8.line c.loop-units.invariant)

pub loop-units-init : goal.loop-units-init
loop-units-init c =
    subst (λ rest. Walked c.args.line.now c.args.col rest c.args.from.units)
    (sym (c.chars-rest.ensures.rest ∙ c.range_from.ensures.value)) (Walked-at c.args.line.now c.args.col
    c.args.from.offset c.args.from.units c.utf8.line c.requires.offset c.requires.before)
