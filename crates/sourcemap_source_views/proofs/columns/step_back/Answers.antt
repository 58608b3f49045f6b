use Rattle.std.specs.Char.{IsScalar}
use Rattle.std.proofs.Common.{rules, ◌≡◌, ◌∙◌, ◌-◌, ◌<◌, sym, ap, subst, subst₂, arith, length, take}
use Rattle.sourcemap_source_views.specs.Columns.{IsOffset}
use Rattle.sourcemap_source_views.proofs.ColumnsLemmas.{stepped-back, no_step, units_is, units_some}
use Rattle.sourcemap_references.proofs.ReferenceLemmas.{range_from_start}
use Rattle.sourcemap_source_views.proofs.columns.step_back.Goals as goal

pub returns-in_err-character-clause-there : goal.returns-in_err-character-clause-there
returns-in_err-character-clause-there c =
    let empty : length (take c.args.at.offset c.args.line.now) ≡ 0 =
    ap length (sym (c.chars.ensures.rest ∙ c.range.ensures.value ∙ range_from_start _ _))
    ∙ c.in_err-character.ensures.steps.0 in
    rw c.from_residual.ensures (no_step c.args.line.now c.args.at.offset c.args.at.units c.args.col c.utf8.line
    c.requires.offset c.requires.ahead empty)

pub overflow_sub-units : goal.overflow_sub-units
overflow_sub-units c =
    let scalar : IsScalar c.in_ok-character.character = search rules in
    let stepped = stepped-back c.args.line.now _ c.args.at.offset c.args.at.units c.in_ok-character.character
    c.utf8.line c.requires.offset scalar
    (sym (c.chars.ensures.rest ∙ c.range.ensures.value ∙ range_from_start _ _) ∙ c.in_ok-character.ensures.steps) in
    let units = units_is _ _ c.len_utf16.ensures.bmp c.len_utf16.ensures.surrogate_pair in
    let wide = stepped.wide in
    omega (arith, units, wide)

pub returns-then-units-col-clause-there : goal.returns-then-units-col-clause-there
returns-then-units-col-clause-there c =
    let scalar : IsScalar c.in_ok-character.character = search rules in
    let stepped = stepped-back c.args.line.now _ c.args.at.offset c.args.at.units c.in_ok-character.character
    c.utf8.line c.requires.offset scalar
    (sym (c.chars.ensures.rest ∙ c.range.ensures.value ∙ range_from_start _ _) ∙ c.in_ok-character.ensures.steps) in
    let units = units_is _ _ c.len_utf16.ensures.bmp c.len_utf16.ensures.surrogate_pair in
    stepped.short c.args.col c.requires.ahead (subst (λ n. c.args.at.units - n < c.args.col) units c.if-units-col.true)

pub returns-clause-offset : goal.returns-clause-offset
returns-clause-offset c =
    let scalar : IsScalar c.in_ok-character.character = search rules in
    let stepped = stepped-back c.args.line.now _ c.args.at.offset c.args.at.units c.in_ok-character.character
    c.utf8.line c.requires.offset scalar
    (sym (c.chars.ensures.rest ∙ c.range.ensures.value ∙ range_from_start _ _) ∙ c.in_ok-character.ensures.steps) in
    let units = units_is _ _ c.len_utf16.ensures.bmp c.len_utf16.ensures.surrogate_pair in
    subst₂ (λ m n. IsOffset c.args.line.now (c.args.at.offset - m) (c.args.at.units - n)) (sym c.len_utf8.ensures.len)
    (sym units) stepped.at

pub returns-clause-ahead : goal.returns-clause-ahead
returns-clause-ahead c =
    let scalar : IsScalar c.in_ok-character.character = search rules in
    let stepped = stepped-back c.args.line.now _ c.args.at.offset c.args.at.units c.in_ok-character.character
    c.utf8.line c.requires.offset scalar
    (sym (c.chars.ensures.rest ∙ c.range.ensures.value ∙ range_from_start _ _) ∙ c.in_ok-character.ensures.steps) in
    let units = units_is _ _ c.len_utf16.ensures.bmp c.len_utf16.ensures.surrogate_pair in
    let some = units_some c.in_ok-character.character in
    let wide = stepped.wide in
    (c.if-units-col.false, omega (arith, units, some, wide))
