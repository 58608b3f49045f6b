use Rattle.std.proofs.Common.{◌∙◌, sym, ap, subst, arith, chars, IsUtf8, Some, List, ℕ}
use Rattle.sourcemap_source_views.specs.Identifiers.{first_passes, is_start}
use Rattle.sourcemap_source_views.proofs.RunsLemmas.{identifier_far, identifier_short, identifier_none}
use Rattle.sourcemap_source_views.proofs.RunsLemmas.{identifier_there}
use Rattle.sourcemap_source_views.proofs.walk.Word.identifier.Goals as goal
use Rattle.sourcemap_source_views.proofs.walk.Word.identifier.Goals.{else-from-cursor-via-then-from-cursor+else-starts_with_start}
use Rattle.sourcemap_source_views.proofs.walk.Word.identifier.Goals.{else-from-cursor-via-else-from-cursor}

pub returns-then-starts_with_start : goal.returns-then-starts_with_start
returns-then-starts_with_start c =
    let word = c.args.self.now in
    let cursor = word.cursor in
    let col = c.from.ensures in
    let far = c.if-from-cursor.true in
    let starts = ap (λ (t : List ℕ). first_passes is_start (chars t)) (sym c.range_from.ensures.value)
    ∙ sym c.starts_with_start.ensures ∙ c.if-starts_with_start.true in
    ap Some c.range.ensures.value
    ∙ identifier_there cursor.line.now cursor.at.offset cursor.word word.end
    (subst IsUtf8 c.range_from.ensures.value c.range_from.utf8) cursor.first word.ended starts
    ∙ identifier_far cursor.line.now c.args.col cursor.at.offset cursor.at.units (omega (arith, col, far))

pub returns-else-from-cursor : goal.returns-else-from-cursor
returns-else-from-cursor c =
    let cursor = c.args.self.now.cursor in
    let col = c.from.ensures in
    elim c.else-from-cursor.branch [
      | else-from-cursor-via-then-from-cursor+else-starts_with_start w ↦
          let far = w.if-from-cursor.true in
          let starts = ap (λ (t : List ℕ). first_passes is_start (chars t)) (sym w.range_from.ensures.value)
          ∙ sym w.starts_with_start.ensures ∙ w.if-starts_with_start.false in
          identifier_none cursor.line.now cursor.at.offset cursor.word cursor.first starts
          ∙ identifier_far cursor.line.now c.args.col cursor.at.offset cursor.at.units (omega (arith, col, far))
      | else-from-cursor-via-else-from-cursor w ↦ (let short = w.if-from-cursor.false in
          identifier_short cursor.line.now c.args.col cursor.at.offset cursor.at.units (omega (arith, col, short)))
    ]
