-- Each section is moved down, at most to line 4294967295.
use Rattle.std.proofs.Common.{◌∙◌, map}
use Rattle.std.proofs.lemmas.List.{length-map}
use Rattle.sourcemap_index.specs.Family.{section_value}
use Rattle.sourcemap_index.proofs.RowsLemmas.{moved_all, moved_more, moved_to_end}
use Rattle.sourcemap_index.proofs.rows.move_down.Goals as goal

pub loop-section-preserved : goal.loop-section-preserved
loop-section-preserved c =
    moved_more c.args.rows c.args.sections.now c.loop-section.sections c.loop-section.section-index
    c.saturating_add-section.result c.section-item.result
    (rw c.loop-section.auto.sections c.loop-section-test.true) c.loop-section.auto.sections c.loop-section.invariant
    c.saturating_add-section.ensures

pub returns : goal.returns
returns c = λ h.
    let ss = map section_value c.args.sections.now in
    c.loop-section.invariant ∙ moved_to_end c.args.rows ss c.loop-section.section-index
    (rw (length-map c.args.sections.now section_value) c.loop-section-test.false) ∙ moved_all c.args.rows ss h
