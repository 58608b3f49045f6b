use Rattle.std.proofs.Common.{◌∙◌, ◌≤◌, ap, length, subst, sym}
use Rattle.sourcemap_references.proofs.LineLemmas.{whole_text}
use Rattle.sourcemap_references.proofs.ReferenceLemmas.{decided, range_from_start}
use Rattle.sourcemap_references.specs.Lines.{IsFirstMarked}
use Rattle.sourcemap_references.specs.Reference.{first_reference}
use Rattle.sourcemap_references.proofs.detector.locate_in_text.Goals as goal

pub returns-in-Marked-clause-value : goal.returns-in-Marked-clause-value
returns-in-Marked-clause-value c =
    decided c.args.text.now c.range.result.now c.range_from.result.now c.in-Marked.line c.reference_on_line.result
    (subst (λ xs. IsFirstMarked xs c.in-Marked.line) c.as_bytes.ensures.value c.in-Marked.ensures.marked)
    (c.range.ensures.value ∙ range_from_start c.args.text.now c.in-Marked.line.end) c.range.utf8
    c.range_from.ensures.value c.reference_on_line.ensures

pub returns-in-Unmarked-clause-value : goal.returns-in-Unmarked-clause-value
returns-in-Unmarked-clause-value c =
    ap first_reference (sym c.as_bytes.ensures.value)
    ∙ whole_text c.as_bytes.result.now _ c.in-Unmarked.ensures.unmarked c.as_bytes.ensures.utf8
    (subst (λ xs. length xs ≤ c.in-Unmarked.field-0) (sym c.as_bytes.ensures.value) c.in-Unmarked.ensures.many)
