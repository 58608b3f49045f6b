use Rattle.std.proofs.Common.{◌∙◌, Some, ap, subst, sym}
use Rattle.std.specs.Io.Buffered.{reader_remaining}
use Rattle.std.specs.Option.{option_map}
use Rattle.sourcemap_references.specs.Lines.{ReadsLine}
use Rattle.sourcemap_references.specs.Reference.{line_reference}
use Rattle.sourcemap_references.specs.References.{reference}
use Rattle.sourcemap_references.proofs.ReadingLemmas.{left_after, left_at_start}
use Rattle.sourcemap_references.proofs.detector.locate_sourcemap_reference.Goals as goal

pub loop-init : goal.loop-init
loop-init g c = left_at_start g.R.Read.remaining c.args.reader c.in_ok-reader.reader c.in_ok-reader.ensures.inner
    c.in_ok-reader.ensures.empty c.in_ok-reader.ensures.capacity

pub loop-preserved : goal.loop-preserved
loop-preserved g c =
    let reads = subst
    (λ more. ReadsLine (reader_remaining g.R.Read.remaining c.loop.reader)
    (reader_remaining g.R.Read.remaining c.read_line.new.reader) more c.read_line.new.line.items)
    c.if-not-branch.false c.in_ok-read_line.ensures in
    left_after _ _ _ _ c.loop.invariant reads
    (ap line_reference (sym c.as_slice.ensures.value) ∙ c.in_ok-found.ensures
    ∙ ap (λ found. Some (option_map reference found)) c.in_default.is)
