use Rattle.std.specs.Io.Buffered.{reader_remaining}
use Rattle.sourcemap_references.proofs.ReadingLemmas.{HasLeft}
use Rattle.sourcemap_references.proofs.detector.locate_sourcemap_reference.Given as goal

abbrev pub invariant-loop : goal.invariant-loop
invariant-loop g l = HasLeft (g.R.Read.remaining l.fn.reader) (reader_remaining g.R.Read.remaining l.reader)
