use Rattle.sourcemap_references.proofs.ReferenceLemmas.{mark_boundary}
use Rattle.sourcemap_references.proofs.detector.url_after_mark.Goals as goal

pub range_from-requires : goal.range_from-requires
range_from-requires c = λ _. mark_boundary c.args.line.now c.requires c.utf8.line
