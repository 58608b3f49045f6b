use Rattle.sourcemap_check_lists.specs.Contents.{has_contents_doubt}
use Rattle.sourcemap_check_lists.proofs.MarkLemmas.{MarksSoFar}
use Rattle.sourcemap_check_lists.proofs.contents.contents_marks.Given as goal

abbrev pub invariant-loop-id : goal.invariant-loop-id
invariant-loop-id l = MarksSoFar (has_contents_doubt l.doubt l.map l.files) l.id l.marks.items
