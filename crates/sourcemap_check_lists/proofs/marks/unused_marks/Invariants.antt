use Rattle.sourcemap_check_lists.proofs.MarkLemmas.{UnusedSoFar}
use Rattle.sourcemap_check_lists.proofs.marks.unused_marks.Given as goal

abbrev pub invariant-loop-token : goal.invariant-loop-token
invariant-loop-token l = UnusedSoFar l.field l.tokens l.count l.token-index l.unused.items
