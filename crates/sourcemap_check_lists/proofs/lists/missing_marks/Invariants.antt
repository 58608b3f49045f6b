use Rattle.std.specs.Prelude.{is_none}
use Rattle.sourcemap_map_regular.specs.Map.{contents_of}
use Rattle.sourcemap_check_lists.proofs.MarkLemmas.{MarksSoFar}
use Rattle.sourcemap_check_lists.proofs.lists.missing_marks.Given as goal

abbrev pub invariant-loop-id : goal.invariant-loop-id
invariant-loop-id l = MarksSoFar (λ i. is_none (contents_of l.map i)) l.id l.marks.items
