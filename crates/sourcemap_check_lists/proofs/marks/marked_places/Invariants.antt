use Rattle.std.proofs.Common.{◌≡◌, false, get_or, take}
use Rattle.sourcemap_check_texts.specs.Doubts.{marked}
use Rattle.sourcemap_check_lists.proofs.marks.marked_places.Given as goal

abbrev pub invariant-loop-index : goal.invariant-loop-index
invariant-loop-index l = l.first.items ≡ take l.most (marked (λ i. get_or l.marks i false) l.index)
