use Rattle.std.proofs.Common.{take}
use Rattle.sourcemap_index_flatten.specs.Moving.{AreMoved}
use Rattle.sourcemap_index_flatten.proofs.moving.move_all.Given as goal

abbrev pub invariant-loop-token : goal.invariant-loop-token
invariant-loop-token l = AreMoved l.initial.to (take l.token-index l.tokens) l.fn.all.items l.list.items
