use Rattle.std.proofs.Common.{take, IfSome}
use Rattle.std.specs.List.{AllByRecursion}
use Rattle.sourcemap_records.specs.Jsontypes.{FitsU32}
use Rattle.sourcemap_index.proofs.encode.look_at.Given as goal

-- the numbers that were looked at fit in 32 bits
abbrev pub invariant-loop-number : goal.invariant-loop-number
invariant-loop-number l = AllByRecursion (λ n. IfSome n FitsU32) (take l.number-index l.numbers)
