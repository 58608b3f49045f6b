use Rattle.std.proofs.Common.{take, string_bytes}
use Rattle.sourcemap_vlq.specs.Vlq.{Spells}
use Rattle.sourcemap_vlq.proofs.vlq.generate_vlq_segment.Given as goal

abbrev pub invariant-loop-number : goal.invariant-loop-number
invariant-loop-number l = Spells (take l.number-index l.numbers) (string_bytes l.text)
