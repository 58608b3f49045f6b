use Rattle.std.proofs.Common.{◌-◌, length}
use Rattle.sourcemap_json_read.specs.Words.{AreDigits}
use Rattle.sourcemap_json_read.proofs.words.digits.Given as goal

abbrev pub invariant-loop-digit : goal.invariant-loop-digit
invariant-loop-digit l = AreDigits l.text l.from l.value l.at

abbrev pub decreases-loop-digit : goal.decreases-loop-digit
decreases-loop-digit l = length l.text - l.at
