use Rattle.std.proofs.Common.{◌≡◌, take, None}
use Rattle.sourcemap_vlq.specs.Bits.{first_non_digit}
use Rattle.sourcemap_vlq.proofs.bits.test_digits.Given as goal

abbrev pub invariant-loop-byte : goal.invariant-loop-byte
invariant-loop-byte l = first_non_digit (take l.byte-index l.text) ≡ None
