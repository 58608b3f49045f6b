use Rattle.std.proofs.Common.{◌≡◌, take, None}
use Rattle.sourcemap_vlq.specs.Bits.{first_non_digit}
use Rattle.sourcemap_vlq.proofs.BitLemmas.{bits_of}
use Rattle.sourcemap_vlq.proofs.bits.decode_rmi.Given as goal

abbrev pub invariant-loop-byte : goal.invariant-loop-byte
invariant-loop-byte l =
    (first_non_digit (take l.byte-index l.text) ≡ None) × (l.bits.items ≡ bits_of (take l.byte-index l.text))
