use Rattle.std.proofs.Common.{◌≡◌, ℕ, ◌+◌, ◌≤◌, List, ◌++◌, length, string_bytes}
use Rattle.std.specs.Prelude.{string_capacity, string_len}
use Rattle.sourcemap_vlq.proofs.BitLemmas.{Begins}
use Rattle.sourcemap_vlq.proofs.bits.push_bits.Given as goal

abbrev pub invariant-loop-digit : goal.invariant-loop-digit
invariant-loop-digit l = (part : List ℕ) × (string_bytes l.text ≡ string_bytes l.initial.text ++ part)
    × (length part ≡ l.digit) × Begins l.bits part × (string_len l.text + l.digits ≤ string_capacity l.text + l.digit)
