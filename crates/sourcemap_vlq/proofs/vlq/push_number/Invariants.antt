use Rattle.std.proofs.Common.{◌≡◌, ℕ, ◌+◌, ◌*◌, ◌^◌, ◌<◌, ◌≤◌, List, ◌++◌, length, string_bytes}
use Rattle.std.specs.List.{AllByRecursion}
use Rattle.std.specs.Prelude.{string_capacity, string_len}
use Rattle.sourcemap_vlq.specs.Vlq.{raw_of, HasContinuation}
use Rattle.sourcemap_vlq.proofs.vlq.push_number.Given as goal

abbrev pub invariant-loop-raw : goal.invariant-loop-raw
invariant-loop-raw l = (part : List ℕ) × (string_bytes l.text ≡ string_bytes l.initial.text ++ part)
    × AllByRecursion HasContinuation part × (l.initial.raw ≡ raw_of part + 2 ^ (5 * length part) * l.raw)
    × (0 < length part → 0 < l.raw)
    × (string_len l.text + 13 ≤ string_capacity l.text + length part)

abbrev pub decreases-loop-raw : goal.decreases-loop-raw
decreases-loop-raw l = l.raw
