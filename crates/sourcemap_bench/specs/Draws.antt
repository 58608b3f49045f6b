-- Pseudo-random numbers and positions.
use Rattle.std.specs.Prelude.{◌≡◌, ℕ, ◌+◌, ◌*◌, ◌/◌, ◌%◌, ◌^◌, ◌≤◌, bit_xor, slice_get, IsSomeAnd}
use Rattle.sourcemap.specs.Types.{MapValue}

-- each draw of the generator splitmix64 first adds this increment to the state, modulo 2^64
abbrev pub step : ℕ
step = 11400714819323198485

-- a mixing step of the generator splitmix64; in Rust notation `(n ^ (n >> shift)) * factor`, modulo 2^64
abbrev pub stirred : ℕ → ℕ → ℕ → ℕ
stirred shift factor n = (bit_xor n (n / 2 ^ shift) * factor) % 2 ^ 64

-- the output of the generator splitmix64 for the state `n` of 64 bits, to which `step` has already been added
abbrev pub scrambled : ℕ → ℕ
scrambled n =
    let m = stirred 27 10723151780598845931 (stirred 30 13787848793156543929 n) in
    bit_xor m (m / 2 ^ 31)

-- a position at a token, or up to three columns after it
abbrev pub IsBeside : MapValue → ℕ × ℕ → Type 0
IsBeside m p = (index : ℕ) × IsSomeAnd (slice_get m.tokens index)
    (λ t. (p.0 ≡ t.dst_line) × (t.dst_col ≤ p.1) × (p.1 ≤ t.dst_col + 3))
