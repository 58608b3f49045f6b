-- Numbers in a list of bytes, lowest byte first. A byte past the end of the list counts as 0.
use Rattle.std.specs.Prelude.{ℕ, ◌+◌, ◌*◌, ◌/◌, ◌%◌, ◌^◌, List, drop}
use Rattle.byteorder.specs.Endian.{little_number}

-- the number in the four bytes from this offset on
unfoldable pub u32_at : List ℕ → ℕ → ℕ
u32_at bytes offset = little_number 4 (drop offset bytes)

-- the number in the eight bytes from this offset on
unfoldable pub u64_at : List ℕ → ℕ → ℕ
u64_at bytes offset = little_number 8 (drop offset bytes)

-- the number in `width` bits, at most 57, from a bit on. Bit 0 is the lowest bit of the byte at `start`
unfoldable pub bits_at : List ℕ → (start bit width : ℕ) → ℕ
bits_at bytes start bit width = u64_at bytes (start + bit / 8) / 2 ^ (bit % 8) % 2 ^ width

-- a position as one number: line times 2^32, plus column
abbrev pub position_number : ℕ × ℕ → ℕ
position_number p = p.0 * 2 ^ 32 + p.1
