-- Numbers in bytes.
use Rattle.std.proofs.Common.{◌≡◌, refl, ℕ, zero, suc, List, slice_index}
use Rattle.byteorder.specs.Endian.{little_from}

-- bytes that agree wherever they are read have the same number
pub little_from-same : (i n : ℕ) (xs ys : List ℕ) → ((k : ℕ) → slice_index xs k ≡ slice_index ys k)
    → little_from i n xs ≡ little_from i n ys
little_from-same i zero xs ys same = refl
little_from-same i (suc n) xs ys same =
    let rest = little_from-same (suc i) n xs ys same in
    rw (same i, rest) refl
