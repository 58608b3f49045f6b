-- Blocks stored into a buffer, one after or over another.
use Rattle.std.proofs.Common.{◌≤◌, take, take-add, length-take-le, ◌≡◌, ℕ, ◌+◌, List, length, drop, sym, subst, arith}
use Rattle.json.specs.Filled.{Placed}
use Rattle.json.proofs.Printed.Places.{Placed-then}
use Rattle.sourcemap_json_read.proofs.ReadLemmas.{first_stored}

-- store the first `front` bytes of `text` at index `to` of a buffer. Then store `n` bytes of `text`, from index `at ≤
-- front` on, at index `to + at`. Now the first `at + n` bytes of `text` are stored at index `to`
pub stored_on : {a b c : List ℕ} (text : List ℕ) (to front at n : ℕ) → to ≤ length a → at ≤ front → front ≤ length text
    → Placed a b to (take front text) (to + front) → Placed b c (to + at) (take n (drop at text)) (to + at + n)
    → Placed a c to (take (at + n) text) (to + (at + n))
stored_on {a} {b} {c} text to front at n within few inside first next =
    let less : Placed a b to (take at text) (to + at) =
    record {
      bytes = first_stored a b text to at front within few first;
      moved = omega (arith, length-take-le at text (omega arith));
      len = first.len;
    } in
    let both = Placed-then less next in
    let end : to + at + n ≡ to + (at + n) = omega arith in
    subst (λ k. Placed a c to (take (at + n) text) k) end
    (subst (λ xs. Placed a c to xs (to + at + n)) (sym (take-add at n text)) both)
