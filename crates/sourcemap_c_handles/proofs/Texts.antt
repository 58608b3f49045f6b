-- After `write_text` copies a text to an array of 256 bytes, the array is the one that `over` returns.
use Rattle.std.specs.Prelude.{◌≡◌, ℕ, ◌+◌, ◌<◌, List, ◌∷◌, ◌++◌, drop, length, slice_set, take}
use Rattle.std.proofs.Common.{add-zero, ap, arith, subst, sym, ◌∙◌}
use Rattle.std.proofs.lemmas.List.{drop-set, drop-set-add}
use Rattle.sourcemap_c_handles.specs.Errors.{over, written}

set-first : (xs : List ℕ) (n : ℕ) → n < length xs → slice_set (drop n xs) 0 0 ≡ 0 ∷ drop (n + 1) xs
set-first xs n h = sym (drop-set-add n xs 0 0) ∙ ap (λ i. drop n (slice_set xs i 0)) (add-zero n) ∙ drop-set xs n 0 h

few : (text : List ℕ) → written text < 256
few text = omega arith

pub written-over : (text old copied back : List ℕ) → length old ≡ 256 → copied ≡ take (written text) text → back ≡ drop (written text) old
    → copied ++ slice_set back 0 0 ≡ over text old
written-over text old copied back long is_copied is_back =
    let in_old : written text < length old = subst (λ n. written text < n) (sym long) (few text) in
    ap (λ xs. xs ++ slice_set back 0 0) is_copied
    ∙ ap (λ xs. take (written text) text ++ slice_set xs 0 0) is_back
    ∙ ap (λ xs. take (written text) text ++ xs) (set-first old (written text) in_old)
