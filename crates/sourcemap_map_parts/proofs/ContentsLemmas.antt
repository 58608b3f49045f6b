-- Items of lists that are cut or filled to a length. std has lemmas on `take`, `++` and `replicate`, but none
-- on this combination.
use Rattle.std.proofs.Common.{◌≡◌, ℕ, zero, suc, ◌+◌, ◌<◌, ◌≤◌, List, [], ◌∷◌, ◌++◌, length, take, drop, replicate}
use Rattle.std.proofs.Common.{Option, Some, None, slice_get, refl, arith, length-take, length-append, add-one}
use Rattle.std.proofs.Common.{option_and_then}
use Rattle.std.proofs.lemmas.List.{length-replicate}
use Rattle.sourcemap_map_parts.specs.Contents.{fitted}

module _ {X : Type 0} where
  drop-at : (xs : List X) (i : ℕ) (x : X) → slice_get xs i ≡ Some x → drop i xs ≡ x ∷ drop (suc i) xs
  drop-at [] i x e = cc
  drop-at (y ∷ ys) zero x e = cc
  drop-at (y ∷ ys) (suc i) x e = drop-at ys i x e

  pub drop-from_slice_get : (xs : List X) (i : ℕ) (x : X) → slice_get xs i ≡ Some x → drop i xs ≡ x ∷ drop (i + 1) xs
  drop-from_slice_get xs i x e = rw add-one (drop-at xs i x e)

  pub drop-past : (xs : List X) (i : ℕ) → slice_get xs i ≡ None → drop i xs ≡ []
  drop-past [] zero e = refl
  drop-past [] (suc i) e = refl
  drop-past (y ∷ ys) zero e = cc
  drop-past (y ∷ ys) (suc i) e = drop-past ys i e

same_all_over : {X : Type 0} (x : X) (n k i : ℕ) → n ≤ k → i < n → slice_get (take n (replicate k x)) i ≡ Some x
same_all_over x zero k i fits here = absurd (omega arith)
same_all_over x (suc n) zero i fits here = absurd (omega arith)
same_all_over x (suc n) (suc k) zero fits here = refl
same_all_over x (suc n) (suc k) (suc i) fits here = same_all_over x n k i (omega arith) (omega arith)

filled : {X : Type 0} (items : List (Option X)) (n k i : ℕ) → n ≤ k → i < n
    → slice_get (take n (items ++ replicate k None)) i ≡ Some (option_and_then (λ x. x) (slice_get items i))
filled [] n k i fits here = same_all_over None n k i fits here
filled (x ∷ xs) zero k i fits here = absurd (omega arith)
filled (x ∷ xs) (suc n) k zero fits here = refl
filled (x ∷ xs) (suc n) k (suc i) fits here = filled xs n k i (omega arith) (omega arith)

-- for `i` below `n`, item `i` of `fitted n contents` is item `i` of `contents`, or `None` past the end of `contents`
pub slice_get-fitted : (contents : List (Option (List ℕ))) (n i : ℕ) → i < n
    → slice_get (fitted n contents) i ≡ Some (option_and_then (λ x. x) (slice_get contents i))
slice_get-fitted contents n i here = filled contents n n i (omega arith) here

pub drop-fitted : (contents : List (Option (List ℕ))) (n i : ℕ) → i < n
    → drop i (fitted n contents) ≡ option_and_then (λ x. x) (slice_get contents i) ∷ drop (i + 1) (fitted n contents)
drop-fitted contents n i here = drop-from_slice_get (fitted n contents) i _ (slice_get-fitted contents n i here)

filled-length : {X : Type 0} (items : List (Option X)) (n : ℕ) → length (take n (items ++ replicate n None)) ≡ n
filled-length items n = simp (length-take, length-append, length-replicate) (omega arith)

pub length-fitted : (contents : List (Option (List ℕ))) (n : ℕ) → length (fitted n contents) ≡ n
length-fitted contents n = filled-length contents n
