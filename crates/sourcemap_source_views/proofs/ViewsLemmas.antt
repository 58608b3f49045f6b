-- What the iterator over the lines of a view has left.
use Rattle.std.proofs.Common.{◌≡◌, refl, sym, ap, ◌∙◌, ℕ, zero, suc, ◌+◌, ◌<◌, ◌≤◌, List, [], ◌∷◌, take, drop, Some}
use Rattle.std.proofs.Common.{None, slice_get, arith, OkIff, Result, Ok, Err}
use Rattle.std.specs.Result.{result_ok}
use Rattle.std.proofs.lemmas.Option.{none-some, same_Some}

-- if `index` is below `most`, and `x` is the item at `index`, then `x` is the first of the items left
pub drop-next : {X : Type 0} (xs : List X) (most index : ℕ) (x : X) → index < most → Some x ≡ slice_get xs index
    → drop index (take most xs) ≡ x ∷ drop (index + 1) (take most xs)
drop-next [] most index x l e = absurd (none-some x (sym e))
drop-next (y ∷ xs) zero index x l e = absurd (omega arith)
drop-next (y ∷ xs) (suc most) zero x l e = ap (λ z. z ∷ take most xs) (sym (same_Some x y e))
drop-next (y ∷ xs) (suc most) (suc index) x l e =
    let later : drop index (take most xs) ≡ x ∷ drop (index + 1) (take most xs) =
    drop-next xs most index x (omega arith) e in
    let at : suc (index + 1) ≡ suc index + 1 = omega arith in
    later ∙ ap (λ n. x ∷ drop n (y ∷ take most xs)) at

-- if there is no item at the index, nothing is left
pub drop-none : {X : Type 0} (xs : List X) (most index : ℕ) → None ≡ slice_get xs index → drop index (take most xs) ≡ []
drop-none [] zero zero e = refl
drop-none [] zero (suc index) e = refl
drop-none [] (suc most) zero e = refl
drop-none [] (suc most) (suc index) e = refl
drop-none (x ∷ xs) zero zero e = refl
drop-none (x ∷ xs) zero (suc index) e = refl
drop-none (x ∷ xs) (suc most) zero e = absurd (none-some x e)
drop-none (x ∷ xs) (suc most) (suc index) e = drop-none xs most index e

-- if the index has reached the maximum, nothing is left
pub drop-past : {X : Type 0} (xs : List X) (most index : ℕ) → most ≤ index → drop index (take most xs) ≡ []
drop-past xs zero zero l = refl
drop-past xs zero (suc index) l = refl
drop-past [] (suc most) zero l = refl
drop-past [] (suc most) (suc index) l = refl
drop-past (x ∷ xs) (suc most) zero l = absurd (omega arith)
drop-past (x ∷ xs) (suc most) (suc index) l = drop-past xs most index (omega arith)

-- if the conversion `r` of `n` to 32 bits has the value `line`, then `n` fits 32 bits and is `line`
pub number_there : {E : Type 0} (r : Result ℕ E) (n line : ℕ) → OkIff r (n < 4294967296) n → Some line ≡ result_ok r
    → (n < 4294967296) × (n ≡ line)
number_there (Ok y) n line h e = (h.0, sym h.1 ∙ same_Some y line (sym e))
number_there (Err y) n line h e = absurd (none-some line (sym e))

pub number_past : {E : Type 0} (r : Result ℕ E) (n : ℕ) → OkIff r (n < 4294967296) n → None ≡ result_ok r
    → 4294967296 ≤ n
number_past (Ok y) n h e = absurd (none-some y e)
number_past (Err y) n h e = let never = h in omega (arith, never)
