-- The indices of distinct strings.
use Rattle.std.proofs.Common.{◌≡◌, refl, sym, ap, subst, ℕ, zero, suc, ◌+◌, ◌-◌, ◌≤◌, List, [], ◌∷◌, ◌++◌, length, Bool}
use Rattle.std.proofs.Common.{true, false, cond, Some, None, Option, arith, inl, inr, ◌⊎◌, slice_get, zero-add}
use Rattle.std.specs.List.{position_from}
use Rattle.std.specs.Option.{option_or}
use Rattle.std.specs.Str.{bytes_eq}
use Rattle.std.proofs.lemmas.Bool.{cases_Bool}
use Rattle.std.proofs.lemmas.Slice.Eq.{bytes_eq-Decides}
use Rattle.sourcemap_interning.specs.Interner.{id_of, AreDistinct}

position_from-append : {X : Type 0} (t : X → Bool) (i : ℕ) (xs : List X) (y : X)
    → position_from t i (xs ++ y ∷ []) ≡ option_or (position_from t i xs) (cond (t y) (Some (i + length xs)) None)
position_from-append t i [] y = let here : i + 0 ≡ i = omega arith in rw here refl
position_from-append t i (x ∷ xs) y =
    let later : position_from t (i + 1) (xs ++ y ∷ []) ≡ option_or (position_from t (i + 1) xs) (cond (t y)
    (Some (i + 1 + length xs)) None) = position_from-append t (i + 1) xs y in
    let index : i + 1 + length xs ≡ i + suc (length xs) = omega arith in
    elim (t x) as (λ b. cond b (Some i) (position_from t (i + 1) (xs ++ y ∷ []))
    ≡ option_or (cond b (Some i) (position_from t (i + 1) xs)) (cond (t y) (Some (i + suc (length xs))) None))
    [ true ↦ refl | false ↦ rw index at later ]

pub slice_get-append : {X : Type 0} (xs : List X) (y : X) (i : ℕ) (z : X) → slice_get (xs ++ y ∷ []) i ≡ Some z
    → (slice_get xs i ≡ Some z) ⊎ ((i ≡ length xs) × (y ≡ z))
slice_get-append [] y zero z e = inr (refl, cc)
slice_get-append [] y (suc i) z e = cc
slice_get-append (x ∷ xs) y zero z e = inl e
slice_get-append (x ∷ xs) y (suc i) z e =
    elim (slice_get-append xs y i z e) [ inl h ↦ inl h | inr h ↦ inr (omega arith, h.1) ]

pub bytes_eq-refl : (text : List ℕ) → bytes_eq text text ≡ true
bytes_eq-refl text = (bytes_eq-Decides text text).1 refl

bytes_eq-false : (a b : List ℕ) → (a ≡ b → bytes_eq a b ≡ true → ⊥) → bytes_eq a b ≡ false
bytes_eq-false a b apart = elim (cases_Bool (bytes_eq a b)) [
  | inl h ↦ absurd (apart ((bytes_eq-Decides a b).0 h) h)
  | inr h ↦ h
]

-- appending a new string `text` to `texts` gives `text` the id `length texts`, and changes the id of no other string
pub id_of-append : (texts : List (List ℕ)) (text : List ℕ) → id_of text texts ≡ None → (other : List ℕ)
    → id_of other (texts ++ text ∷ []) ≡ cond (bytes_eq text other) (Some (length texts)) (id_of other texts)
id_of-append texts text new other =
    let appended : id_of other (texts ++ text ∷ []) ≡ option_or (id_of other texts) (cond (bytes_eq other text)
    (Some (0 + length texts)) None) = position_from-append (bytes_eq other) 0 texts text in
    elim (cases_Bool (bytes_eq text other)) [
      | inl h ↦
          let same : text ≡ other = (bytes_eq-Decides text other).0 h in
          let found : bytes_eq other text ≡ true = (bytes_eq-Decides other text).1 (sym same) in
          let none : id_of other texts ≡ None = subst (λ t. id_of t texts ≡ None) same new in
          rw (appended, none, found, h, zero-add) refl
      | inr h ↦
          let apart : bytes_eq other text ≡ false =
          bytes_eq-false other text (λ e _. absurd (unequal text other h (sym e))) in
          rw (appended, apart, h) (option_or-None (id_of other texts))
    ]
  where
    unequal : (a b : List ℕ) → bytes_eq a b ≡ false → a ≡ b → ⊥
    unequal a b apart e = let yes : bytes_eq a b ≡ true = (bytes_eq-Decides a b).1 e in cc

    option_or-None : (o : Option ℕ) → option_or o None ≡ o
    option_or-None None = refl
    option_or-None (Some x) = refl

-- let the strings of `texts` be distinct. If `texts` does not contain `text`, the strings of `texts ++ text ∷ []` are
-- distinct
pub AreDistinct-append : (texts : List (List ℕ)) (text : List ℕ) → AreDistinct texts → id_of text texts ≡ None
    → AreDistinct (texts ++ text ∷ [])
AreDistinct-append texts text distinct new one id at =
    elim (slice_get-append texts text id one at) [
      | inl h ↦
          let old : id_of one texts ≡ Some id = distinct one id h in
          elim (cases_Bool (bytes_eq text one)) [
            | inl e ↦
                let same : text ≡ one = (bytes_eq-Decides text one).0 e in
                let none : id_of one texts ≡ None = subst (λ t. id_of t texts ≡ None) same new in
                cc
            | inr e ↦ rw (id_of-append texts text new one, e) old
          ]
      | inr h ↦
          let found : bytes_eq text one ≡ true = (bytes_eq-Decides text one).1 h.1 in
          let last : length texts ≡ id = sym h.0 in
          rw (id_of-append texts text new one, found, last) refl
    ]

-- a new string has the last index
pub id_of-last : (texts : List (List ℕ)) (text : List ℕ) (count : ℕ) → length texts ≡ count → id_of text texts ≡ None
    → id_of text (texts ++ text ∷ []) ≡ Some count
id_of-last texts text count counted missing =
    let same : bytes_eq text text ≡ true = bytes_eq-refl text in
    rw (id_of-append texts text missing text, same, counted) refl

index_from : (text : List ℕ) (i : ℕ) (texts : List (List ℕ)) (id : ℕ) → position_from (bytes_eq text) i texts ≡ Some id
    → (i ≤ id) × (slice_get texts (id - i) ≡ Some text)
index_from text i [] id e = cc
index_from text i (first ∷ texts) id e =
    elim (cases_Bool (bytes_eq text first)) [
      | inl h ↦
          let same : text ≡ first = (bytes_eq-Decides text first).0 h in
          let here : Some i ≡ Some id = rw h at e in
          let index : i ≡ id = cc in
          let none : id - i ≡ 0 = omega arith in
          (omega arith, rw none (ap Some (sym same)))
      | inr h ↦
          let later = index_from text (i + 1) texts id (rw h at e) in
          let index : id - i ≡ suc (id - (i + 1)) = omega (arith, later.0) in
          (omega (arith, later.0), rw index later.1)
    ]

-- if `text` has the id `id`, `texts` has `text` at index `id`
pub slice_get-id_of : (text : List ℕ) (texts : List (List ℕ)) (id : ℕ) → id_of text texts ≡ Some id
    → slice_get texts id ≡ Some text
slice_get-id_of text texts id e = let same : id - 0 ≡ id = omega arith in
    subst (λ n. slice_get texts n ≡ Some text) same (index_from text 0 texts id e).1
