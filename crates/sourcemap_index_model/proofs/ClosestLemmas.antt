-- The closest item of a concatenation.
use Rattle.std.proofs.Common.{◌≡◌, refl, sym, ap, ◌∙◌, List, [], ◌∷◌, ◌++◌, ℕ, find, Bool, false, cond, Option, Some, None}
use Rattle.std.proofs.lemmas.List.Folds.{find-append}
use Rattle.std.specs.List.{AllByRecursion}
use Rattle.std.specs.Option.{option_or}
use Rattle.std.specs.Ordering.{is_lt, is_eq}
use Rattle.sourcemap_tokens.specs.Search.{find_last, closest_item}
use Rattle.sourcemap_tokens.specs.Tokens.{position_cmp}
use Rattle.sourcemap_map_rewrite.proofs.NumberingLemmas.{option_or-None}
use Rattle.sourcemap_index_model.specs.FlatList.{IsBefore}
use Rattle.sourcemap_index_model.proofs.PositionLemmas.{not_after, not_there, not_here}

option_or-assoc : {X : Type 0} (a b c : Option X) → option_or (option_or a b) c ≡ option_or a (option_or b c)
option_or-assoc None b c = refl
option_or-assoc (Some x) b c = refl

find_last-append : {X : Type 0} (test : X → Bool) (xs ys : List X)
    → find_last test (xs ++ ys) ≡ option_or (find_last test ys) (find_last test xs)
find_last-append test [] ys = sym (option_or-None (find_last test ys))
find_last-append test (x ∷ xs) ys =
    ap (λ o. option_or o (cond (test x) (Some x) None)) (find_last-append test xs ys)
    ∙ option_or-assoc (find_last test ys) (find_last test xs) (cond (test x) (Some x) None)

module _ {X : Type 0} (test : X → Bool) where
  find-none : (xs : List X) → AllByRecursion (λ x. test x ≡ false) xs → find test xs ≡ None
  find-none [] all = refl
  find-none (x ∷ xs) all = rw all.0 (find-none xs all.1)

  find_last-none : (xs : List X) → AllByRecursion (λ x. test x ≡ false) xs → find_last test xs ≡ None
  find_last-none [] all = refl
  find_last-none (x ∷ xs) all = rw (all.0, find_last-none xs all.1) refl

module _ {X : Type 0} (key : X → ℕ × ℕ) (p : ℕ × ℕ) where
  none_there : (xs : List X) → AllByRecursion (λ x. IsBefore (key x) p) xs
      → AllByRecursion (λ x. is_eq (position_cmp (key x) p) ≡ false) xs
  none_there [] all = tt
  none_there (x ∷ xs) all = (not_there (key x) p all.0, none_there xs all.1)

  none_here : (xs : List X) → AllByRecursion (λ x. IsBefore p (key x)) xs
      → AllByRecursion (λ x. is_eq (position_cmp (key x) p) ≡ false) xs
  none_here [] all = tt
  none_here (x ∷ xs) all = (not_here p (key x) all.0, none_here xs all.1)

  none_after : (xs : List X) → AllByRecursion (λ x. IsBefore p (key x)) xs
      → AllByRecursion (λ x. is_lt (position_cmp (key x) p) ≡ false) xs
  none_after [] all = tt
  none_after (x ∷ xs) all = (not_after p (key x) all.0, none_after xs all.1)

  -- if all of `xs` are before `p`, the closest item of `xs ++ ys` is the closest item of `ys`, or of `xs` if `ys` has
  -- none
  pub closest_of_later : (xs ys : List X) → AllByRecursion (λ x. IsBefore (key x) p) xs
      → closest_item key position_cmp (xs ++ ys) p
      ≡ option_or (closest_item key position_cmp ys p) (closest_item key position_cmp xs p)
  closest_of_later xs ys all =
      let none : find (λ x. is_eq (position_cmp (key x) p)) xs ≡ None =
      find-none (λ x. is_eq (position_cmp (key x) p)) xs (none_there xs all) in
      rw (
        find-append (λ x. is_eq (position_cmp (key x) p)) xs ys,
        find_last-append (λ x. is_lt (position_cmp (key x) p)) xs ys,
        none,
      )
      (sym (option_or-assoc (find (λ x. is_eq (position_cmp (key x) p)) ys)
      (find_last (λ x. is_lt (position_cmp (key x) p)) ys) (find_last (λ x. is_lt (position_cmp (key x) p)) xs)))

  -- items after the position are never found
  pub closest_before : (xs ys : List X) → AllByRecursion (λ y. IsBefore p (key y)) ys
      → closest_item key position_cmp (xs ++ ys) p ≡ closest_item key position_cmp xs p
  closest_before xs ys all =
      let here : find (λ x. is_eq (position_cmp (key x) p)) ys ≡ None =
      find-none (λ x. is_eq (position_cmp (key x) p)) ys (none_here ys all) in
      let last : find_last (λ x. is_lt (position_cmp (key x) p)) ys ≡ None =
      find_last-none (λ x. is_lt (position_cmp (key x) p)) ys (none_after ys all) in
      rw (
        find-append (λ x. is_eq (position_cmp (key x) p)) xs ys,
        find_last-append (λ x. is_lt (position_cmp (key x) p)) xs ys,
        here,
        last,
        option_or-None (find (λ x. is_eq (position_cmp (key x) p)) xs),
      ) refl
