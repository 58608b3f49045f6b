-- Ignored sources, token by token.
use Rattle.std.proofs.Common.{◌≡◌, refl, sym, ap, ◌∙◌, ℕ, ◌+◌, ◌<◌, List, [], ◌∷◌, ◌++◌, length, map, filter, fold, take, get_or, Bool, true, false, cond, nat_eq, nat_lt, eqb-true, arith, ◌||◌}
use Rattle.std.specs.List.{list_any}
use Rattle.std.specs.BTreeSet.{insert_key}
use Rattle.std.specs.Ordering.{nat_cmp, is_eq}
use Rattle.std.proofs.lemmas.Bool.{ltb-true}
use Rattle.std.proofs.lemmas.List.{map-append, append-nil}
use Rattle.std.proofs.lemmas.List.Elements.{filter_more}
use Rattle.std.proofs.lemmas.List.Sums.{fold-append}
use Rattle.sourcemap_tokens.specs.declared.tokens.RawToken.{RawToken}
use Rattle.sourcemap_index_flatten.specs.Moving.{new_number, ignored_numbers}

abbrev is_ignored : List ℕ → RawToken → Bool
is_ignored ignored t = list_any (nat_eq t.src_id) ignored

pub ignored_numbers-none : (sources : List ℕ) (tokens : List RawToken) → ignored_numbers [] sources tokens ≡ []
ignored_numbers-none sources [] = refl
ignored_numbers-none sources (t ∷ ts) = ignored_numbers-none sources ts

is_eq-nat_cmp : (a b : ℕ) → is_eq (nat_cmp a b) ≡ nat_eq a b
is_eq-nat_cmp a b = by_case (nat_lt a b) (nat_eq a b) refl refl
  where
    by_case : (less same : Bool) → nat_lt a b ≡ less → nat_eq a b ≡ same → is_eq (nat_cmp a b) ≡ nat_eq a b
    by_case true true l s =
        let below : a < b = ltb-true a b l in
        let equal : a ≡ b = eqb-true a b s in
        absurd (omega arith)
    by_case true false l s = rw (l, s) refl
    by_case false true l s = rw (l, s) refl
    by_case false false l s = rw (l, s) refl

-- `BTreeSet::contains` tests with `nat_cmp` whether `ignored` contains `id`. The test with `nat_eq` gives the same
-- result
pub same_test : (id : ℕ) (ignored : List ℕ)
    → list_any (λ k. is_eq (nat_cmp id k)) ignored ≡ list_any (nat_eq id) ignored
same_test id [] = refl
same_test id (k ∷ ks) = λ i. is_eq-nat_cmp id k i || same_test id ks i

module _ (ignored sources : List ℕ) (tokens : List RawToken) (i : ℕ) (d : RawToken) (within : i < length tokens)
    (start now : List ℕ)
    (so_far : now ≡ fold (insert_key nat_cmp) start (ignored_numbers ignored sources (take i tokens))) where
  abbrev pub t : RawToken
  t = get_or tokens i d

  abbrev pub numbered : RawToken → ℕ
  numbered t = new_number sources t.src_id

  pub listed-more : is_ignored ignored t ≡ true
      → insert_key nat_cmp now (numbered t)
      ≡ fold (insert_key nat_cmp) start (ignored_numbers ignored sources (take (i + 1) tokens))
  listed-more passes =
      ap (λ ks. insert_key nat_cmp ks (new_number sources (get_or tokens i d).src_id)) so_far
      ∙ sym (fold-append (insert_key nat_cmp) start (ignored_numbers ignored sources (take i tokens))
      (new_number sources (get_or tokens i d).src_id ∷ []))
      ∙ ap (fold (insert_key nat_cmp) start) (sym
      (ap (map (λ t. new_number sources t.src_id))
      (filter_more (is_ignored ignored) tokens i d within ∙ rw passes refl)
      ∙ map-append (λ (t : RawToken). new_number sources t.src_id) (filter (is_ignored ignored) (take i tokens))
      (get_or tokens i d ∷ [])))

  pub listed-same : is_ignored ignored t ≡ false
      → now ≡ fold (insert_key nat_cmp) start (ignored_numbers ignored sources (take (i + 1) tokens))
  listed-same stays =
      let same : filter (is_ignored ignored) (take (i + 1) tokens) ≡ filter (is_ignored ignored) (take i tokens) =
      filter_more (is_ignored ignored) tokens i d within
      ∙ ap (λ b. filter (is_ignored ignored) (take i tokens) ++ cond b (get_or tokens i d ∷ []) []) stays
      ∙ append-nil (filter (is_ignored ignored) (take i tokens)) in
      so_far ∙ ap (λ ts. fold (insert_key nat_cmp) start (map (λ (t : RawToken). new_number sources t.src_id) ts))
      (sym same)

no_items : {X : Type 0} (xs : List X) → length xs ≡ 0 → xs ≡ []
no_items [] none = refl
no_items (x ∷ xs) none = absurd (omega arith)

-- without ignored sources nothing is inserted
pub listed-none : (ignored sources start : List ℕ) (tokens : List RawToken) → length ignored ≡ 0
    → start ≡ fold (insert_key nat_cmp) start (ignored_numbers ignored sources tokens)
listed-none ignored sources start tokens none =
    ap (fold (insert_key nat_cmp) start) (sym
    (ap (λ ids. ignored_numbers ids sources tokens) (no_items ignored none) ∙ ignored_numbers-none sources tokens))
