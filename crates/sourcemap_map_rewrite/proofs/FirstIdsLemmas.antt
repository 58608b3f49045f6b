-- For each text in use, the first old number (`first_of`) is an index of this text. No two texts in use have the same
-- first old number.
use Rattle.std.proofs.Common.{◌≡◌, refl, sym, ap, subst, ◌∙◌, ℕ, suc, List, [], ◌∷◌, ◌++◌, append_assoc, map, fold}
use Rattle.std.proofs.Common.{get_or, Bool, true, false, cond, Some, None, Option, arith, inl, inr, slice_get, is_some}
use Rattle.std.proofs.Common.{option_map, unwrap_or, nat_eq}
use Rattle.std.specs.List.{AllByRecursion, IsDistinct, find}
use Rattle.std.specs.Option.{option_or, option_map_or}
use Rattle.std.specs.Str.{bytes_eq}
use Rattle.std.proofs.lemmas.Bool.{cases_Bool}
use Rattle.std.proofs.lemmas.Bool.Decides.{nat_tests}
use Rattle.std.proofs.lemmas.List.Folds.{find-append}
use Rattle.std.proofs.lemmas.Option.{slice_get-map}
use Rattle.std.proofs.lemmas.Slice.Eq.{bytes_eq-Decides}
use Rattle.sourcemap_interning.specs.Interner.{id_of, with_text}
use Rattle.sourcemap_tokens.specs.declared.tokens.RawToken.{RawToken}
use Rattle.sourcemap_tokens.proofs.AllLemmas.{All-append, All-at, All-unmapped}
use Rattle.sourcemap_map_rewrite.specs.FirstIds.{names_text, first_of, firsts_of}
use Rattle.sourcemap_map_rewrite.specs.Kept.{present}
use Rattle.sourcemap_map_rewrite.specs.Numbering.{first_some, texts_in_use, AreSeen}
use Rattle.sourcemap_map_rewrite.specs.Rewritten.{first_ids_used}
use Rattle.sourcemap_map_rewrite.specs.declared.numbering.NewNumbers.{NewNumbers}
use Rattle.sourcemap_map_rewrite.proofs.NumberingLemmas.{IsListedIfAny, distinct-texts_in_use, used-kept}

-- Numbers that name a text.

pub names : (texts : List (List ℕ)) (text : List ℕ) (id : ℕ) → slice_get texts id ≡ Some text
    → names_text texts text id ≡ true
names texts text id at = rw at ((bytes_eq-Decides text text).1 refl)

pub named : (texts : List (List ℕ)) (text : List ℕ) (id : ℕ) → names_text texts text id ≡ true
    → slice_get texts id ≡ Some text
named texts text id = by_case (slice_get texts id)
  where
    by_case : (o : Option (List ℕ)) → option_map_or (bytes_eq text) o false ≡ true → o ≡ Some text
    by_case None e = cc
    by_case (Some other) e = ap Some (sym ((bytes_eq-Decides text other).0 e))

-- let `kept` contain each text that `texts` has at an index in `ids`. If `kept` lacks `text`, no number in `ids` is an
-- index of `text`
none_names : (texts kept : List (List ℕ)) (text : List ℕ) → id_of text kept ≡ None → (ids : List ℕ)
    → AllByRecursion (λ id. IsListedIfAny kept (slice_get texts id)) ids → find (names_text texts text) ids ≡ None
none_names texts kept text new [] all = refl
none_names texts kept text new (id ∷ ids) all =
    let rest = none_names texts kept text new ids all.1 in
    let here = another (slice_get texts id) all.0 in
    rw here rest
  where
    another : (o : Option (List ℕ)) → IsListedIfAny kept o → option_map_or (bytes_eq text) o false ≡ false
    another None h = refl
    another (Some other) h =
        elim (cases_Bool (bytes_eq text other)) [
          | inl same ↦
              let alike : text ≡ other = (bytes_eq-Decides text other).0 same in
              let old : id_of text kept ≡ Some h.0 = subst (λ t. id_of t kept ≡ Some h.0) (sym alike) h.1 in
              cc
          | inr apart ↦ apart
        ]

pub none_before : (texts : List (List ℕ)) (ids : List ℕ) (text : List ℕ) → id_of text (texts_in_use texts ids) ≡ None
    → find (names_text texts text) ids ≡ None
none_before texts ids text new =
    none_names texts (texts_in_use texts ids) text new ids
    (All-unmapped (IsListedIfAny (texts_in_use texts ids)) (slice_get texts) ids
    (used-kept (map (slice_get texts) ids)))

-- let `id` be an index of `text` in `texts`. If no number in `before` is an index of `text`, then `id` is the first
-- number in `before ++ id ∷ later` that is an index of `text` (`first_of`)
pub first_here : (texts : List (List ℕ)) (before later : List ℕ) (id : ℕ) (text : List ℕ)
    → id_of text (texts_in_use texts before) ≡ None → slice_get texts id ≡ Some text
    → first_of texts (before ++ id ∷ later) text ≡ id
first_here texts before later id text new at =
    let test : ℕ → Bool = names_text texts text in
    let none : find test before ≡ None = none_before texts before text new in
    let here : test id ≡ true = names texts text id at in
    let found : find test (id ∷ later) ≡ Some id = rw here refl in
    ap (λ o. unwrap_or o 4294967295)
    (find-append test before (id ∷ later) ∙ ap (λ o. option_or o (find test (id ∷ later))) none ∙ found)

-- For each text in use, the list of old numbers contains an index of the text.

abbrev IsFound : List (List ℕ) → List ℕ → List ℕ → Type 0
IsFound texts ids text = (id : ℕ) × (find (names_text texts text) ids ≡ Some id)

found_in : (test : ℕ → Bool) (xs ys : List ℕ) (x : ℕ) → test x ≡ true → (id : ℕ) × (find test (xs ++ x ∷ ys) ≡ Some id)
found_in test [] ys x e = (x, rw e refl)
found_in test (z ∷ xs) ys x e = by_case (test z) (found_in test xs ys x e)
  where
    by_case : (b : Bool) → (id : ℕ) × (find test (xs ++ x ∷ ys) ≡ Some id)
        → (id : ℕ) × (cond b (Some z) (find test (xs ++ x ∷ ys)) ≡ Some id)
    by_case true h = (z, refl)
    by_case false h = h

all_found : (texts : List (List ℕ)) (xs ids : List ℕ)
    → AllByRecursion (IsFound texts (xs ++ ids)) (present (map (slice_get texts) ids))
all_found texts xs [] = tt
all_found texts xs (id ∷ ids) =
    by_case (slice_get texts id) refl
    (subst (λ all. AllByRecursion (IsFound texts all) (present (map (slice_get texts) ids)))
    (append_assoc xs (id ∷ []) ids) (all_found texts (xs ++ id ∷ []) ids))
  where
    by_case : (o : Option (List ℕ)) → slice_get texts id ≡ o
        → AllByRecursion (IsFound texts (xs ++ id ∷ ids)) (present (map (slice_get texts) ids))
        → AllByRecursion (IsFound texts (xs ++ id ∷ ids)) (present (o ∷ map (slice_get texts) ids))
    by_case None at rest = rest
    by_case (Some text) at rest = (found_in (names_text texts text) xs ids id (names texts text id at), rest)

all_kept : (P : List ℕ → Type 0) (kept texts : List (List ℕ)) → AllByRecursion P kept → AllByRecursion P texts
    → AllByRecursion P (fold with_text kept texts)
all_kept P kept [] h k = h
all_kept P kept (text ∷ texts) h k = all_kept P (with_text kept text) texts (by_case (id_of text kept)) k.1
  where
    by_case : (o : Option ℕ) → AllByRecursion P (cond (is_some o) kept (kept ++ text ∷ []))
    by_case None = All-append P kept (text ∷ []) h (k.0, tt)
    by_case (Some n) = h

passes : (test : ℕ → Bool) (ids : List ℕ) (id : ℕ) → find test ids ≡ Some id → test id ≡ true
passes test [] id e = cc
passes test (x ∷ ids) id e = by_case (test x) refl (passes test ids id) e
  where
    by_case : (b : Bool) → test x ≡ b → (find test ids ≡ Some id → test id ≡ true)
        → cond b (Some x) (find test ids) ≡ Some id → test id ≡ true
    by_case true here later e = let same : x ≡ id = cc in subst (λ y. test y ≡ true) same here
    by_case false here later e = later e

-- if `text` is in use, `first_of texts ids text` is an index of `text` in `texts`
pub first_names : (texts : List (List ℕ)) (ids : List ℕ) (k : ℕ) (text : List ℕ)
    → slice_get (texts_in_use texts ids) k ≡ Some text → slice_get texts (first_of texts ids text) ≡ Some text
first_names texts ids k text at =
    let found : IsFound texts ids text =
    All-at (IsFound texts ids) (texts_in_use texts ids) k text at
    (all_kept (IsFound texts ids) [] (present (map (slice_get texts) ids)) tt (all_found texts [] ids)) in
    let is : first_of texts ids text ≡ found.0 = ap (λ o. unwrap_or o 4294967295) found.1 in
    ap (slice_get texts) is ∙ named texts text found.0 (passes (names_text texts text) ids found.0 found.1)

-- No two texts in use have the same first old number (`firsts_of`).

distinct_by_index : (xs : List ℕ) → ((i j x : ℕ) → slice_get xs i ≡ Some x → slice_get xs j ≡ Some x → i ≡ j)
    → IsDistinct nat_eq xs
unfolding IsDistinct
distinct_by_index [] apart = tt
distinct_by_index (x ∷ xs) apart = (
  others xs (λ j e. let same : 0 ≡ suc j = apart 0 (suc j) x refl e in omega (arith, same)),
  distinct_by_index xs (λ i j y e f. let same : suc i ≡ suc j = apart (suc i) (suc j) y e f in omega (arith, same)),
)
  where
    others : (ys : List ℕ) → ((j : ℕ) → slice_get ys j ≡ Some x → ⊥) → AllByRecursion (λ y. nat_eq x y ≡ false) ys
    others [] never = tt
    others (y ∷ ys) never = (by_case (nat_eq x y) refl, others ys (λ j e. never (suc j) e))
      where
        by_case : (b : Bool) → nat_eq x y ≡ b → nat_eq x y ≡ false
        by_case false e = e
        by_case true e = let same : x ≡ y = grind (arith, nat_tests, e) in absurd (never 0 (ap Some (sym same)))

pub firsts-distinct : (texts : List (List ℕ)) (ids : List ℕ) → IsDistinct nat_eq (firsts_of texts ids)
firsts-distinct texts ids = distinct_by_index (firsts_of texts ids) apart
  where
    -- if `firsts_of` has `x` at index `k`, then `x` is an index of the text that `texts_in_use` has at `k`
    text_at : (k x : ℕ) → slice_get (firsts_of texts ids) k ≡ Some x
        → (text : List ℕ) × (slice_get (texts_in_use texts ids) k ≡ Some text) × (slice_get texts x ≡ Some text)
    text_at k x e = by_case (slice_get (texts_in_use texts ids) k) refl
      where
        by_case : (o : Option (List ℕ)) → slice_get (texts_in_use texts ids) k ≡ o
            → (text : List ℕ) × (slice_get (texts_in_use texts ids) k ≡ Some text) × (slice_get texts x ≡ Some text)
        by_case None none = let mapped =
            slice_get-map (first_of texts ids) (texts_in_use texts ids) k ∙ ap (option_map (first_of texts ids)) none in
            cc
        by_case (Some text) at =
            let mapped =
            slice_get-map (first_of texts ids) (texts_in_use texts ids) k ∙ ap (option_map (first_of texts ids)) at in
            let same : first_of texts ids text ≡ x = cc in
            (text, at, subst (λ y. slice_get texts y ≡ Some text) same (first_names texts ids k text at))

    one_index : (one other : List ℕ) (i j : ℕ) → Some one ≡ Some other → id_of one (texts_in_use texts ids) ≡ Some i
        → id_of other (texts_in_use texts ids) ≡ Some j → i ≡ j
    one_index one other i j same first second = cc

    apart : (i j x : ℕ) → slice_get (firsts_of texts ids) i ≡ Some x
        → slice_get (firsts_of texts ids) j ≡ Some x → i ≡ j
    apart i j x e f =
        let (one, at_one, named_one) = text_at i x e in
        let (other, at_other, named_other) = text_at j x f in
        one_index one other i j (sym named_one ∙ named_other) (distinct-texts_in_use texts ids one i at_one)
        (distinct-texts_in_use texts ids other j at_other)

-- Let `s` have seen the sources of the tokens (`AreSeen`), and let `text` be a source in use. The first number in
-- `s.order` that is an index of `text` is also the first source id, in the order of the tokens, that is an index of
-- `text`.

-- the text whose only item is `id`, if `id` passes `test`; otherwise `None`
abbrev passing : (ℕ → Bool) → ℕ → Option (List ℕ)
passing test id = cond (test id) (Some (id ∷ [])) None

first_passing : (test : ℕ → Bool) (ids : List ℕ)
    → option_map (λ text. get_or text 0 0) (first_some (passing test) ids) ≡ find test ids
first_passing test [] = refl
first_passing test (id ∷ ids) = by_case (test id) (first_passing test ids)
  where
    by_case : (b : Bool) → option_map (λ text. get_or text 0 0) (first_some (passing test) ids) ≡ find test ids
        → option_map (λ text. get_or text 0 0) (option_or (cond b (Some (id ∷ [])) None)
        (first_some (passing test) ids)) ≡ cond b (Some id) (find test ids)
    by_case true e = refl
    by_case false e = e

pub firsts-used : (S N : List (List ℕ)) (ts : List RawToken) (s n : NewNumbers) → AreSeen S N ts s n
    → firsts_of S s.order.items ≡ first_ids_used S ts
firsts-used S N ts s n seen =
    (λ i. map (λ text. same text i) (texts_in_use S s.order.items))
    ∙ ap (map (first_of S (map (λ t. t.src_id) ts))) seen.kept_sources
  where
    past : (text : List ℕ) (id : ℕ) → slice_get S id ≡ None → passing (names_text S text) id ≡ None
    past text id e = rw e refl

    same : (text : List ℕ) → first_of S s.order.items text ≡ first_of S (map (λ t. t.src_id) ts) text
    same text =
        ap (λ o. unwrap_or o 4294967295)
        (sym (first_passing (names_text S text) s.order.items)
        ∙ ap (option_map (λ text. get_or text 0 0)) (seen.first (passing (names_text S text)) (past text))
        ∙ first_passing (names_text S text) (map (λ t. t.src_id) ts))
