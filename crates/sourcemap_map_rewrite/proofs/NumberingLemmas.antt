-- Deduplicated texts and their new numbers.
use Rattle.std.proofs.Common.{◌≡◌, ◌≢◌, refl, sym, ap, subst, ◌∙◌, ℕ, zero, suc, ◌+◌, ◌<◌, ◌≤◌, List, [], ◌∷◌, ◌++◌}
use Rattle.std.proofs.Common.{append_assoc, length, map, fold, Bool, true, false, cond, Some, None, Option, arith, inl}
use Rattle.std.proofs.Common.{inr, slice_get, slice_set, is_some, replicate}
use Rattle.std.specs.List.{AllByRecursion}
use Rattle.std.specs.Option.{option_or}
use Rattle.std.specs.Str.{bytes_eq}
use Rattle.std.proofs.lemmas.Bool.{cases_Bool, cases_eq}
use Rattle.std.proofs.lemmas.Slice.Eq.{bytes_eq-Decides}
use Rattle.std.proofs.lemmas.List.Sums.{fold-append}
use Rattle.std.proofs.lemmas.List.{map_push, length_push, append-nil, length-set, length-replicate}
use Rattle.std.proofs.lemmas.Option.{slice_get_within, slice_get_past}
use Rattle.sourcemap_interning.proofs.ItemLemmas.{slice_get-set_same, slice_get-set_other, slice_get-pushed}
use Rattle.sourcemap_interning.proofs.ItemLemmas.{slice_get-last}
use Rattle.sourcemap_interning.specs.Interner.{id_of, with_text, AreDistinct}
use Rattle.sourcemap_tokens.proofs.AllLemmas.{All-append, All-at, All-weaker}
use Rattle.sourcemap_interning.proofs.InternerLemmas.{AreDistinct-append, id_of-append, id_of-last, slice_get-id_of}
use Rattle.sourcemap_map_rewrite.specs.Kept.{present, kept_once, number_in}
use Rattle.sourcemap_map_rewrite.specs.Numbering.{with_text_if, first_some, texts_in_use, seen_texts, IsSeen}
use Rattle.sourcemap_map_rewrite.specs.Numbering.{IsSeenOrNot, NumbersMore, IsNumbering, Assigns}
use Rattle.sourcemap_map_rewrite.specs.declared.numbering.Numbering.{Numbering}
use Rattle.sourcemap_tokens.proofs.SearchLemmas.{cases_Option}

pub option_or-None : {A : Type 0} (o : Option A) → option_or o None ≡ o
option_or-None None = refl
option_or-None (Some x) = refl

option_or-assoc : {A : Type 0} (a b c : Option A) → option_or a (option_or b c) ≡ option_or (option_or a b) c
option_or-assoc None b c = refl
option_or-assoc (Some x) b c = refl

-- if there is a text, it is one of these texts
abbrev pub IsListedIfAny : List (List ℕ) → Option (List ℕ) → Type 0
IsListedIfAny texts None = Unit {0}
IsListedIfAny texts (Some text) = (n : ℕ) × (id_of text texts ≡ Some n)

-- Deduplicated texts.

pub fold-push : {A B : Type 0} (f : B → A → B) (a : B) (xs : List A) (x : A)
    → fold f a (xs ++ x ∷ []) ≡ f (fold f a xs) x
fold-push f a xs x = fold-append f a xs (x ∷ [])

present-push : (os : List (Option (List ℕ))) (o : Option (List ℕ))
    → present (os ++ o ∷ []) ≡ present os ++ present (o ∷ [])
present-push [] o = refl
present-push (None ∷ os) o = present-push os o
present-push (Some t ∷ os) o = ap (λ ts. t ∷ ts) (present-push os o)

-- an appended `Some text` adds `text` to the deduplicated texts if `text` is new; an appended `None` adds nothing
pub kept_once-push : (os : List (Option (List ℕ))) (o : Option (List ℕ))
    → kept_once (present (os ++ o ∷ [])) ≡ with_text_if (kept_once (present os)) o
kept_once-push os o = ap kept_once (present-push os o) ∙ by_case o
  where
    by_case : (o : Option (List ℕ))
        → kept_once (present os ++ present (o ∷ [])) ≡ with_text_if (kept_once (present os)) o
    by_case None = ap kept_once (append-nil (present os))
    by_case (Some t) = fold-push with_text [] (present os) t

pub texts_in_use-push : (texts : List (List ℕ)) (ids : List ℕ) (id : ℕ)
    → texts_in_use texts (ids ++ id ∷ []) ≡ with_text_if (texts_in_use texts ids) (slice_get texts id)
texts_in_use-push texts ids id = ap (λ os. kept_once (present os)) (map_push (slice_get texts) ids id)
    ∙ kept_once-push (map (slice_get texts) ids) (slice_get texts id)

-- a text keeps its number when another is added
pub id_of-with_text : (texts : List (List ℕ)) (text other : List ℕ) (n : ℕ) → id_of other texts ≡ Some n
    → id_of other (with_text texts text) ≡ Some n
id_of-with_text texts text other n e =
    elim (cases_Option (id_of text texts)) [
      | inl none ↦
          elim (cases_Bool (bytes_eq text other)) [
            | inl same ↦
                let alike : text ≡ other = (bytes_eq-Decides text other).0 same in
                let never : id_of other texts ≡ None = subst (λ t. id_of t texts ≡ None) alike none in
                cc
            | inr apart ↦ rw (none, id_of-append texts text none other, apart) e
          ]
      | inr some ↦ rw some.1 e
    ]

pub id_of-with_text_if : (texts : List (List ℕ)) (o : Option (List ℕ)) (other : List ℕ) (n : ℕ)
    → id_of other texts ≡ Some n → id_of other (with_text_if texts o) ≡ Some n
id_of-with_text_if texts None other n e = e
id_of-with_text_if texts (Some t) other n e = id_of-with_text texts t other n e

-- a text in use keeps its number when more old numbers are used
pub id_of-texts_in_use : (texts : List (List ℕ)) (ids more : List ℕ) (text : List ℕ) (n : ℕ)
    → id_of text (texts_in_use texts ids) ≡ Some n → id_of text (texts_in_use texts (ids ++ more)) ≡ Some n
id_of-texts_in_use texts ids [] text n e = rw (append-nil ids) e
id_of-texts_in_use texts ids (id ∷ more) text n e =
    let next : id_of text (texts_in_use texts (ids ++ id ∷ [])) ≡ Some n =
    ap (id_of text) (texts_in_use-push texts ids id)
    ∙ id_of-with_text_if (texts_in_use texts ids) (slice_get texts id) text n e in
    subst (λ all. id_of text (texts_in_use texts all) ≡ Some n) (append_assoc ids (id ∷ []) more)
    (id_of-texts_in_use texts (ids ++ id ∷ []) more text n next)

AreDistinct-with_text : (texts : List (List ℕ)) (text : List ℕ) → AreDistinct texts → AreDistinct (with_text texts text)
AreDistinct-with_text texts text distinct = by_case (id_of text texts) refl
  where
    by_case : (o : Option ℕ) → id_of text texts ≡ o → AreDistinct (with_text texts text)
    by_case None e = rw e (AreDistinct-append texts text distinct e)
    by_case (Some n) e = rw e distinct

-- deduplicated texts are distinct
pub distinct-kept_once : (texts : List (List ℕ)) → AreDistinct (kept_once texts)
distinct-kept_once texts = after [] texts (λ text id e. cc)
  where
    after : (kept us : List (List ℕ)) → AreDistinct kept → AreDistinct (fold with_text kept us)
    after kept [] distinct = distinct
    after kept (u ∷ us) distinct = after (with_text kept u) us (AreDistinct-with_text kept u distinct)

pub distinct-texts_in_use : (texts : List (List ℕ)) (ids : List ℕ) → AreDistinct (texts_in_use texts ids)
distinct-texts_in_use texts ids = distinct-kept_once (present (map (slice_get texts) ids))

-- The first result.

pub first_some-push : {X Y : Type 0} (f : X → Option Y) (xs : List X) (x : X)
    → first_some f (xs ++ x ∷ []) ≡ option_or (first_some f xs) (f x)
first_some-push f [] x = option_or-None (f x)
first_some-push f (y ∷ ys) x =
    ap (option_or (f y)) (first_some-push f ys x) ∙ option_or-assoc (f y) (first_some f ys) (f x)

-- an added text has a number
pub id_of-added : (texts : List (List ℕ)) (text : List ℕ) → (n : ℕ) × (id_of text (with_text texts text) ≡ Some n)
id_of-added texts text = by_case (id_of text texts) refl
  where
    by_case : (o : Option ℕ) → id_of text texts ≡ o → (n : ℕ) × (id_of text (with_text texts text) ≡ Some n)
    by_case None e = (length texts, rw e (id_of-last texts text (length texts) refl e))
    by_case (Some n) e = (n, rw e e)

pub id_of-fold : (us : List (List ℕ)) (texts : List (List ℕ)) (text : List ℕ) (n : ℕ) → id_of text texts ≡ Some n
    → id_of text (fold with_text texts us) ≡ Some n
id_of-fold [] texts text n e = e
id_of-fold (u ∷ us) texts text n e = id_of-fold us (with_text texts u) text n (id_of-with_text texts u text n e)

-- each text in use is kept
all_kept : (os : List (Option (List ℕ))) (texts : List (List ℕ))
    → AllByRecursion (IsListedIfAny (fold with_text texts (present os))) os
all_kept [] texts = tt
all_kept (None ∷ os) texts = (tt, all_kept os texts)
all_kept (Some t ∷ os) texts =
    let here = id_of-added texts t in
    ((here.0, id_of-fold (present os) (with_text texts t) t here.0 here.1), all_kept os (with_text texts t))

pub used-kept : (os : List (Option (List ℕ))) → AllByRecursion (IsListedIfAny (kept_once (present os))) os
used-kept os = all_kept os []

-- The list of kept texts is not longer than the list of all texts.

-- the number of texts that are not kept
abbrev missing : List (List ℕ) → List (List ℕ) → ℕ
missing kept [] = 0
missing kept (text ∷ texts) = cond (is_some (id_of text kept)) 0 1 + missing kept texts

abbrev AreFew : List (List ℕ) → List (List ℕ) → Type 0
AreFew kept texts = length kept + missing kept texts ≤ length texts

AreFew-none : (texts : List (List ℕ)) → AreFew [] texts
AreFew-none [] = omega arith
AreFew-none (t ∷ ts) = let rest : AreFew [] ts = AreFew-none ts in omega arith

less_missing : (kept : List (List ℕ)) (added text : List ℕ)
    → cond (is_some (id_of text (with_text kept added))) 0 1 ≤ cond (is_some (id_of text kept)) 0 1
less_missing kept added text = by_case (id_of text kept) refl
  where
    by_case : (o : Option ℕ) → id_of text kept ≡ o
        → cond (is_some (id_of text (with_text kept added))) 0 1 ≤ cond (is_some (id_of text kept)) 0 1
    by_case None e = rw e (one_at_most (is_some (id_of text (with_text kept added))))
      where
        one_at_most : (b : Bool) → cond b 0 1 ≤ 1
        one_at_most true = omega arith
        one_at_most false = omega arith
    by_case (Some n) e = rw (e, id_of-with_text kept added text n e) (omega arith)

missing-with_text : (kept texts : List (List ℕ)) (added : List ℕ)
    → missing (with_text kept added) texts ≤ missing kept texts
missing-with_text kept [] added = omega arith
missing-with_text kept (t ∷ ts) added =
    let here = less_missing kept added t in
    let rest = missing-with_text kept ts added in
    omega arith

one_less : (kept texts : List (List ℕ)) (added : List ℕ) (i : ℕ) → slice_get texts i ≡ Some added
    → id_of added kept ≡ None → missing (with_text kept added) texts + 1 ≤ missing kept texts
one_less kept [] added i at new = cc
one_less kept (t ∷ ts) added zero at new =
    let same : t ≡ added = cc in
    let found = id_of-added kept added in
    let was : cond {A = ℕ} (is_some (id_of t kept)) 0 1 ≡ 1 = rw (same, new) refl in
    let now : cond {A = ℕ} (is_some (id_of t (with_text kept added))) 0 1 ≡ 0 = rw (same, found.1) refl in
    let rest = missing-with_text kept ts added in
    omega arith
one_less kept (t ∷ ts) added (suc i) at new =
    let here = less_missing kept added t in
    let rest = one_less kept ts added i at new in
    omega arith

AreFew-with_text_if : (kept texts : List (List ℕ)) (i : ℕ) → AreFew kept texts
    → AreFew (with_text_if kept (slice_get texts i)) texts
AreFew-with_text_if kept texts i few = by_case (slice_get texts i) refl
  where
    length-new : (t : List ℕ) → id_of t kept ≡ None → length (with_text kept t) ≡ length kept + 1
    length-new t e = rw e (length_push kept t)

    by_text : (t : List ℕ) → slice_get texts i ≡ Some t → (o : Option ℕ) → id_of t kept ≡ o
        → AreFew (with_text kept t) texts
    by_text t e None new =
        let more = length-new t new in
        let less = one_less kept texts t i e new in
        omega arith
    by_text t e (Some n) old = rw old few

    by_case : (o : Option (List ℕ)) → slice_get texts i ≡ o → AreFew (with_text_if kept o) texts
    by_case None e = few
    by_case (Some t) e = by_text t e (id_of t kept) refl

-- if `AreFew kept texts` holds and `kept` lacks a text of `texts`, `kept` is shorter than `texts`
below_max-for_new : (kept texts : List (List ℕ)) (i : ℕ) (text : List ℕ) → AreFew kept texts
    → slice_get texts i ≡ Some text → id_of text kept ≡ None → length kept < length texts
below_max-for_new kept texts i text few at new =
    let less = one_less kept texts text i at new in
    omega arith

fold-present : (kept : List (List ℕ)) (o : Option (List ℕ)) (os : List (Option (List ℕ)))
    → fold with_text kept (present (o ∷ os)) ≡ fold with_text (with_text_if kept o) (present os)
fold-present kept None os = refl
fold-present kept (Some t) os = refl

AreFew-texts_in_use : (texts : List (List ℕ)) (ids : List ℕ) → AreFew (texts_in_use texts ids) texts
AreFew-texts_in_use texts ids = few_after [] ids (AreFew-none texts)
  where
    few_after : (kept : List (List ℕ)) (ids : List ℕ) → AreFew kept texts
        → AreFew (fold with_text kept (present (map (slice_get texts) ids))) texts
    few_after kept [] few = few
    few_after kept (id ∷ ids) few =
        rw (fold-present kept (slice_get texts id) (map (slice_get texts) ids))
        (few_after (with_text_if kept (slice_get texts id)) ids (AreFew-with_text_if kept texts id few))

pub kept_once-few : (texts : List (List ℕ)) (ids : List ℕ) → length (texts_in_use texts ids) ≤ length texts
kept_once-few texts ids = let all = AreFew-texts_in_use texts ids in omega arith

-- a kept text keeps its number when more are kept
pub number_in-with_text_if : (kept : List (List ℕ)) (added o : Option (List ℕ)) → IsListedIfAny kept o
    → number_in (with_text_if kept added) o ≡ number_in kept o
number_in-with_text_if kept added None h = refl
number_in-with_text_if kept added (Some t) h = rw (h.1, id_of-with_text_if kept added t h.0 h.1) refl

-- let `kept` have at most 4294967295 texts. The number of a kept text is an index of this text in `kept`. The number
-- for `None` is past the end of `kept`
pub slice_get-number_in : (kept : List (List ℕ)) (o : Option (List ℕ)) → length kept ≤ 4294967295 → IsListedIfAny kept o
    → slice_get kept (number_in kept o) ≡ o
slice_get-number_in kept None few h = slice_get_past kept 4294967295 few
slice_get-number_in kept (Some t) few h = rw h.1 (slice_get-id_of t kept h.0 h.1)

-- Items of lists.

module _ {X : Type 0} where
  slice_get-replicate : (n : ℕ) (x : X) (i : ℕ) → i < n → slice_get (replicate n x) i ≡ Some x
  slice_get-replicate zero x i h = absurd (omega arith)
  slice_get-replicate (suc n) x zero h = refl
  slice_get-replicate (suc n) x (suc i) h = slice_get-replicate n x i (omega arith)

-- let `x` be an item of `xs`. If `first_some f xs` is `None`, then `f x` is also `None`. So appending `x` to `xs` does
-- not change the result of `first_some f`
first_some-seen : {X Y : Type 0} (f : X → Option Y) (xs : List X) (k : ℕ) (x : X) → slice_get xs k ≡ Some x
    → first_some f xs ≡ option_or (first_some f xs) (f x)
first_some-seen f [] k x e = cc
first_some-seen f (y ∷ ys) zero x e = let same : y ≡ x = cc in rw (← same) (twice (f y) (first_some f ys))
  where
    twice : {Y : Type 0} (a b : Option Y) → option_or a b ≡ option_or (option_or a b) a
    twice None None = refl
    twice None (Some z) = refl
    twice (Some z) b = refl
first_some-seen f (y ∷ ys) (suc k) x e =
    ap (option_or (f y)) (first_some-seen f ys k x e) ∙ option_or-assoc (f y) (first_some f ys) (f x)

-- A numbering.

pub numbering-new : (texts : List (List ℕ)) (n : Numbering) → n.seen.numbers.items ≡ replicate (length texts) 4294967295
    → n.seen.order.items ≡ [] → n.ids ≡ [] → IsNumbering texts n
numbering-new texts n numbers order none = record {
  numbered = record {
    many = ap length numbers ∙ length-replicate (length texts) 4294967295;
    seen = subst (λ xs. AllByRecursion (IsSeen texts n.seen) xs) (sym order) tt;
    others = λ id text e. inl (ap (λ xs. slice_get xs id) numbers
        ∙ slice_get-replicate (length texts) 4294967295 id (slice_get_within texts id text e));
  };
  index = none ∙ sym (ap (texts_in_use texts) order);
}

module _ (texts : List (List ℕ)) (n : Numbering) (id : ℕ) (text : List ℕ) (is : IsNumbering texts n)
    (named : slice_get texts id ≡ Some text) where
  pub existing-seen : (existing : ℕ) → slice_get n.seen.numbers.items id ≡ Some existing → existing ≢ 4294967295
      → (k : ℕ) × (slice_get n.seen.order.items k ≡ Some id) × (id_of text (seen_texts texts n.seen) ≡ Some existing)
  existing-seen existing numbered apart = by_case (is.numbered.others id text named)
    where
      by_case : IsSeenOrNot texts n.seen id → (k : ℕ) × (slice_get n.seen.order.items k ≡ Some id)
          × (id_of text (seen_texts texts n.seen) ≡ Some existing)
      by_case (inl none) = let same : 4294967295 ≡ existing = cc in absurd (apart (sym same))
      by_case (inr (k, at)) =
          let seen = All-at (IsSeen texts n.seen) n.seen.order.items k id at is.numbered.seen in
          let same_text : seen.text ≡ text = let e = seen.named in cc in
          let same_number : seen.number ≡ existing = let e = seen.numbered in cc in (
            k,
            at,
            subst (λ t. id_of t (seen_texts texts n.seen) ≡ Some existing) same_text
                (seen.interned ∙ ap Some same_number),
          )

  -- if `id` has a new number already, a use of `id` changes no numbers
  pub more-existing : (existing : ℕ) → slice_get n.seen.numbers.items id ≡ Some existing → existing ≢ 4294967295
      → NumbersMore texts id n.seen n.seen
  more-existing existing numbered apart =
      let seen = existing-seen existing numbered apart in
      record {
        kept = rw (named, seen.2) refl;
        seen = λ f none. first_some-seen f n.seen.order.items seen.0 id seen.1;
      }

  pub below_max : length texts ≤ 4294967295 → id_of text n.ids ≡ None → length n.ids < 4294967295
  below_max few new =
      let less = below_max-for_new (seen_texts texts n.seen) texts id text
      (AreFew-texts_in_use texts n.seen.order.items) named (ap (id_of text) (sym is.index) ∙ new) in
      omega (arith, ap length is.index)

  -- in the step from `n` to `next`, `id` gets the new number `number`
  module _ (number : ℕ) (next : Numbering) (meets : Assigns text id number n next) where
    within : id < length n.seen.numbers.items
    within = let here = slice_get_within texts id text named in omega (arith, is.numbered.many)

    numbered : slice_get next.seen.numbers.items id ≡ Some number
    numbered = ap (λ xs. slice_get xs id) meets.numbers ∙ slice_get-set_same n.seen.numbers.items id number within

    kept_more : seen_texts texts next.seen ≡ with_text_if (seen_texts texts n.seen) (slice_get texts id)
    kept_more = ap (texts_in_use texts) meets.order ∙ texts_in_use-push texts n.seen.order.items id

    kept_new : seen_texts texts next.seen ≡ with_text (seen_texts texts n.seen) text
    kept_new = kept_more ∙ ap (with_text_if (seen_texts texts n.seen)) named

    indexed : next.ids ≡ seen_texts texts next.seen
    indexed = meets.index ∙ ap (λ us. with_text us text) is.index ∙ sym kept_new

    interned : id_of text (seen_texts texts next.seen) ≡ Some number
    interned = ap (id_of text) (sym indexed) ∙ meets.numbered

    here_seen : IsSeen texts next.seen id
    here_seen = record { text = text; number = number; named = named; numbered = numbered; interned = interned }

    still_seen : (x : ℕ) → IsSeen texts n.seen x → IsSeen texts next.seen x
    still_seen x seen =
        elim (cases_eq x id) [
          | inl same ↦ subst (IsSeen texts next.seen) (sym same) here_seen
          | inr other ↦ record {
            text = seen.text;
            number = seen.number;
            named = seen.named;
            numbered = ap (λ xs. slice_get xs x) meets.numbers
                ∙ slice_get-set_other n.seen.numbers.items id x number other ∙ seen.numbered;
            interned = ap (id_of seen.text) kept_new
                ∙ id_of-with_text (seen_texts texts n.seen) text seen.text seen.number seen.interned;
          }
        ]

    other_or_seen : (x : ℕ) (t : List ℕ) → slice_get texts x ≡ Some t → IsSeenOrNot texts next.seen x
    other_or_seen x t e =
        elim (cases_eq x id) [
          | inl same ↦ inr (
            length n.seen.order.items,
            ap (λ xs. slice_get xs (length n.seen.order.items)) meets.order ∙ slice_get-last n.seen.order.items id
                ∙ ap Some (sym same),
          )
          | inr other ↦ elim (is.numbered.others x t e) [
            | inl none ↦ inl (ap (λ xs. slice_get xs x) meets.numbers
                ∙ slice_get-set_other n.seen.numbers.items id x number other ∙ none)
            | inr at ↦
                inr (
                  at.0,
                  ap (λ xs. slice_get xs at.0) meets.order ∙ slice_get-pushed n.seen.order.items id x at.0 at.1,
                )
          ]
        ]

    pub more-new : NumbersMore texts id n.seen next.seen
    more-new = record {
      kept = kept_more;
      seen = λ f none. ap (first_some f) meets.order ∙ first_some-push f n.seen.order.items id;
    }

    pub numbering-more : IsNumbering texts next
    numbering-more = record {
      numbered = record {
        many = ap length meets.numbers ∙ length-set n.seen.numbers.items id number ∙ is.numbered.many;
        seen = subst (AllByRecursion (IsSeen texts next.seen)) (sym meets.order)
            (All-append (IsSeen texts next.seen) n.seen.order.items (id ∷ []) (All-weaker (IsSeen texts n.seen)
            (IsSeen texts next.seen) still_seen n.seen.order.items is.numbered.seen) (here_seen, tt));
        others = other_or_seen;
      };
      index = indexed;
    }

    pub number-new : number_in (seen_texts texts next.seen) (slice_get texts id) ≡ number
    number-new = rw (named, interned) refl
