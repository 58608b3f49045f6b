-- Marks of texts that are equal to one before, as texts are numbered.
use Rattle.std.proofs.Common.{◌≡◌, ℕ, ◌+◌, ◌<◌, ◌≤◌, Bool, true, false, List, [], ◌∷◌, ◌++◌}
use Rattle.std.proofs.Common.{take, length, get_or, slice_get, sym, ◌∙◌, ap, refl, arith, inl, inr}
use Rattle.std.proofs.Common.{Option, Some, None, is_some, Vec}
use Rattle.std.specs.Prelude.{◌||◌}
use Rattle.std.specs.List.{list_any}
use Rattle.std.specs.Option.{option_map_or}
use Rattle.std.specs.Str.{bytes_eq}
use Rattle.std.specs.declared.alloc.Global.{Global}
use Rattle.std.proofs.lemmas.Bool.{cases_Bool}
use Rattle.std.proofs.lemmas.List.{length_push}
use Rattle.std.proofs.lemmas.List.Folds.{list_any_more}
use Rattle.std.proofs.lemmas.Option.{slice_get-get_or}
use Rattle.std.proofs.lemmas.Slice.Eq.{bytes_eq-Decides}
use Rattle.sourcemap_interning.specs.Interner.{id_of, with_text}
use Rattle.sourcemap_interning.proofs.InternerLemmas.{id_of-append}
use Rattle.sourcemap_check_lists.specs.Lists.{is_repeated}
use Rattle.sourcemap_check_lists.specs.Marks.{AreMarks}
use Rattle.sourcemap_check_lists.proofs.MarkLemmas.{MarksSoFar, MarksSoFar-none, MarksSoFar-more, MarksSoFar-all}

pub record RepeatedSoFar (texts : List (List ℕ)) (k : ℕ) (index : List (List ℕ)) (marks : List Bool) : Type 0 where
  pub marks_are : MarksSoFar (is_repeated texts) k marks
  pub few : length index ≤ k
  pub known : (text : List ℕ) → is_some (id_of text index) ≡ list_any (bytes_eq text) (take k texts)

pub RepeatedSoFar-none : (texts index : List (List ℕ)) (marks : List Bool) → index ≡ [] → marks ≡ []
    → RepeatedSoFar texts 0 index marks
RepeatedSoFar-none texts index marks e m = record {
  marks_are = MarksSoFar-none (is_repeated texts) marks m;
  few = omega (arith, ap length e);
  known = λ text. ap (λ ts. is_some (id_of text ts)) e;
}

or_self : (b c : Bool) → (c ≡ true → b ≡ true) → b ≡ (b || c)
or_self true c h = refl
or_self false true h = absurd (let e = h refl in cc)
or_self false false h = refl

or_true : (b : Bool) → (b || true) ≡ true
or_true true = refl
or_true false = refl

or_false : (b : Bool) → (b || false) ≡ b
or_false true = refl
or_false false = refl

few_more : (texts : List (List ℕ)) (text : List ℕ) → length (with_text texts text) ≤ length texts + 1
few_more texts text = elim (cases_Bool (is_some (id_of text texts))) [
  | inl known ↦ rw known (omega arith)
  | inr new ↦ let more = length_push texts text in rw new (omega (arith, more))
]

known_more : (text index : List ℕ) (texts : List (List ℕ)) → is_some (id_of text (with_text texts index))
    ≡ (is_some (id_of text texts) || bytes_eq text index)
known_more text added texts = by_case (id_of added texts) refl
  where
    by_case : (o : Option ℕ) → id_of added texts ≡ o
        → is_some (id_of text (with_text texts added)) ≡ (is_some (id_of text texts) || bytes_eq text added)
    by_case (Some n) e =
        rw e (or_self (is_some (id_of text texts)) (bytes_eq text added)
        (λ same. let alike : text ≡ added = (bytes_eq-Decides text added).0 same in
        ap (λ t. is_some (id_of t texts)) alike ∙ ap is_some e))
    by_case None e =
        rw e (ap is_some (id_of-append texts added e text) ∙ elim (cases_Bool (bytes_eq text added)) [
          | inl same ↦
              let alike : text ≡ added = (bytes_eq-Decides text added).0 same in
              let back : bytes_eq added text ≡ true = (bytes_eq-Decides added text).1 (sym alike) in
              rw (same, back) (sym (or_true (is_some (id_of text texts))))
          | inr apart ↦
              let back : bytes_eq added text ≡ false = elim (cases_Bool (bytes_eq added text)) [
                | inl same ↦ absurd (let alike : added ≡ text = (bytes_eq-Decides added text).0 same in
                    let wrong : bytes_eq text added ≡ true = (bytes_eq-Decides text added).1 (sym alike) in cc)
                | inr apart_too ↦ apart_too
              ] in
              rw (apart, back) (sym (or_false (is_some (id_of text texts))))
        ])

pub RepeatedSoFar-more : (texts : List (List ℕ)) (k : ℕ) (text : List ℕ) (mark : Bool) (index next : List (List ℕ))
    (marks more : List Bool) → RepeatedSoFar texts k index marks → k < length texts → text ≡ get_or texts k text
    → mark ≡ is_some (id_of text index) → next ≡ with_text index text → more ≡ marks ++ mark ∷ []
    → RepeatedSoFar texts (k + 1) next more
RepeatedSoFar-more texts k text mark index next marks more so_far within at is made pushed =
    let found : slice_get texts k ≡ Some text = slice_get-get_or texts k text within ∙ ap Some (sym at) in
    let mark_is : mark ≡ is_repeated texts k =
    is ∙ (so_far.known text ∙ sym (ap (λ o. option_map_or (λ t. list_any (bytes_eq t) (take k texts)) o false) found)) in
    record {
      marks_are = MarksSoFar-more (is_repeated texts) k mark marks more so_far.marks_are mark_is pushed;
      few = (let f = so_far.few in let m = ap length made in let n = few_more index text in omega (arith, f, m, n));
      known = λ other. ap (λ ts. is_some (id_of other ts)) made
          ∙ (known_more other text index ∙ (ap (λ b. b || bytes_eq other text) (so_far.known other)
          ∙ sym (list_any_more (bytes_eq other) texts k text within
          ∙ ap (λ t. list_any (bytes_eq other) (take k texts) || bytes_eq other t) (sym at))));
    }

pub RepeatedSoFar-all : (texts : List (List ℕ)) (k : ℕ) (index : List (List ℕ)) (marks : Vec Bool Global)
    → RepeatedSoFar texts k index marks.items → k ≡ length texts → AreMarks (is_repeated texts) (length texts) marks
RepeatedSoFar-all texts k index marks so_far end =
    MarksSoFar-all (is_repeated texts) k (length texts) marks so_far.marks_are end
