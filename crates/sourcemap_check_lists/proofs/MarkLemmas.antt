-- Marks of ids, as tokens are read, and the places of marks.
use Rattle.std.proofs.Common.{◌≡◌, ◌≢◌, ℕ, zero, suc, ◌+◌, ◌<◌, ◌≤◌, ◌==◌, Bool, true, false, not, cond, List, [], ◌∷◌}
use Rattle.std.proofs.Common.{◌++◌, take, length, get_or, set, replicate, get_or-set_same, get_or-set_other}
use Rattle.std.proofs.Common.{sym, ◌∙◌, ap, refl, subst, arith, add-one, inl, inr, Vec}
use Rattle.std.specs.Prelude.{◌||◌}
use Rattle.std.specs.List.{list_any, count_by}
use Rattle.std.specs.declared.alloc.Global.{Global}
use Rattle.std.proofs.lemmas.Bool.{cases_eq, cases_Bool, eq-eqb, ne_eqb}
use Rattle.std.proofs.lemmas.List.Sums.{count_by_more_yes, count_by_more_no}
use Rattle.std.proofs.lemmas.List.{get_or-replicate, length-replicate, length-set, take_all, length_push, append-nil}
use Rattle.std.proofs.lemmas.List.{get_or_append_left, get_or_push}
use Rattle.sourcemap_interning.proofs.ItemLemmas.{below_or_last}
use Rattle.std.proofs.lemmas.List.Folds.{list_any_more}
use Rattle.sourcemap_tokens.specs.declared.tokens.RawToken.{RawToken}
use Rattle.sourcemap_check_texts.specs.declared.tokens.Places.{Places}
use Rattle.sourcemap_check_texts.specs.Doubts.{ArePlaces, marked}
use Rattle.sourcemap_check_lists.specs.declared.marks.Field.{Field}
use Rattle.sourcemap_check_lists.specs.Lists.{id_in, is_unused}
use Rattle.sourcemap_check_lists.specs.Marks.{AreMarks}

-- the ids below a number that none of the first k tokens has
pub record UnusedSoFar (field : Field) (tokens : List RawToken) (count k : ℕ) (marks : List Bool) : Type 0 where
  pub count_is : length marks ≡ count
  pub each : (i : ℕ) → i < count → get_or marks i false ≡ is_unused field (take k tokens) i

pub UnusedSoFar-none : (field : Field) (tokens : List RawToken) (count : ℕ) (marks : List Bool)
    → marks ≡ replicate count true → UnusedSoFar field tokens count 0 marks
UnusedSoFar-none field tokens count marks is = record {
  count_is = ap length is ∙ length-replicate count true;
  each = λ i h. ap (λ ms. get_or ms i false) is ∙ get_or-replicate count i true false h;
}

unused_more : (field : Field) (tokens : List RawToken) (k : ℕ) (token : RawToken) (i : ℕ) → k < length tokens
    → token ≡ get_or tokens k token
    → is_unused field (take (k + 1) tokens) i
    ≡ not (list_any (λ t. id_in field t == i) (take k tokens) || (id_in field token == i))
unused_more field tokens k token i within at =
    ap not (list_any_more (λ t. id_in field t == i) tokens k token within
    ∙ ap (λ t. list_any (λ u. id_in field u == i) (take k tokens) || (id_in field t == i)) (sym at))

or_true : (b : Bool) → not (b || true) ≡ false
or_true true = refl
or_true false = refl

or_false : (b : Bool) → not (b || false) ≡ not b
or_false true = refl
or_false false = refl

module _ (field : Field) (tokens : List RawToken) (count k : ℕ) (token : RawToken) (id : ℕ) (marks : List Bool)
    (so_far : UnusedSoFar field tokens count k marks) (within : k < length tokens) (at : token ≡ get_or tokens k token)
    (is : id ≡ id_in field token) where
  same_at : (i : ℕ) → i ≢ id → i < count → get_or marks i false ≡ is_unused field (take (k + 1) tokens) i
  same_at i apart h =
      let other : (id_in field token == i) ≡ false = ne_eqb _ _ (λ e. apart (sym (is ∙ e))) in
      so_far.each i h
      ∙ sym (unused_more field tokens k token i within at
      ∙ (ap (λ b. not (list_any (λ t. id_in field t == i) (take k tokens) || b)) other
      ∙ or_false (list_any (λ t. id_in field t == i) (take k tokens))))

  pub UnusedSoFar-past : count ≤ id → UnusedSoFar field tokens count (k + 1) marks
  UnusedSoFar-past past = record {
    count_is = so_far.count_is;
    each = λ i h. same_at i (λ e. absurd (omega arith)) h;
  }

  used_at : (i : ℕ) → i ≡ id → false ≡ is_unused field (take (k + 1) tokens) i
  used_at i e =
      let same : (id_in field token == i) ≡ true = eq-eqb _ _ (sym is ∙ sym e) in
      sym (unused_more field tokens k token i within at
      ∙ (ap (λ b. not (list_any (λ t. id_in field t == i) (take k tokens) || b)) same
      ∙ or_true (list_any (λ t. id_in field t == i) (take k tokens))))

  pub UnusedSoFar-set : id < count → UnusedSoFar field tokens count (k + 1) (set marks id false)
  UnusedSoFar-set small =
      let n = so_far.count_is in
      record {
        count_is = length-set marks id false ∙ n;
        each = λ i h. elim (cases_eq i id) [
          | inl same ↦
              let there : get_or (set marks i false) i false ≡ false =
              get_or-set_same marks i false false (omega (arith, n)) in
              subst (λ j. get_or (set marks j false) i false ≡ is_unused field (take (k + 1) tokens) i) same
              (there ∙ used_at i same)
          | inr apart ↦ get_or-set_other marks id i false false apart ∙ same_at i apart h
        ];
      }

pub UnusedSoFar-all : (field : Field) (tokens : List RawToken) (count k : ℕ) (marks : Vec Bool Global)
    → UnusedSoFar field tokens count k marks.items → length tokens ≤ k
    → AreMarks (is_unused field tokens) count marks
UnusedSoFar-all field tokens count k marks so_far past = record {
  count_is = so_far.count_is;
  each = λ i h. so_far.each i h ∙ ap (λ ts. is_unused field ts i) (take_all k tokens past);
}

-- Places.

marked-same : (f g : ℕ → Bool) (n : ℕ) → ((i : ℕ) → i < n → f i ≡ g i) → marked f n ≡ marked g n
marked-same f g zero h = refl
marked-same f g (suc n) h =
    let before = marked-same f g n (λ i lt. h i (omega arith)) in
    ap (λ ks. ks ++ cond (f n) (n ∷ []) []) before
    ∙ ap (λ b. marked g n ++ cond b (n ∷ []) []) (h n (omega arith))

-- the places of marks are those of the test that they are of
pub marks_places : (test : ℕ → Bool) (count most : ℕ) (marks : Vec Bool Global) (places : Places)
    → AreMarks test count marks
    → ArePlaces most (marked (λ i. get_or marks.items i false) (length marks.items)) places
    → ArePlaces most (marked test count) places
marks_places test count most marks places are h =
    let same : marked (λ i. get_or marks.items i false) (length marks.items) ≡ marked test count =
    ap (marked (λ i. get_or marks.items i false)) are.count_is ∙ marked-same _ test count are.each in
    subst (λ ks. ArePlaces most ks places) same h

pub marked_next : (test : ℕ → Bool) (k : ℕ) (holds : Bool) → test k ≡ holds
    → marked test k ++ cond holds (k ∷ []) [] ≡ marked test (k + 1)
marked_next test k holds is =
    ap (λ b. marked test k ++ cond b (k ∷ []) []) (sym is) ∙ sym (ap (marked test) (add-one k))

pub same_marks : (f g : ℕ → Bool) (n m : ℕ) (marks : Vec Bool Global) → AreMarks f n marks → ((i : ℕ) → f i ≡ g i)
    → n ≡ m → AreMarks g m marks
same_marks f g n m marks are same count = record {
  count_is = are.count_is ∙ count;
  each = λ i h. are.each i (omega (arith, count)) ∙ same i;
}

-- marks up to an index
pub record MarksSoFar (test : ℕ → Bool) (k : ℕ) (marks : List Bool) : Type 0 where
  pub count_is : length marks ≡ k
  pub each : (i : ℕ) → i < k → get_or marks i false ≡ test i

pub MarksSoFar-none : (test : ℕ → Bool) (marks : List Bool) → marks ≡ [] → MarksSoFar test 0 marks
MarksSoFar-none test marks is = record { count_is = ap length is; each = λ i h. absurd (omega arith) }

pub MarksSoFar-more : (test : ℕ → Bool) (k : ℕ) (mark : Bool) (old new : List Bool) → MarksSoFar test k old
    → mark ≡ test k → new ≡ old ++ mark ∷ [] → MarksSoFar test (k + 1) new
MarksSoFar-more test k mark old new so_far is pushed =
    let n = so_far.count_is in
    record {
      count_is = ap length pushed ∙ (length_push old mark ∙ ap (λ m. m + 1) n);
      each = λ i h. ap (λ ms. get_or ms i false) pushed ∙ elim (below_or_last i k h) [
        | inl before ↦ get_or_append_left old (mark ∷ []) false i (omega (arith, n)) ∙ so_far.each i before
        | inr last ↦ get_or_push old mark false i (n ∙ sym last) ∙ (is ∙ ap test (sym last))
      ];
    }

pub MarksSoFar-all : (test : ℕ → Bool) (k n : ℕ) (marks : Vec Bool Global) → MarksSoFar test k marks.items → k ≡ n
    → AreMarks test n marks
MarksSoFar-all test k n marks so_far end = record {
  count_is = so_far.count_is ∙ end;
  each = λ i h. so_far.each i (omega (arith, end));
}

pub one_mark : (holds : Bool) (test : ℕ → Bool) (marks : Vec Bool Global) → marks.items ≡ replicate 1 holds
    → ((i : ℕ) → holds ≡ test i) → AreMarks test 1 marks
one_mark holds test marks items same = record {
  count_is = ap length items ∙ length-replicate 1 holds;
  each = λ i h. ap (λ ms. get_or ms i false) items ∙ (get_or-replicate 1 i holds false h ∙ same i);
}

marked_to : (marks : List Bool) (k : ℕ) → k ≤ length marks
    → count_by (λ mark. mark) (take k marks) ≡ length (marked (λ i. get_or marks i false) k)
marked_to marks zero h = refl
marked_to marks (suc k) h =
    let before = marked_to marks k (omega arith) in
    let within : k < length marks = omega arith in
    let test : ℕ → Bool = λ i. get_or marks i false in
    elim (cases_Bool (get_or marks k false)) [
      | inl set_too ↦
          ap (λ n. count_by (λ mark. mark) (take n marks)) (sym (add-one k))
          ∙ (count_by_more_yes (λ mark. mark) marks k false within set_too
          ∙ (ap (λ n. n + 1) before ∙ (sym (length_push (marked test k) k)
          ∙ ap (λ b. length (marked test k ++ cond b (k ∷ []) [])) (sym set_too))))
      | inr not_set ↦
          ap (λ n. count_by (λ mark. mark) (take n marks)) (sym (add-one k))
          ∙ (count_by_more_no (λ mark. mark) marks k false within not_set
          ∙ (before ∙ (ap length (sym (append-nil (marked test k)))
          ∙ ap (λ b. length (marked test k ++ cond b (k ∷ []) [])) (sym not_set))))
    ]

-- how many marks are set
pub marked_count : (marks : List Bool)
    → count_by (λ mark. mark) marks ≡ length (marked (λ i. get_or marks i false) (length marks))
marked_count marks =
    ap (count_by (λ mark. mark)) (sym (take_all (length marks) marks (omega arith)))
    ∙ marked_to marks (length marks) (omega arith)
