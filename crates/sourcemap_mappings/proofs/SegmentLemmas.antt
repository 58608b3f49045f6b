-- Lemmas that combine the steps of decoding a segment.
use Rattle.std.proofs.Common.{◌≡◌, ◌≢◌, ℕ, zero, suc, slice_index, ◌^◌, ◌==◌, true, false, List, [], ◌∷◌, ◌++◌, length}
use Rattle.std.proofs.Common.{Option, Some, None, sym, ap, ◌∙◌, refl, subst, inl, inr, append_assoc, append-nil}
use Rattle.std.proofs.Common.{length-append, ℤ, arith, eqb-true}
use Rattle.std.specs.List.{onto_first, AllByRecursion}
use Rattle.std.proofs.lemmas.Bool.{cases_Bool, cond-true, cond-false}
use Rattle.std.specs.Borrow.{Bor}
use Rattle.sourcemap_mappings.specs.declared.segment.Numbers.{Numbers}
use Rattle.std.proofs.lemmas.List.Splits.{slice_split-cons_yes, slice_split-cons_no}
use Rattle.sourcemap_errors.specs.declared.errors.Error.{Error}
use Rattle.sourcemap_errors.specs.declared.errors.Error.TheVariants.{InvalidBase64, VlqLeftover, VlqOverflow}
use Rattle.std.specs.Int.{int_rem_euclid}
use Rattle.std.specs.Prelude.{unsigned_abs, pos}
use Rattle.sourcemap_mappings.specs.Segment.{step, comma, parts_of}
use Rattle.sourcemap_mappings.specs.SegmentSteps.{AreSteps, HasFirstPart, HasPartError, error_in_part, EndsPart}
use Rattle.sourcemap_mappings.specs.SegmentSteps.{BeginsWithStep}
use Rattle.sourcemap_vlq.specs.Vlq.{digit_value, HasContinuation, IsChain, IsUnfinished, GoesTo, NumberError}
use Rattle.sourcemap_vlq.specs.Vlq.{BeginsWith, Reads, IsSound}
use Rattle.sourcemap_vlq.proofs.VlqLemmas.{HasError-later, IsSound-more}

-- Numbers.

zero_steps : (k : ℕ) → slice_index (0 ∷ 0 ∷ 0 ∷ 0 ∷ 0 ∷ []) k ≡ 0
zero_steps zero = refl
zero_steps (suc zero) = refl
zero_steps (suc (suc zero)) = refl
zero_steps (suc (suc (suc zero))) = refl
zero_steps (suc (suc (suc (suc zero)))) = refl
zero_steps (suc (suc (suc (suc (suc k))))) = refl

-- The first part of a line.

-- a text without a `,`
pub Lacks : List ℕ → Type 0
Lacks text = AllByRecursion (λ b. (b == comma) ≡ false) text

pub Lacks-append : (xs ys : List ℕ) → Lacks xs → Lacks ys → Lacks (xs ++ ys)
unfolding Lacks
Lacks-append [] ys h k = k
Lacks-append (x ∷ xs) ys h k = (h.0, Lacks-append xs ys h.1 k)

comma_is_none : digit_value comma ≡ None
unfolding digit_value
comma_is_none = refl

comma_none : (v : ℕ) → digit_value comma ≡ Some v → ⊥
unfolding digit_value
comma_none v e = cc

digit_no_comma : (c : ℕ) → digit_value c ≢ None → (c == comma) ≡ false
digit_no_comma c digit = elim (cases_Bool (c == comma)) [
  | inl is ↦ absurd (digit (ap digit_value (eqb-true c comma is) ∙ comma_is_none))
  | inr differs ↦ differs
]

no_comma : (c v : ℕ) → digit_value c ≡ Some v → (c == comma) ≡ false
no_comma c v e = elim (cases_Bool (c == comma)) [
  | inl is ↦ let at : c ≡ comma = eqb-true c comma is in let none : digit_value comma ≡ Some v =
      subst (λ b. digit_value b ≡ Some v) at e in absurd (comma_none v none)
  | inr differs ↦ differs
]

Lacks-chain : (group : List ℕ) → IsChain group → Lacks group
unfolding Lacks
Lacks-chain [] h = absurd h
Lacks-chain (c ∷ []) (v, e, last) = (no_comma c v e, tt)
Lacks-chain (c ∷ d ∷ cs) ((v, e, on), h) = (no_comma c v e, Lacks-chain (d ∷ cs) h)

Lacks-continues : (part : List ℕ) → AllByRecursion HasContinuation part → Lacks part
unfolding Lacks
Lacks-continues [] h = tt
Lacks-continues (c ∷ cs) ((v, e, on), h) = (no_comma c v e, Lacks-continues cs h)

-- let `xs` have no `,`, and let `m` be the first part of `ys`. Then the first part of `xs ++ ys` is `xs ++ m`, and the
-- later parts of `xs ++ ys` are the later parts of `ys`
parts_of-onto : (xs ys m : List ℕ) (ms : List (List ℕ)) → Lacks xs → parts_of ys ≡ m ∷ ms
    → parts_of (xs ++ ys) ≡ (xs ++ m) ∷ ms
unfolding Lacks
parts_of-onto [] ys m ms h e = e
parts_of-onto (x ∷ xs) ys m ms h e =
    slice_split-cons_no (λ b. b == comma) x (xs ++ ys) h.0 ∙ ap (onto_first x) (parts_of-onto xs ys m ms h.1 e)

parts_of-some : (xs : List ℕ) → (m : List ℕ) × (ms : List (List ℕ)) × (parts_of xs ≡ m ∷ ms)
parts_of-some [] = ([], [], refl)
parts_of-some (x ∷ xs) = elim (cases_Bool (x == comma)) [
  | inl is ↦ ([], parts_of xs, slice_split-cons_yes (λ b. b == comma) x xs is)
  | inr differs ↦ let rest = parts_of-some xs in
      (x ∷ rest.0, rest.1, slice_split-cons_no (λ b. b == comma) x xs differs ∙ ap (onto_first x) rest.2)
]

append_some : (xs ys : List ℕ) → ys ≢ [] → xs ++ ys ≢ []
append_some [] ys some none = some none
append_some (x ∷ xs) ys some none = absurd cc

-- let `line` be `front` and then `rest`. Let `front` consist of zero or more valid numbers without a `,`. Let `rest`
-- begin with the digits `part` of an unfinished number and then the byte `c`, which is not `,`. If this number has the
-- error `e` for every text that can follow `c`, then the first part of `line` has the error `e`
HasPartError-at : (line front rest part : List ℕ) (numbers : List ℤ) (c : ℕ) (e : Error) → line ≡ front ++ rest
    → Reads front numbers → Lacks front → (c == comma) ≡ false
    → (goes : GoesTo rest part c) → ((m : List ℕ) → GoesTo (part ++ c ∷ m) part c → NumberError (part ++ c ∷ m) e)
    → HasPartError line e
HasPartError-at line front rest part numbers c e whole reads lacks differs goes error =
    let tail = parts_of-some goes.more in
    let own : List ℕ = part ++ c ∷ tail.0 in
    let one : Lacks (c ∷ []) = unfold Lacks in (differs, tt) in
    let lacks_all : Lacks (front ++ (part ++ c ∷ [])) = Lacks-append front (part ++ c
    ∷ []) lacks (Lacks-append part (c ∷ []) (Lacks-continues part goes.unfinished.continues) one) in
    let text : line ≡ (front ++ (part ++ c ∷ [])) ++ goes.more =
    whole ∙ ap (λ zs. front ++ zs) (goes.split ∙ sym (append_assoc part (c ∷ []) goes.more))
    ∙ sym (append_assoc front (part ++ c ∷ []) goes.more) in
    let cut : (front ++ (part ++ c ∷ [])) ++ tail.0 ≡ front ++ own =
    append_assoc front (part ++ c ∷ []) tail.0 ∙ ap (λ zs. front ++ zs) (append_assoc part (c ∷ []) tail.0) in
    let some : own ≢ [] = append_some part (c ∷ tail.0) (λ none. cc) in
    record {
      part = front ++ own;
      parts = tail.1;
      split = ap parts_of text ∙ parts_of-onto (front ++ (part ++ c ∷ [])) goes.more tail.0 tail.1 lacks_all tail.2
          ∙ ap (λ p. p ∷ tail.1) cut;
      some = append_some front own some;
      error = HasError-later (front ++ own) own (record {
        front = front;
        numbers = numbers;
        reads = reads;
        split = refl;
      }) some e
          (error tail.0 (record { more = tail.0; split = refl; unfinished = goes.unfinished }));
    }

-- let the first part of `line` consist of zero or more valid numbers and then `part`: one or more digits of an
-- unfinished number (`IsUnfinished`). Then the first part has the error `VlqLeftover`
HasPartError-cut : (line front rest part : List ℕ) (numbers : List ℤ) (parts : List (List ℕ))
    → parts_of line ≡ (front ++ part) ∷ parts → Reads front numbers
    → part ≢ [] → IsUnfinished part → HasPartError line VlqLeftover
HasPartError-cut line front rest part numbers parts split reads some unfinished = record {
  part = front ++ part;
  parts = parts;
  split = split;
  some = append_some front part some;
  error = HasError-later (front ++ part) part (record {
    front = front;
    numbers = numbers;
    reads = reads;
    split = refl;
  }) some VlqLeftover unfinished;
}

HasPartError-comma : (line rest : List ℕ) (c : ℕ) (cs : List ℕ) (sound : IsSound line rest) (d : ℕ) (part : List ℕ)
    → GoesTo rest part d → Lacks sound.front → rest ≡ c ∷ cs
    → (c == comma) ≡ false → (d == comma) ≡ true → HasPartError line VlqLeftover
HasPartError-comma line rest c cs sound d [] goes lacks first ne is =
    absurd (let same : d ∷ goes.more ≡ c ∷ cs = sym goes.split ∙ first in cc)
HasPartError-comma line rest c cs sound d (x ∷ xs) goes lacks first ne is =
    let part : List ℕ = x ∷ xs in
    let parts : List (List ℕ) = parts_of goes.more in
    let front : List ℕ = sound.front in
    let lacks_all : Lacks (front ++ part) =
    Lacks-append front part lacks (Lacks-continues part goes.unfinished.continues) in
    let text : line ≡ (front ++ part) ++ d ∷ goes.more =
    sound.split ∙ ap (λ zs. front ++ zs) goes.split ∙ sym (append_assoc front part (d ∷ goes.more)) in
    HasPartError-cut line front rest part sound.numbers parts
    (ap parts_of text ∙ parts_of-onto (front ++ part) (d ∷ goes.more) [] parts lacks_all (slice_split-cons_yes
    (λ b. b == comma) d goes.more is)
    ∙ ap (λ p. p ∷ parts) (append-nil (front ++ part)))
    sound.reads (λ none. cc) goes.unfinished

-- a line begins with zero or more valid numbers without a `,`. The rest of the line begins with a byte other than `,`.
-- If the first number of the rest has the error `e`, then the first part of the line has the error `error_in_part e`
pub HasPartError-from : (line rest : List ℕ) (c : ℕ) (cs : List ℕ) (sound : IsSound line rest) (e : Error)
    → Lacks sound.front → rest ≡ c ∷ cs → (c == comma) ≡ false
    → NumberError rest e → HasPartError line (error_in_part e)
HasPartError-from line rest c cs sound (InvalidBase64 d) lacks first ne (part, goes, none) =
    elim (cases_Bool (d == comma)) [
      | inl is ↦
          subst (HasPartError line) (sym (cond-true (d == comma) VlqLeftover (InvalidBase64 d) is))
          (HasPartError-comma line rest c cs sound d part goes lacks first ne is)
      | inr differs ↦
          subst (HasPartError line) (sym (cond-false (d == comma) VlqLeftover (InvalidBase64 d) differs))
          (HasPartError-at line sound.front rest part sound.numbers d
          (InvalidBase64 d) sound.split sound.reads lacks differs goes (λ m at. (part, at, none)))
    ]
HasPartError-from line rest c cs sound VlqOverflow lacks first ne (part, d, goes, digit, great) =
    HasPartError-at line sound.front rest part sound.numbers d VlqOverflow sound.split sound.reads lacks
    (digit_no_comma d digit) goes (λ m at. (part, d, at, digit, great))
HasPartError-from line rest c cs sound VlqLeftover lacks first ne unfinished =
    let front : List ℕ = sound.front in
    let lacks_all : Lacks (front ++ rest) = Lacks-append front rest lacks (Lacks-continues rest unfinished.continues) in
    HasPartError-cut line front rest rest sound.numbers []
    (ap parts_of (sound.split ∙ sym (append-nil (front ++ rest)))
    ∙ parts_of-onto (front ++ rest) [] [] [] lacks_all refl
    ∙ ap (λ p. p ∷ []) (append-nil (front ++ rest)))
    sound.reads (λ none. let same : c ∷ cs ≡ [] = sym first ∙ none in cc) unfinished
HasPartError-from line rest c cs sound _ lacks first ne error = absurd error

-- if no number is decoded yet, the rest is the whole `line`, and the count and all steps are 0
pub read_none : (line : List ℕ) → (sound : IsSound line line) × Lacks sound.front × AreSteps sound.numbers (record {
  count = 0;
  steps = 0 ∷ 0 ∷ 0 ∷ 0 ∷ 0 ∷ [];
})
unfolding Lacks
read_none line = (
  record { front = []; numbers = []; reads = refl; split = refl },
  tt,
  record { count = refl; five = refl; each = λ k _. zero_steps k },
)

-- let `read` hold the decoded numbers and `n`. If `rest` begins with the digits of `n`, then `n` is added to the
-- decoded numbers of `line`, and `tail` is the new rest
pub read_more : (line rest tail : List ℕ) (n : ℤ) (read : Numbers) (sound : IsSound line rest) → Lacks sound.front
    → BeginsWith rest n tail → AreSteps (sound.numbers ++ n ∷ []) read
    → (t : IsSound line tail) × Lacks t.front × AreSteps t.numbers read
read_more line rest tail n read sound lacks begins steps =
    let more = IsSound-more line rest tail sound.front sound.numbers n sound.reads sound.split begins in (
      record { front = sound.front ++ begins.group; numbers = sound.numbers ++ n ∷ []; reads = more.0; split = more.1 },
      Lacks-append sound.front begins.group lacks (Lacks-chain begins.group begins.is_group.chain),
      steps,
    )

-- as `read_more`, but without `read`
sound_more : (line rest tail : List ℕ) (n : ℤ) (sound : IsSound line rest) → Lacks sound.front → BeginsWith rest n tail
    → (t : IsSound line tail) × Lacks t.front × (t.numbers ≡ sound.numbers ++ n ∷ [])
sound_more line rest tail n sound lacks begins =
    let more = IsSound-more line rest tail sound.front sound.numbers n sound.reads sound.split begins in (
      record { front = sound.front ++ begins.group; numbers = sound.numbers ++ n ∷ []; reads = more.0; split = more.1 },
      Lacks-append sound.front begins.group lacks (Lacks-chain begins.group begins.is_group.chain),
      refl,
    )

-- if `rest` is empty, the digits of the decoded numbers are the only part of `line`
pub HasFirstPart-last : (line rest : List ℕ) (read : Numbers) (sound : IsSound line rest) → Lacks sound.front
    → AreSteps sound.numbers read → rest ≡ [] → HasFirstPart line read None
HasFirstPart-last line rest read sound lacks steps none =
    let front : List ℕ = sound.front in
    record {
      part = front;
      numbers = sound.numbers;
      split =
          ap parts_of (sound.split ∙ ap (λ zs. front ++ zs) none) ∙ parts_of-onto front [] [] [] lacks refl
          ∙ ap (λ p. p ∷ []) (append-nil front);
      shorter = tt;
      reads = sound.reads;
      steps = steps;
    }

-- a `,` ends the part
pub HasFirstPart-comma : (line rest : List ℕ) (c : ℕ) (tail : Bor (List ℕ)) (read : Numbers) (sound : IsSound line rest)
    → Lacks sound.front → AreSteps sound.numbers read
    → rest ≡ c ∷ tail.now → (c == comma) ≡ true → HasFirstPart line read (Some tail)
HasFirstPart-comma line rest c tail read sound lacks steps first is =
    let front : List ℕ = sound.front in
    let text : line ≡ front ++ c ∷ tail.now = sound.split ∙ ap (λ zs. front ++ zs) first in
    record {
      part = front;
      numbers = sound.numbers;
      split =
          ap parts_of text
          ∙ parts_of-onto front (c ∷ tail.now) [] (parts_of tail.now) lacks
          (slice_split-cons_yes (λ b. b == comma) c tail.now is)
          ∙ ap (λ p. p ∷ parts_of tail.now) (append-nil front);
      shorter = let size = ap length text ∙ length-append front (c ∷ tail.now) in omega arith;
      reads = sound.reads;
      steps = steps;
    }

-- A part of one, four or five numbers.

ended : (line rest : List ℕ) (tail : Option (Bor (List ℕ))) (read : Numbers) (numbers : List ℤ)
    (sound : IsSound line rest) → Lacks sound.front
    → sound.numbers ≡ numbers → AreSteps numbers read → EndsPart rest tail → HasFirstPart line read tail
ended line rest None read numbers sound lacks are steps ends =
    HasFirstPart-last line rest read sound lacks (subst (λ (ns : List ℤ). AreSteps ns read) (sym are) steps) ends
ended line rest (Some tail) read numbers sound lacks are steps ends =
    HasFirstPart-comma line rest comma tail read sound lacks
    (subst (λ (ns : List ℤ). AreSteps ns read) (sym are) steps) ends refl

abbrev IsStep : ℤ → ℕ → Type 0
IsStep n s = s ≡ unsigned_abs (int_rem_euclid n (pos (2 ^ 32)))

each_of_one : (a : ℤ) (v : ℕ) → IsStep a v → (k : ℕ)
    → slice_index (v ∷ 0 ∷ 0 ∷ 0 ∷ 0 ∷ []) k ≡ step k (record { index = 0; numbers = a ∷ [] })
each_of_one a v p zero = p
each_of_one a v p (suc zero) = refl
each_of_one a v p (suc (suc zero)) = refl
each_of_one a v p (suc (suc (suc zero))) = refl
each_of_one a v p (suc (suc (suc (suc zero)))) = refl
each_of_one a v p (suc (suc (suc (suc (suc k))))) = refl

each_of_four : (a b c d : ℤ) (v w x y : ℕ) → IsStep a v → IsStep b w → IsStep c x → IsStep d y → (k : ℕ)
    → slice_index (v ∷ w ∷ x ∷ y ∷ 0 ∷ []) k ≡ step k (record { index = 0; numbers = a ∷ b ∷ c ∷ d ∷ [] })
each_of_four a b c d v w x y p q r s zero = p
each_of_four a b c d v w x y p q r s (suc zero) = q
each_of_four a b c d v w x y p q r s (suc (suc zero)) = r
each_of_four a b c d v w x y p q r s (suc (suc (suc zero))) = s
each_of_four a b c d v w x y p q r s (suc (suc (suc (suc zero)))) = refl
each_of_four a b c d v w x y p q r s (suc (suc (suc (suc (suc k))))) = refl

each_of_five : (a b c d e : ℤ) (v w x y z : ℕ) → IsStep a v → IsStep b w → IsStep c x → IsStep d y
    → IsStep e z → (k : ℕ)
    → slice_index (v ∷ w ∷ x ∷ y ∷ z ∷ []) k ≡ step k (record { index = 0; numbers = a ∷ b ∷ c ∷ d ∷ e ∷ [] })
each_of_five a b c d e v w x y z p q r s t zero = p
each_of_five a b c d e v w x y z p q r s t (suc zero) = q
each_of_five a b c d e v w x y z p q r s t (suc (suc zero)) = r
each_of_five a b c d e v w x y z p q r s t (suc (suc (suc zero))) = s
each_of_five a b c d e v w x y z p q r s t (suc (suc (suc (suc zero)))) = t
each_of_five a b c d e v w x y z p q r s t (suc (suc (suc (suc (suc k))))) = refl

pub part_of_one : (line r₁ : List ℕ) (v : ℕ) (tail : Option (Bor (List ℕ))) → BeginsWithStep line v r₁
    → EndsPart r₁ tail
    → HasFirstPart line (record { count = 1; steps = v ∷ 0 ∷ 0 ∷ 0 ∷ 0 ∷ [] }) tail
unfolding sound_more read_none
part_of_one line r₁ v tail (a, in_line, p) ends =
    let s₀ = read_none line in
    let s₁ = sound_more line line r₁ a s₀.0 s₀.1 in_line in
    ended line r₁ tail _ (a ∷ []) s₁.0 s₁.1 s₁.2
    (record { count = refl; five = refl; each = λ k _. each_of_one a v p k }) ends

pub part_of_four : (line r₁ r₂ r₃ r₄ : List ℕ) (v w x y : ℕ) (tail : Option (Bor (List ℕ)))
    → BeginsWithStep line v r₁ → BeginsWithStep r₁ w r₂ → BeginsWithStep r₂ x r₃ → BeginsWithStep r₃ y r₄
    → EndsPart r₄ tail
    → HasFirstPart line (record { count = 4; steps = v ∷ w ∷ x ∷ y ∷ 0 ∷ [] }) tail
unfolding sound_more read_none
part_of_four line r₁ r₂ r₃ r₄ v w x y tail (a, in_line, p) (b, in_1, q) (c, in_2, r) (d, in_3, s) ends =
    let s₀ = read_none line in
    let s₁ = sound_more line line r₁ a s₀.0 s₀.1 in_line in
    let s₂ = sound_more line r₁ r₂ b s₁.0 s₁.1 in_1 in
    let s₃ = sound_more line r₂ r₃ c s₂.0 s₂.1 in_2 in
    let s₄ = sound_more line r₃ r₄ d s₃.0 s₃.1 in_3 in
    ended line r₄ tail _ (a ∷ b ∷ c ∷ d ∷ []) s₄.0 s₄.1 s₄.2
    (record { count = refl; five = refl; each = λ k _. each_of_four a b c d v w x y p q r s k }) ends

pub part_of_five : (line r₁ r₂ r₃ r₄ r₅ : List ℕ) (v w x y z : ℕ) (tail : Option (Bor (List ℕ)))
    → BeginsWithStep line v r₁ → BeginsWithStep r₁ w r₂ → BeginsWithStep r₂ x r₃ → BeginsWithStep r₃ y r₄
    → BeginsWithStep r₄ z r₅ → EndsPart r₅ tail
    → HasFirstPart line (record { count = 5; steps = v ∷ w ∷ x ∷ y ∷ z ∷ [] }) tail
unfolding sound_more read_none
part_of_five line r₁ r₂ r₃ r₄ r₅ v w x y z tail (a, in_line, p) (b, in_1, q) (c, in_2, r) (d, in_3, s)
    (e, in_4, t) ends =
    let s₀ = read_none line in
    let s₁ = sound_more line line r₁ a s₀.0 s₀.1 in_line in
    let s₂ = sound_more line r₁ r₂ b s₁.0 s₁.1 in_1 in
    let s₃ = sound_more line r₂ r₃ c s₂.0 s₂.1 in_2 in
    let s₄ = sound_more line r₃ r₄ d s₃.0 s₃.1 in_3 in
    let s₅ = sound_more line r₄ r₅ e s₄.0 s₄.1 in_4 in
    ended line r₅ tail _ (a ∷ b ∷ c ∷ d ∷ e ∷ []) s₅.0 s₅.1 s₅.2
    (record { count = refl; five = refl; each = λ k _. each_of_five a b c d e v w x y z p q r s t k }) ends
