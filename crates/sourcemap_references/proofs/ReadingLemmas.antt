-- The bytes that remain in a reader after it reads a line.
use Rattle.std.proofs.Common.{◌≡◌, refl, sym, ap, subst, ◌∙◌, ℕ, suc, ◌-◌, ◌<◌, ◌==◌, ◌⊎◌, Bool, true, false}
use Rattle.std.proofs.Common.{if◌then◌else◌, List, [], ◌∷◌, ◌++◌, Option, None, Some, IfSome, length, nat_lt, arith}
use Rattle.std.proofs.Common.{inl, inr}
use Rattle.std.proofs.lemmas.Bool.{cases_Bool}
use Rattle.std.proofs.BufReadLemmas.{take_through-nil, take_through_nonempty}
use Rattle.std.specs.Io.BufRead.{DropsThrough, drop_through, first_piece, strip_last, take_through}
use Rattle.std.proofs.lemmas.Bool.Decides.{nat_tests}
use Rattle.std.specs.Io.Buffered.{reader_buffer, reader_capacity, reader_inner, reader_remaining}
use Rattle.std.specs.Io.KnownBytes.{prepend_known}
use Rattle.std.specs.declared.io.buffered.BufReader.{BufReader}
use Rattle.std.proofs.KnownBytes.{prepend_known-nil}
use Rattle.sourcemap_references.proofs.LineLemmas.{is_utf8-nil, text_lines-more}
use Rattle.sourcemap_references.specs.Lines.{ReadsLine}
use Rattle.sourcemap_references.specs.Reference.{Reference, first_on, first_reference, line_reference, or_later}
use Rattle.sourcemap_references.specs.Reference.{reference_on, text_lines}

if_cons : (b : Bool) (x : ℕ) (xs ys : List ℕ) → (if b then x ∷ xs else x ∷ ys) ≡ x ∷ (if b then xs else ys)
if_cons true x xs ys = refl
if_cons false x xs ys = refl

strip_last-cons : (x z : ℕ) (zs : List ℕ) → strip_last 10 (x ∷ z ∷ zs) ≡ x ∷ strip_last 10 (z ∷ zs)
strip_last-cons x z zs =
    let longer : length (x ∷ z ∷ zs) - 1 ≡ suc (length zs) = omega arith in
    let shorter : length (z ∷ zs) - 1 ≡ length zs = omega arith in
    let more : nat_lt 0 (length (x ∷ z ∷ zs)) ≡ true = grind (arith, nat_tests) in
    let some : nat_lt 0 (length (z ∷ zs)) ≡ true = grind (arith, nat_tests) in
    rw (longer, shorter, more, some) (if_cons _ x _ _)

take_through-cons : (y : ℕ) (ys : List ℕ) → (zs : List ℕ) × (take_through 10 (y ∷ ys) ≡ y ∷ zs)
take_through-cons y ys =
    elim (cases_Bool (y == 10)) [
      | inl is ↦ ([], rw is refl)
      | inr is ↦ (take_through 10 ys, rw is refl)
    ]

first_piece-cons : (x y : ℕ) (ys : List ℕ) → (x == 10) ≡ false
    → first_piece 10 (x ∷ y ∷ ys) ≡ x ∷ first_piece 10 (y ∷ ys)
first_piece-cons x y ys other =
    let next = take_through-cons y ys in
    let more : take_through 10 (x ∷ y ∷ ys) ≡ x ∷ take_through 10 (y ∷ ys) = rw other refl in
    ap (strip_last 10) (more ∙ ap (λ zs. x ∷ zs) next.1) ∙ strip_last-cons x y next.0
    ∙ ap (λ zs. x ∷ strip_last 10 zs) (sym next.1)

-- let `text` not be empty. Then one of two cases holds. Either the lines of `text` are its first line, followed by the
-- lines of the text after the first newline. Or `text` is one line, and no text is left after this line
lines_through : (text : List ℕ) → 0 < length text
    → (text_lines text ≡ first_piece 10 text ∷ text_lines (drop_through 10 text))
    ⊎ ((text_lines text ≡ first_piece 10 text ∷ []) × (drop_through 10 text ≡ []))
lines_through [] some = absurd (omega arith)
lines_through (x ∷ []) some =
    elim (cases_Bool (x == 10)) [
      | inl is ↦ let piece : strip_last 10 (x ∷ []) ≡ [] = rw is refl in
          inl (rw is (ap (λ line. line ∷ text_lines []) (sym piece)))
      | inr is ↦ let piece : strip_last 10 (x ∷ []) ≡ x ∷ [] = rw is refl in
          inr (rw is (ap (λ line. line ∷ []) (sym piece)), rw is refl)
    ]
lines_through (x ∷ y ∷ ys) some =
    elim (cases_Bool (x == 10)) [
      | inl is ↦ let piece : strip_last 10 (x ∷ []) ≡ [] = rw is refl in
          inl (rw is (ap (λ line. line ∷ text_lines (y ∷ ys)) (sym piece)))
      | inr is ↦
          let piece = sym (first_piece-cons x y ys is) in
          let left : drop_through 10 (x ∷ y ∷ ys) ≡ drop_through 10 (y ∷ ys) = rw is refl in
          elim (lines_through (y ∷ ys) (omega arith)) [
            | inl more ↦ inl
                (text_lines-more x (y ∷ ys) _ _ is more
                ∙ ap (λ line. line ∷ text_lines (drop_through 10 (y ∷ ys))) piece
                ∙ ap (λ rest. first_piece 10 (x ∷ y ∷ ys) ∷ text_lines rest) (sym left))
            | inr last ↦ inr (text_lines-more x (y ∷ ys) _ _ is last.0 ∙ ap (λ line. line ∷ []) piece, left ∙ last.1)
          ]
    ]

first_reference-nil : first_reference [] ≡ Some None
first_reference-nil = ap (λ b. or_later (if b then Some (reference_on []) else None) (Some None)) is_utf8-nil

next_line : (text : List ℕ) → 0 < length text
    → first_reference text ≡ or_later (line_reference (first_piece 10 text)) (first_reference (drop_through 10 text))
next_line text some =
    elim (lines_through text some) [
      | inl more ↦ ap first_on more
      | inr last ↦
          ap first_on last.0 ∙ ap (or_later (line_reference (first_piece 10 text))) (sym first_reference-nil)
          ∙ ap (λ rest. or_later (line_reference (first_piece 10 text)) (first_reference rest)) (sym last.1)
    ]

-- ---- one read

pub reads_none : (known : Option (List ℕ)) (old all : List ℕ) → old ≡ []
    → IfSome known (λ xs. all ≡ old ++ take_through 10 xs) → length all ≡ 0
    → IfSome known (λ text. first_reference text ≡ Some None)
reads_none None old all fresh is empty = tt
reads_none (Some text) old all fresh is empty =
    let same = is ∙ ap (λ xs. xs ++ take_through 10 text) fresh in
    ap first_reference (take_through-nil 10 text (ap length (sym same) ∙ empty)) ∙ first_reference-nil

pub reads_line : (known left : Option (List ℕ)) (old all line : List ℕ) → old ≡ []
    → IfSome known (λ xs. all ≡ old ++ take_through 10 xs)
    → DropsThrough known left 10 → 0 < length all → line ≡ strip_last 10 all → ReadsLine known left true line
reads_line None left old all line fresh is drops some piece = tt
reads_line (Some text) left old all line fresh is drops some piece =
    let same = is ∙ ap (λ xs. xs ++ take_through 10 text) fresh in
    let read = piece ∙ ap (strip_last 10) same in (
      drop_through 10 text,
      drops,
      next_line text (take_through_nonempty 10 text (subst (λ xs. 0 < length xs) same some))
          ∙ ap (λ xs. or_later (line_reference xs) (first_reference (drop_through 10 text))) (sym read),
    )

-- ---- the lines so far

-- `known` has the bytes of the reader at the start, and `left` has the bytes that remain. If `known` is not `None`,
-- both have the same `first_reference`
abbrev pub HasLeft : Option (List ℕ) → Option (List ℕ) → Type 0
HasLeft known left =
    IfSome known (λ text. (rest : List ℕ) × (left ≡ Some rest) × (first_reference text ≡ first_reference rest))

same_left : (known left : Option (List ℕ)) → left ≡ known → HasLeft known left
same_left None left is = tt
same_left (Some text) left is = (text, is, refl)

pub left_at_start : {T A : Type 0} (remaining : T → Option (List ℕ)) (inner : T) (r : BufReader T A)
    → reader_inner r ≡ inner → reader_buffer r ≡ []
    → reader_capacity r ≡ 8192 → HasLeft (remaining inner) (reader_remaining remaining r)
left_at_start remaining inner r is empty capacity =
    let none : reader_capacity r == 0 ≡ false = ap (λ n. n == 0) capacity in
    let all : reader_remaining remaining r ≡ prepend_known (reader_buffer r) (remaining r.inner) =
    ap (λ b. if b then None else prepend_known (reader_buffer r) (remaining r.inner)) none in
    same_left _ _
    (all ∙ ap (λ xs. prepend_known xs (remaining r.inner)) empty ∙ prepend_known-nil (remaining r.inner)
    ∙ ap remaining is)

pub left_after : (known before left : Option (List ℕ)) (line : List ℕ) → HasLeft known before
    → ReadsLine before left true line → line_reference line ≡ Some None
    → HasLeft known left
left_after None before left line so_far reads says = tt
left_after (Some text) before left line so_far reads says =
    let read = subst (λ b. ReadsLine b left true line) so_far.1 reads in
    (read.0, read.1, so_far.2 ∙ read.2 ∙ ap (λ current. or_later current (first_reference read.0)) says)

pub found_after : (known before left : Option (List ℕ)) (line : List ℕ) (found : Reference) → HasLeft known before
    → ReadsLine before left true line
    → line_reference line ≡ Some (Some found) → IfSome known (λ text. first_reference text ≡ Some (Some found))
found_after None before left line found so_far reads says = tt
found_after (Some text) before left line found so_far reads says =
    let read = subst (λ b. ReadsLine b left true line) so_far.1 reads in
    so_far.2 ∙ read.2 ∙ ap (λ current. or_later current (first_reference read.0)) says

pub none_left : (known before left : Option (List ℕ)) (line : List ℕ) → HasLeft known before
    → ReadsLine before left false line
    → IfSome known (λ text. first_reference text ≡ Some None)
none_left None before left line so_far reads = tt
none_left (Some text) before left line so_far reads = so_far.2 ∙ subst (λ b. ReadsLine b left false line) so_far.1 reads
