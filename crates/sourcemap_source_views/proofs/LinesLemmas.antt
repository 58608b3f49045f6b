-- A text is split at its first terminator, then at the first one of the rest.
use Rattle.std.proofs.Common.{◌≡◌, refl, sym, ap, subst, ◌∙◌, ℕ, zero, suc, ◌+◌, ◌-◌, ◌*◌, ◌/◌, ◌%◌, ◌^◌, ◌<◌, ◌≤◌}
use Rattle.std.proofs.Common.{◌==◌, Bool, not, ◌||◌, eqb, replicate, pow-suc, List, [], ◌∷◌, ◌++◌, length, take, drop}
use Rattle.std.proofs.Common.{get_or, true, false, cond, arith, inl, inr, append_assoc, add-one, IsUtf8, IsCharBoundary}
use Rattle.std.proofs.Common.{slice_get, Some, None, slice_range, ap₂, subst₂, IsAscii, append-nil, map}
use Rattle.std.specs.Bool.{⊤}
use Rattle.std.proofs.lemmas.Bool.{cases_Bool, cases_lt, both_ways, and_parts, eqb-true}
use Rattle.std.proofs.lemmas.Option.{none-some, same_Some, slice_get_past}
use Rattle.std.proofs.lemmas.Str.{IsCharBoundary-start, IsCharBoundary-end, IsCharBoundary-before_ascii}
use Rattle.std.proofs.lemmas.Str.{IsCharBoundary-after_ascii}
use Rattle.std.proofs.lemmas.Bool.Decides.{nat_tests}
use Rattle.std.proofs.lemmas.Bool.{false_from_ne_true}
use Rattle.std.proofs.lemmas.List.{length-take-le, length-drop, take_rest, drop-drop, drop_at, take_at, length-append}
use Rattle.std.proofs.lemmas.List.{length-map, get_or-drop, get_or-append-add, get_or_append_left}
use Rattle.memchr.specs.Find.{NoneBefore, Nowhere, Passes, is_byte2}
use Rattle.sourcemap_source_views.specs.Lines.{Line, ended_by, with_body, with_return, is_terminator, is_crlf}
use Rattle.sourcemap_source_views.specs.Lines.{starts_with_crlf, lines_of, joined, ranges_from, line_ranges}
use Rattle.sourcemap_source_views.specs.Lines.{line_bodies, count_ends, HasNoTerminator, IsPartialTable}
use Rattle.std.specs.List.{AllByRecursion, prefix_len}
use Rattle.std.proofs.lemmas.Simd.{length-chunk, trailing_mask_l, zip2_splat, zip2_of_maps, map-map, mask_l-mod}
use Rattle.std.proofs.lemmas.Simd.{run_in_chunk_fails, run_in_chunk_stops, none_from_empty_mask}
use Rattle.std.proofs.lemmas.List.{drop-take}
use Rattle.std.proofs.lemmas.Nat.{shr-shr}
use Rattle.std.proofs.Math.Nat.{div-one, zero-div, mul_comm, div-div-eq-div-mul}
use lib.Bits.{bit_or}
use lib.Lanes.{chunk, mask_l, top, zip2}
use lib.Count.{count_trailing_zeros}

-- the length in bytes of the terminator at the front of a text: 2 for CRLF, otherwise 1
abbrev pub terminator_len : List ℕ → ℕ
terminator_len text = cond (starts_with_crlf text) 2 1

-- the first byte that ends a line is at this offset
pub record EndsAt (text : List ℕ) (at : ℕ) : Type 0 where
  pub inside : at < length text
  pub ends : is_terminator (get_or text at 0) ≡ true
  pub before : (k : ℕ) → k < at → is_terminator (get_or text k 0) ≡ false

no_pair : (byte : ℕ) (text : List ℕ) → is_terminator byte ≡ false → is_crlf byte text ≡ false
no_pair byte text e = grind (arith, nat_tests)

lines_of-more : (byte : ℕ) (text : List ℕ) → is_terminator byte ≡ false
    → lines_of (byte ∷ text) ≡ with_body byte (lines_of text)
lines_of-more byte text e = let f = no_pair byte text e in rw (f, e) refl

-- if a text starts with a terminator, the first line is empty and ends with this terminator. The other lines are the
-- lines of the text after this terminator
lines_of-end : (text : List ℕ) → 0 < length text → is_terminator (get_or text 0 0) ≡ true
    → lines_of text ≡ ended_by (take (terminator_len text) text) (lines_of (drop (terminator_len text) text))
lines_of-end [] l e = absurd (omega arith)
lines_of-end (byte ∷ []) l e =
    elim (cases_Bool (is_crlf byte [])) [
      | inl p ↦ absurd (grind (arith, nat_tests))
      | inr p ↦ rw (p, e) refl
    ]
lines_of-end (byte ∷ next ∷ text) l e =
    elim (cases_Bool (is_crlf byte (next ∷ text))) [
      | inl p ↦
          let both = and_parts (byte == 13) (next == 10) p in
          let is = eqb-true byte 13 both.0 in
          let then = eqb-true next 10 both.1 in
          rw (p, is, then) refl
      | inr p ↦ rw (p, e) refl
    ]

pub lines_of-cut : (text : List ℕ) (at : ℕ) → EndsAt text at
    → lines_of text ≡ record {
      body = take at text;
      terminator = take (terminator_len (drop at text)) (drop at text);
    } ∷ lines_of (drop (terminator_len (drop at text)) (drop at text))
lines_of-cut text zero e = lines_of-end text e.inside e.ends
lines_of-cut [] (suc at) e = let inside = e.inside in absurd (omega arith)
lines_of-cut (byte ∷ text) (suc at) e =
    let later = lines_of-cut text at (let within = e.inside in
    record { inside = omega arith; ends = e.ends; before = λ k l. e.before (suc k) (omega arith) }) in
    lines_of-more byte text (e.before 0 (omega arith)) ∙ ap (with_body byte) later

pub lines_of-uncut : (text : List ℕ) → ((k : ℕ) → k < length text → is_terminator (get_or text k 0) ≡ false)
    → lines_of text ≡ record { body = text; terminator = [] } ∷ []
lines_of-uncut [] none = refl
lines_of-uncut (byte ∷ text) none =
    lines_of-more byte text (none 0 (omega arith))
    ∙ ap (with_body byte) (lines_of-uncut text (λ k l. none (suc k) (omega arith)))

-- ---- a table that grows

append_row : {X : Type 0} (xs ys : List X) (x : X) → (xs ++ x ∷ []) ++ ys ≡ xs ++ x ∷ ys
append_row xs ys x = append_assoc xs (x ∷ []) ys

some_bytes : (pair : Bool) → 0 < cond pair 2 1
some_bytes true = omega arith
some_bytes false = omega arith

pub terminator-some : (text : List ℕ) → 0 < terminator_len text
terminator-some text = some_bytes (starts_with_crlf text)

pub terminator-inside : (text : List ℕ) → 0 < length text → terminator_len text ≤ length text
terminator-inside [] l = absurd (omega arith)
terminator-inside (byte ∷ []) l =
    elim (cases_Bool (is_crlf byte [])) [ inl p ↦ absurd (grind (arith, nat_tests)) | inr p ↦ rw p (omega arith) ]
terminator-inside (byte ∷ next ∷ text) l =
    elim (cases_Bool (is_crlf byte (next ∷ text))) [ inl p ↦ rw p (omega arith) | inr p ↦ rw p (omega arith) ]

terminator-fits : (rest : List ℕ) (at : ℕ) → EndsAt rest at
    → length (take (terminator_len (drop at rest)) (drop at rest)) ≡ terminator_len (drop at rest)
terminator-fits rest at e =
    let inside = e.inside in
    let left = length-drop at rest in
    length-take-le (terminator_len (drop at rest)) (drop at rest) (terminator-inside (drop at rest) (omega arith))

-- the first line is split off
pub ranges-cut : (rest : List ℕ) (start at : ℕ) → EndsAt rest at
    → ranges_from start (lines_of rest) ≡ (start, start + at) ∷ ranges_from (start + at
    + terminator_len (drop at rest)) (lines_of (drop (terminator_len (drop at rest)) (drop at rest)))
ranges-cut rest start at e =
    let inside = e.inside in
    let len : length (take at rest) ≡ at = length-take-le at rest (omega arith) in
    let width : length (take (terminator_len (drop at rest)) (drop at rest)) ≡ terminator_len (drop at rest) =
    terminator-fits rest at e in
    ap (ranges_from start) (lines_of-cut rest at e)
    ∙ ap₂ (λ n m. (
      start,
      start + n,
    ) ∷ ranges_from (start + n + m) (lines_of (drop (terminator_len (drop at rest)) (drop at rest)))) len width

pub ranges-uncut : (rest : List ℕ) (start : ℕ) → ((k : ℕ) → k < length rest → is_terminator (get_or rest k 0) ≡ false)
    → ranges_from start (lines_of rest) ≡ (start, start + length rest) ∷ []
ranges-uncut rest start none = ap (ranges_from start) (lines_of-uncut rest none)

-- ---- a partial table

-- let the first terminator from `start` on be the `len` bytes at `start + at`. Let `more` be `ranges`, followed by the
-- range from `start` up to this terminator. If `ranges`, followed by the ranges of the lines from `start` on, is
-- `line_ranges text`, then `more`, followed by the ranges of the lines after this terminator, is also `line_ranges
-- text`. The terminator ends within `text`
pub table-more : (text : List ℕ) (start at len : ℕ) (ranges more : List (ℕ × ℕ))
    → more ≡ ranges ++ (start, start + at) ∷ []
    → len ≡ terminator_len (take (length text - (start + at)) (drop (start + at) text))
    → EndsAt (drop start text) at
    → ranges ++ ranges_from start (lines_of (drop start text)) ≡ line_ranges text
    → (start + at + len ≤ length text)
    × (more ++ ranges_from (start + at + len) (lines_of (drop (start + at + len) text)) ≡ line_ranges text)
table-more text start at len ranges more pushed found e left =
    let after : drop at (drop start text) ≡ drop (start + at) text = drop-drop at start text in
    let len_is : len ≡ terminator_len (drop at (drop start text)) =
    found ∙ ap terminator_len (take_rest text (start + at) ∙ sym after) in
    let later : drop len (drop at (drop start text)) ≡ drop (start + at + len) text =
    ap (drop len) after ∙ drop-drop len (start + at) text in
    let cut = ranges-cut (drop start text) start at e in
    let here : ranges_from start (lines_of (drop start text))
    ≡ (start, start + at) ∷ ranges_from (start + at + len) (lines_of (drop (start + at + len) text))
    = cut ∙ ap₂ (λ n rest. (start, start + at) ∷ ranges_from (start + at + n)
    (lines_of rest)) (sym len_is) (ap (λ n. drop n (drop at (drop start text))) (sym len_is) ∙ later) in
    let inside = e.inside in
    let all = length-drop start text in
    let rest = length-drop at (drop start text) in
    let fits = terminator-inside (drop at (drop start text)) (omega arith) in (
      omega arith,
      ap (λ xs. xs ++ ranges_from (start + at + len) (lines_of (drop (start + at + len) text))) pushed
          ∙ append_row ranges _ (start, start + at) ∙ ap (λ xs. ranges ++ xs) (sym here) ∙ left,
    )

pub table-last : (text : List ℕ) (start : ℕ) (ranges more : List (ℕ × ℕ))
    → start ≤ length text
    → more ≡ ranges ++ (start, length text) ∷ []
    → ((k : ℕ) → k < length (drop start text) → is_terminator (get_or (drop start text) k 0) ≡ false)
    → ranges ++ ranges_from start (lines_of (drop start text)) ≡ line_ranges text
    → line_ranges text ≡ more
table-last text start ranges more within pushed none left =
    let len = length-drop start text in
    let end : start + length (drop start text) ≡ length text = omega arith in
    sym (pushed ∙ ap (λ n. ranges ++ (start, n) ∷ []) (sym end)
    ∙ ap (λ xs. ranges ++ xs) (sym (ranges-uncut (drop start text) start none)) ∙ left)

-- if a terminator is at `end`, and `start` is not after `end`, the table gets the line from `start` up to `end`. The
-- next line starts at `end + len`
pub tabled-end : (text : List ℕ) (start end len : ℕ) (table more : List (ℕ × ℕ))
    → IsPartialTable text table start end
    → start ≤ end → end < length text → is_terminator (get_or text end 0) ≡ true
    → more ≡ table ++ (start, end) ∷ []
    → len ≡ terminator_len (take (length text - end) (drop end text))
    → IsPartialTable text more (end + len) (end + 1)
tabled-end text start end len table more t ordered inside ends pushed found =
    let at = end - start in
    let is : start + at ≡ end = omega arith in
    let left = length-drop start text in
    let here : EndsAt (drop start text) at = record {
      inside = omega arith;
      ends = ap is_terminator (get_or-drop start text at 0 ∙ ap (λ n. get_or text n 0) is) ∙ ends;
      before = λ k l. ap is_terminator (get_or-drop start text k 0) ∙ t.quiet (start + k) (omega arith) (omega arith);
    } in
    let some = terminator-some (take (length text - end) (drop end text)) in
    let continues =
    table-more text start at len table more (subst (λ n. more ≡ table ++ (start, n) ∷ []) (sym is) pushed)
    (subst (λ n. len ≡ terminator_len (take (length text - n) (drop n text))) (sym is) found) here t.left in
    record {
      within = omega (arith, continues.0);
      left =
          subst (λ n. more ++ ranges_from (n + len) (lines_of (drop (n + len) text)) ≡ line_ranges text) is continues.1;
      quiet = λ k l m. absurd (omega (arith, some));
    }

-- if no byte from `offset` up to `to`, exclusive, is a terminator, a partial table for `offset` is also one for `to`
pub tabled-on : (text : List ℕ) (start offset to : ℕ) (table : List (ℕ × ℕ)) → IsPartialTable text table start offset
    → ((k : ℕ) → offset ≤ k → k < to → is_terminator (get_or text k 0) ≡ false)
    → IsPartialTable text table start to
tabled-on text start offset to table t none =
    record {
      within = t.within;
      left = t.left;
      quiet = λ k l m. elim (cases_lt k offset) [ inl before ↦ t.quiet k l before | inr after ↦ none k after m ];
    }

pub tabled-whole : (text : List ℕ) (start : ℕ) (table more : List (ℕ × ℕ))
    → IsPartialTable text table start (length text)
    → more ≡ table ++ (start, length text) ∷ [] → line_ranges text ≡ more
tabled-whole text start table more t pushed =
    let left = length-drop start text in
    table-last text start table more t.within pushed
    (λ k l. ap is_terminator (get_or-drop start text k 0) ∙ t.quiet (start + k) (omega arith) (omega arith)) t.left

-- ---- the terminators of a block, as a mask

abbrev full_if : Bool → ℕ
full_if b = cond b 255 0

either_top : (a b : Bool) → top 7 (bit_or (full_if a) (full_if b)) ≡ (a || b)
either_top true true = refl
either_top true false = refl
either_top false true = refl
either_top false false = refl

pub mask_of_ends : (n : ℕ) (v : List ℕ) → length v ≡ n → n ≤ 64
    → mask_l (map (top 7) (zip2 bit_or (zip2 (λ x y. full_if (eqb x y)) v (replicate n 10))
    (zip2 (λ x y. full_if (eqb x y)) v (replicate n 13)))) % 2 ^ 64
    ≡ mask_l (map is_terminator v)
mask_of_ends n v long few =
    let equals = λ (x y : ℕ). full_if (eqb x y) in
    let two = zip2_of_maps bit_or (λ x. equals x 10) (λ x.
    equals x 13) v (zip2_splat equals v n 10 long) (zip2_splat equals v n 13 long) in
    ap (λ lanes. mask_l (map (top 7) lanes) % 2 ^ 64) two
    ∙ ap (λ lanes. mask_l lanes % 2 ^ 64) (map-map (top 7) _ v ∙ (λ i. map (λ x. either_top (eqb x 10) (eqb x 13) i) v))
    ∙ mask_l-mod (map is_terminator v) 64 (omega (arith, length-map v is_terminator))

ends_within : (stop : Bool) (m n l : ℕ) → (0 < m → n < l) → 0 < cond stop 1 0 + 2 * m
    → cond (not stop) (1 + n) 0 < suc l
ends_within true m n l rest some = omega arith
ends_within false m n l rest some = let m_some : 0 < m = omega arith in omega (arith, rest m_some)

first_within : (xs : List ℕ) → 0 < mask_l (map is_terminator xs)
    → prefix_len (λ x. not (is_terminator x)) xs < length xs
first_within [] some = absurd (omega arith)
first_within (x ∷ xs) some = ends_within (is_terminator x) (mask_l (map is_terminator xs)) (prefix_len
    (λ x. not (is_terminator x)) xs) (length xs) (first_within xs) some

half : (b : Bool) (n : ℕ) → (cond b 1 0 + 2 * n) / 2 ≡ n
half true n = omega arith
half false n = omega arith

-- the mask of `xs`, shifted right by `k` bits, is the mask of the bytes of `xs` after the first `k`
pub mask-after : (xs : List ℕ) (k : ℕ) → mask_l (map is_terminator xs) / 2 ^ k ≡ mask_l (map is_terminator (drop k xs))
mask-after xs zero = div-one (mask_l (map is_terminator xs))
mask-after [] (suc k) = zero-div (2 ^ suc k)
mask-after (x ∷ xs) (suc k) =
    ap (λ n. mask_l (map is_terminator (x ∷ xs)) / n) (pow-suc 2 k ∙ mul_comm (2 ^ k) 2)
    ∙ sym (div-div-eq-div-mul (mask_l (map is_terminator (x ∷ xs))) 2 (2 ^ k))
    ∙ ap (λ n. n / 2 ^ k) (half (is_terminator x) (mask_l (map is_terminator xs))) ∙ mask-after xs k

-- the first `\n` or `\r` at or after `offset` and before `end` is at `offset + gap`. The bits of the mask `left` above
-- bit `gap` are the mask of the bytes after this byte and before `end`
pub record Lowest (text : List ℕ) (offset end left gap : ℕ) : Type 0 where
  pub inside : offset + gap < end
  pub quiet : (k : ℕ) → offset ≤ k → k < offset + gap → is_terminator (get_or text k 0) ≡ false
  pub ends : is_terminator (get_or text (offset + gap) 0) ≡ true
  pub after : left / 2 ^ gap / 2 ≡ mask_l (map is_terminator (chunk (offset + gap + 1) (end - (offset + gap + 1)) text))

lowest : (text : List ℕ) (offset end : ℕ) → offset ≤ end → end ≤ length text → end ≤ offset + 64
    → 0 < mask_l (map is_terminator (chunk offset (end - offset) text))
    → Lowest text offset end (mask_l (map is_terminator (chunk offset (end - offset) text)))
    (count_trailing_zeros 64 (mask_l (map is_terminator (chunk offset (end - offset) text))))
lowest text offset end ordered bounded few some =
    let n = end - offset in
    let part = chunk offset n text in
    let gap = count_trailing_zeros 64 (mask_l (map is_terminator part)) in
    let fits : offset + n ≤ length text = omega arith in
    let long = length-chunk offset n text fits in
    let is : gap ≡ prefix_len (λ x. not (is_terminator x)) part =
    trailing_mask_l is_terminator 64 part (omega arith) some in
    let below : gap < n = omega (arith, first_within part some, is, long) in
    let all : gap + 1 + (end - (offset + gap + 1)) ≡ n = omega arith in
    let to : offset + (gap + 1) ≡ offset + gap + 1 = omega arith in
    let rest : drop (gap + 1) part ≡ chunk (offset + gap + 1) (end - (offset + gap + 1)) text =
    ap (λ m. drop (gap + 1) (take m (drop offset text))) (sym all)
    ∙ drop-take (gap + 1) (end - (offset + gap + 1)) (drop offset text)
    ∙ ap (take (end - (offset + gap + 1))) (drop-drop (gap + 1) offset text ∙ ap (λ m. drop m text) to) in
    record {
      inside = omega arith;
      quiet = run_in_chunk_fails is_terminator text offset n gap 0 fits is;
      ends = run_in_chunk_stops is_terminator text offset n gap 0 fits is below;
      after = shr-shr (mask_l (map is_terminator part)) gap 1 ∙ mask-after part (gap + 1)
          ∙ ap (λ xs. mask_l (map is_terminator xs)) rest;
    }

pub lowest_bit : (text : List ℕ) (offset end left : ℕ) → offset ≤ end → end ≤ length text → end ≤ offset + 64
    → left ≡ mask_l (map is_terminator (chunk offset (end - offset) text)) → 0 < left
    → Lowest text offset end left (count_trailing_zeros 64 left)
lowest_bit text offset end left ordered bounded few is some =
    subst (λ m. Lowest text offset end m (count_trailing_zeros 64 m)) (sym is)
    (lowest text offset end ordered bounded few (subst (λ m. 0 < m) is some))

-- if the mask `left` of the bytes from `offset` up to `end`, exclusive, is 0, none of these bytes is a terminator
pub no_bit : (text : List ℕ) (offset end left : ℕ) → offset ≤ end → end ≤ length text
    → left ≡ mask_l (map is_terminator (chunk offset (end - offset) text)) → left ≡ 0
    → (k : ℕ) → offset ≤ k → k < end → is_terminator (get_or text k 0) ≡ false
no_bit text offset end left ordered bounded is none k l m =
    none_from_empty_mask is_terminator text offset (end - offset) 0 (omega arith) (sym is ∙ none) k l (omega arith)

-- ---- the result of a search from an offset

from_there : (text : List ℕ) (start to : ℕ)
    → ((k : ℕ) → k < to - start → is_terminator (get_or (drop start text) k 0) ≡ false)
    → (k : ℕ) → start ≤ k → k < to → is_terminator (get_or text k 0) ≡ false
from_there text start to none k l m =
    let is : start + (k - start) ≡ k = omega arith in
    ap (λ n. is_terminator (get_or text n 0)) (sym is) ∙ ap is_terminator (sym (get_or-drop start text (k - start) 0))
    ∙ none (k - start) (omega arith)

pub end_found : (text : List ℕ) (start at : ℕ)
    → NoneBefore (Passes (is_byte2 10 13) (take (length text - start) (drop start text))) 0 (length (take (length text
    - start) (drop start text))) at × Passes (is_byte2 10 13) (take (length text - start) (drop start text)) at
    → (start ≤ length text → start + at ≤ length text)
    × ((k : ℕ) → start ≤ k → k < start + at → is_terminator (get_or text k 0) ≡ false)
end_found text start at f =
    let found : NoneBefore (Passes (is_byte2 10 13) (drop start text)) 0 (length (drop start text)) at
    × Passes (is_byte2 10 13) (drop start text) at
    = subst (λ hay. NoneBefore (Passes (is_byte2 10 13) hay) 0 (length hay) at
    × Passes (is_byte2 10 13) hay at) (take_rest text start) f in
    let high = found.0.high in
    let left = length-drop start text in (
      λ h. omega arith,
      from_there text start (start + at) (λ k l. false_from_ne_true _ (found.0.before k (omega arith) (omega arith))),
    )

pub none_found : (text : List ℕ) (start : ℕ)
    → Nowhere (Passes (is_byte2 10 13) (take (length text - start) (drop start text))) 0
    (length (take (length text - start) (drop start text)))
    → (k : ℕ) → start ≤ k → k < length text → is_terminator (get_or text k 0) ≡ false
none_found text start f =
    let none : Nowhere (Passes (is_byte2 10 13) (drop start text)) 0 (length (drop start text))
    = subst (λ hay. Nowhere (Passes (is_byte2 10 13) hay) 0 (length hay)) (take_rest text start) f in
    let left = length-drop start text in
    from_there text start (length text) (λ k l. false_from_ne_true _ (none k (omega arith) (omega arith)))

-- ---- lines in their text

-- a terminator is ASCII and not empty
abbrev pub IsEnd : List ℕ → Type 0
IsEnd terminator = (0 < length terminator) × IsAscii terminator

-- each line but the last has a terminator; the last has none
abbrev pub AreEnded : List Line → Type 0
AreEnded [] = ⊤
AreEnded (line ∷ []) = line.terminator ≡ []
AreEnded (line ∷ next ∷ lines) = IsEnd line.terminator × AreEnded (next ∷ lines)

AreEnded-more : (terminator : List ℕ) (lines : List Line) → IsEnd terminator → 0 < length lines → AreEnded lines
    → AreEnded (ended_by terminator lines)
AreEnded-more terminator [] e l a = absurd (omega arith)
AreEnded-more terminator (line ∷ lines) e l a = (e, a)

AreEnded-body : (byte : ℕ) (lines : List Line) → 0 < length lines → AreEnded lines → AreEnded (with_body byte lines)
AreEnded-body byte [] l a = absurd (omega arith)
AreEnded-body byte (line ∷ []) l a = a
AreEnded-body byte (line ∷ next ∷ lines) l a = a

length-with_body : (byte : ℕ) (lines : List Line) → length (with_body byte lines) ≡ length lines
length-with_body byte [] = refl
length-with_body byte (line ∷ lines) = refl

length-with_return : (lines : List Line) → length (with_return lines) ≡ length lines
length-with_return [] = refl
length-with_return (line ∷ lines) = refl

pub some_lines : (text : List ℕ) → 0 < length (lines_of text)
some_lines [] = omega arith
some_lines (byte ∷ text) =
    let later = some_lines text in
    let body = length-with_body byte (lines_of text) in
    let return = length-with_return (lines_of text) in
    elim (cases_Bool (is_crlf byte text)) [
      | inl p ↦ rw p (omega arith)
      | inr p ↦ elim (cases_Bool (is_terminator byte)) [
        | inl e ↦ rw (p, e) (omega arith)
        | inr e ↦ rw (p, e) (omega arith)
      ]
    ]

ascii_end : (byte : ℕ) → is_terminator byte ≡ true → byte < 128
ascii_end byte e = grind (arith, nat_tests)

ascii_one : (byte : ℕ) → byte < 128 → IsAscii (byte ∷ [])
ascii_one byte l zero = l
ascii_one byte l (suc i) = omega arith

ascii_two : (byte next : ℕ) → byte < 128 → next < 128 → IsAscii (byte ∷ next ∷ [])
ascii_two byte next l m zero = l
ascii_two byte next l m (suc i) = ascii_one next m i

lines_of-pair : (byte next : ℕ) (text : List ℕ) → is_crlf byte (next ∷ text) ≡ true
    → lines_of (byte ∷ next ∷ text) ≡ ended_by (13 ∷ 10 ∷ []) (lines_of text)
lines_of-pair byte next text p =
    let both = and_parts (byte == 13) (next == 10) p in
    subst₂ (λ b n. lines_of (b ∷ n ∷ text) ≡ ended_by (13 ∷ 10 ∷ []) (lines_of text)) (sym (eqb-true byte 13 both.0))
    (sym (eqb-true next 10 both.1)) refl

no_pair_alone : (byte : ℕ) → is_crlf byte [] ≡ false
no_pair_alone byte = elim (cases_Bool (is_crlf byte [])) [ inl p ↦ absurd (grind (arith, nat_tests)) | inr p ↦ p ]

lines_of-one : (byte : ℕ) (text : List ℕ) → is_crlf byte text ≡ false → is_terminator byte ≡ true
    → lines_of (byte ∷ text) ≡ ended_by (byte ∷ []) (lines_of text)
lines_of-one byte text p e = rw (p, e) refl

AreEnded-cut : (byte : ℕ) (text : List ℕ) → is_crlf byte text ≡ false → AreEnded (lines_of text)
    → AreEnded (lines_of (byte ∷ text))
AreEnded-cut byte text p a =
    elim (cases_Bool (is_terminator byte)) [
      | inl e ↦ subst AreEnded (sym (lines_of-one byte text p e)) (AreEnded-more (byte ∷ []) (lines_of text) (
        omega arith,
        ascii_one byte (ascii_end byte e),
      ) (some_lines text) a)
      | inr e ↦
          subst AreEnded (sym (lines_of-more byte text e)) (AreEnded-body byte (lines_of text) (some_lines text) a)
    ]

pub AreEnded-lines_of : (text : List ℕ) → AreEnded (lines_of text)
AreEnded-lines_of [] = refl
AreEnded-lines_of (byte ∷ []) = AreEnded-cut byte [] (no_pair_alone byte) refl
AreEnded-lines_of (byte ∷ next ∷ text) =
    let later = AreEnded-lines_of text in
    let after = AreEnded-lines_of (next ∷ text) in
    elim (cases_Bool (is_crlf byte (next ∷ text))) [
      | inl p ↦ subst AreEnded (sym (lines_of-pair byte next text p)) (AreEnded-more (13 ∷ 10 ∷ []) (lines_of text) (
        omega arith,
        ascii_two 13 10 (omega arith) (omega arith),
      ) (some_lines text) later)
      | inr p ↦ AreEnded-cut byte (next ∷ text) p after
    ]

-- if `byte` is added in front of the first line, the joined lines get `byte` in front
joined-body : (byte : ℕ) (lines : List Line) → 0 < length lines → joined (with_body byte lines) ≡ byte ∷ joined lines
joined-body byte [] l = absurd (omega arith)
joined-body byte (line ∷ lines) l = refl

tail_same : (a b : ℕ) (xs ys : List ℕ) → a ∷ xs ≡ b ∷ ys → xs ≡ ys
tail_same a b xs ys e = ap (drop 1) e

joined_after : (next : ℕ) (text : List ℕ) → next ≡ 10 → joined (lines_of (next ∷ text)) ≡ next ∷ text
    → joined (lines_of text) ≡ text
joined_after next text then e =
    let here : joined (lines_of (10 ∷ text)) ≡ 10 ∷ text =
    subst (λ n. joined (lines_of (n ∷ text)) ≡ n ∷ text) then e in
    tail_same 10 10 (joined (lines_of text)) text here

joined-pair : (byte : ℕ) (text : List ℕ) → is_crlf byte text ≡ true → joined (lines_of text) ≡ text
    → joined (lines_of (byte ∷ text)) ≡ byte ∷ text
joined-pair byte [] p e = absurd (both_ways _ (no_pair_alone byte) p)
joined-pair byte (next ∷ text) p e =
    let both = and_parts (byte == 13) (next == 10) p in
    let is = eqb-true byte 13 both.0 in
    let then = eqb-true next 10 both.1 in
    let rest : joined (lines_of text) ≡ text = joined_after next text then e in
    ap joined (lines_of-pair byte next text p) ∙ ap (λ t. 13 ∷ 10 ∷ t) rest
    ∙ ap₂ (λ a b. a ∷ b ∷ text) (sym is) (sym then)

pub joined-lines_of : (text : List ℕ) → joined (lines_of text) ≡ text
joined-lines_of [] = refl
joined-lines_of (byte ∷ text) =
    let later = joined-lines_of text in
    let some = some_lines text in
    elim (cases_Bool (is_crlf byte text)) [
      | inl p ↦ joined-pair byte text p later
      | inr p ↦ elim (cases_Bool (is_terminator byte)) [
        | inl e ↦ ap joined (lines_of-one byte text p e) ∙ ap (λ t. byte ∷ t) later
        | inr e ↦
            ap joined (lines_of-more byte text e) ∙ joined-body byte (lines_of text) some ∙ ap (λ t. byte ∷ t) later
      ]
    ]

-- the bytes in the range are the body of the line at this index; the range is between character boundaries of the text
pub record IsInText (text : List ℕ) (lines : List Line) (row : ℕ) (range : ℕ × ℕ) : Type 0 where
  pub ordered : range.0 ≤ range.1
  pub start : IsCharBoundary text range.0
  pub end : IsCharBoundary text range.1
  pub body : slice_get (map (λ line. line.body) lines) row ≡ Some (slice_range text range.0 range.1)

front_byte : (body terminator rest : List ℕ) → 0 < length terminator
    → get_or (body ++ (terminator ++ rest)) (length body) 0 ≡ get_or terminator 0 0
front_byte body terminator rest l =
    let at : length body + 0 ≡ length body = omega arith in
    ap (λ n. get_or (body ++ (terminator ++ rest)) n 0) (sym at) ∙ get_or-append-add body (terminator ++ rest) 0 0
    ∙ get_or_append_left terminator rest 0 0 l

within : {X : Type 0} (xs : List X) (row : ℕ) → row < length xs → slice_get xs row ≡ None → ⊥
within [] row l e = absurd (omega arith)
within (x ∷ xs) zero l e = none-some x (sym e)
within (x ∷ xs) (suc row) l e = within xs row (omega arith) e

past_length : {X Y : Type 0} (xs : List X) (ys : List Y) (row : ℕ) → length xs ≡ length ys → slice_get xs row ≡ None
    → length ys ≤ row
past_length xs ys row same none =
    elim (cases_lt row (length ys)) [
      | inl l ↦ absurd (within xs row (omega arith) none)
      | inr g ↦ g
    ]

-- the body of a line ends at a character boundary
end_boundary : (text : List ℕ) (start : ℕ) (line : Line) (lines : List Line) → drop start text ≡ joined (line ∷ lines)
    → start ≤ length text → AreEnded (line ∷ lines) → IsCharBoundary text (start + length line.body)
end_boundary text start line [] e l a =
    let all : length (drop start text) ≡ length line.body =
    ap length (e ∙ ap (λ t. line.body ++ (t ++ [])) a ∙ append-nil line.body) in
    let left = length-drop start text in
    let at : start + length line.body ≡ length text = omega arith in
    subst (λ n. IsCharBoundary text n) (sym at) (IsCharBoundary-end text)
end_boundary text start line (next ∷ lines) e l a =
    let left = length-drop start text in
    let all : length (drop start text) ≡ length line.body + (length line.terminator + length (joined (next ∷ lines))) =
    ap length e ∙ length-append line.body (line.terminator ++ joined (next ∷ lines)) ∙ ap (λ n. length line.body
    + n) (length-append line.terminator (joined (next ∷ lines))) in
    let some = a.0.0 in
    let byte : get_or text (start + length line.body) 0 ≡ get_or line.terminator 0 0 =
    sym (get_or-drop start text (length line.body) 0) ∙ ap (λ t. get_or t (length line.body) 0) e
    ∙ front_byte line.body line.terminator (joined (next ∷ lines)) some in
    IsCharBoundary-before_ascii text (start + length line.body) (omega arith)
    (subst (λ b. b < 128) (sym byte) (a.0.1 0))

-- the next line starts at a character boundary
next_boundary : (text : List ℕ) (start : ℕ) (line next : Line) (lines : List Line) → IsUtf8 text
    → drop start text ≡ joined (line ∷ next ∷ lines) → start ≤ length text → AreEnded (line ∷ next ∷ lines)
    → IsCharBoundary text (start + length line.body + length line.terminator)
    × (start + length line.body + length line.terminator ≤ length text)
next_boundary text start line next lines u e l a =
    let left = length-drop start text in
    let all : length (drop start text) ≡ length line.body + (length line.terminator + length (joined (next ∷ lines))) =
    ap length e ∙ length-append line.body (line.terminator ++ joined (next ∷ lines)) ∙ ap (λ n. length line.body
    + n) (length-append line.terminator (joined (next ∷ lines))) in
    let some = a.0.0 in
    let last = length line.terminator - 1 in
    let byte : get_or text (start + (length line.body + last)) 0 ≡ get_or line.terminator last 0 =
    sym (get_or-drop start text (length line.body + last) 0) ∙ ap (λ t. get_or t (length line.body + last) 0) e
    ∙ get_or-append-add line.body (line.terminator ++ joined (next ∷ lines)) last 0
    ∙ get_or_append_left line.terminator (joined (next ∷ lines)) 0 last (omega arith) in
    let after = IsCharBoundary-after_ascii text (start + (length line.body + last)) u (omega arith) (subst
    (λ b. b < 128) (sym byte) (a.0.1 last)) in
    let at : start + (length line.body + last) + 1 ≡ start + length line.body + length line.terminator = omega arith in
    (subst (λ n. IsCharBoundary text n) at after, omega arith)

next_rest : (text : List ℕ) (start : ℕ) (line : Line) (lines : List Line) → drop start text ≡ joined (line ∷ lines)
    → drop (start + length line.body + length line.terminator) text ≡ joined lines
next_rest text start line lines e =
    let at : start + (length line.body + length line.terminator) ≡ start + length line.body + length line.terminator =
    omega arith in
    ap (λ n. drop n text) (sym at) ∙ sym (drop-drop (length line.body + length line.terminator) start text)
    ∙ ap (drop (length line.body + length line.terminator))
    (e ∙ sym (append_assoc line.body line.terminator (joined lines)))
    ∙ drop_at (line.body ++ line.terminator) (joined lines) (length line.body + length line.terminator)
    (length-append line.body line.terminator)

body_there : (text : List ℕ) (start : ℕ) (line : Line) (lines : List Line) → drop start text ≡ joined (line ∷ lines)
    → line.body ≡ slice_range text start (start + length line.body)
body_there text start line lines e =
    let len : start + length line.body - start ≡ length line.body = omega arith in
    sym (ap (λ n. take n (drop start text)) len ∙ ap (take (length line.body)) e
    ∙ take_at line.body (line.terminator ++ joined lines) (length line.body) refl)

pub in_text_at : (text : List ℕ) (start : ℕ) (lines : List Line) (row : ℕ) (range : ℕ × ℕ) → IsUtf8 text
    → drop start text ≡ joined lines → start ≤ length text → IsCharBoundary text start → AreEnded lines
    → slice_get (ranges_from start lines) row ≡ Some range → IsInText text lines row range
in_text_at text start [] row range u e l b a found = absurd (none-some range found)
in_text_at text start (line ∷ lines) zero range u e l b a found =
    subst (IsInText text (line ∷ lines) 0) (same_Some _ _ found) (record {
      ordered = omega arith;
      start = b;
      end = end_boundary text start line lines e l a;
      body = ap Some (body_there text start line lines e);
    })
in_text_at text start (line ∷ []) (suc row) range u e l b a found = absurd (none-some range found)
in_text_at text start (line ∷ next ∷ lines) (suc row) range u e l b a found =
    let after = next_boundary text start line next lines u e l a in
    let later = in_text_at text (start + length line.body + length line.terminator) (next
    ∷ lines) row range u (next_rest text start line (next ∷ lines) e) after.1 after.0 a.1 found in
    record { ordered = later.ordered; start = later.start; end = later.end; body = later.body }

-- in a UTF-8 text, the range at `row` is between character boundaries and holds the body of line `row`
pub line-in_text : (text : List ℕ) (row : ℕ) (range : ℕ × ℕ) → IsUtf8 text
    → slice_get (line_ranges text) row ≡ Some range → IsInText text (lines_of text) row range
line-in_text text row range u found =
    in_text_at text 0 (lines_of text) row range u (sym (joined-lines_of text)) (omega arith)
    (IsCharBoundary-start text u) (AreEnded-lines_of text) found

length-ranges : (start : ℕ) (lines : List Line) → length (ranges_from start lines) ≡ length lines
length-ranges start [] = refl
length-ranges start (line ∷ lines) = ap suc (length-ranges (start + length line.body + length line.terminator) lines)

-- there are as many ranges as lines
pub length-line_ranges : (text : List ℕ) → length (line_ranges text) ≡ length (line_bodies text)
length-line_ranges text = length-ranges 0 (lines_of text) ∙ sym (length-map (lines_of text) (λ line. line.body))

pub line-missing : (text : List ℕ) (row : ℕ) → slice_get (line_ranges text) row ≡ None
    → slice_get (line_bodies text) row ≡ None
line-missing text row e = slice_get_past (line_bodies text) row (past_length (line_ranges text) (line_bodies text) row
    (length-line_ranges text) e)

-- ---- laws

pair_ends : (byte : ℕ) (text : List ℕ) → is_crlf byte text ≡ true → is_terminator byte ≡ true
pair_ends byte text p = grind (arith, nat_tests)

pub count-lines_of : (text : List ℕ) → length (lines_of text) ≡ count_ends text + 1
count-lines_of [] = refl
count-lines_of (byte ∷ text) =
    let later = count-lines_of text in
    let return = length-with_return (lines_of text) in
    let body = length-with_body byte (lines_of text) in
    elim (cases_Bool (is_crlf byte text)) [
      | inl p ↦ (let some = pair_ends byte text p in rw (p, some) (return ∙ later))
      | inr p ↦ elim (cases_Bool (is_terminator byte)) [
        | inl e ↦ rw (p, e) (ap suc later ∙ sym (add-one (count_ends text + 1)))
        | inr e ↦ rw (p, e) (body ∙ later)
      ]
    ]

uncut_return : (lines : List Line) → AllByRecursion HasNoTerminator lines
    → AllByRecursion HasNoTerminator (with_return lines)
uncut_return [] a = tt
uncut_return (line ∷ lines) a = a

uncut_body : (byte : ℕ) (lines : List Line) → is_terminator byte ≡ false → AllByRecursion HasNoTerminator lines
    → AllByRecursion HasNoTerminator (with_body byte lines)
uncut_body byte [] e a = tt
uncut_body byte (line ∷ lines) e a = ((rw e a.0), a.1)

pub uncut-lines_of : (text : List ℕ) → AllByRecursion HasNoTerminator (lines_of text)
uncut-lines_of [] = (refl, tt)
uncut-lines_of (byte ∷ text) =
    let later = uncut-lines_of text in
    elim (cases_Bool (is_crlf byte text)) [
      | inl p ↦ rw p (uncut_return (lines_of text) later)
      | inr p ↦ elim (cases_Bool (is_terminator byte)) [
        | inl e ↦ rw (p, e) (refl, later)
        | inr e ↦ rw (p, e) (uncut_body byte (lines_of text) e later)
      ]
    ]
