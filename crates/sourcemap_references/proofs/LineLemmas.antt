-- A text is UTF-8 exactly if the text before a newline and the text after the newline are both UTF-8. The lines up to
-- the first line with a mark decide the reference of the text.
use Rattle.std.proofs.Common.{◌≡◌, refl, sym, ap, subst, ◌∙◌, ℕ, zero, suc, ◌+◌, ◌-◌, ◌<◌, ◌≤◌, Bool, true, false, ◌&&◌}
use Rattle.std.proofs.Common.{if◌then◌else◌, List, [], ◌∷◌, ◌++◌, MatchOption, Option, None, Some, is_some, option_map}
use Rattle.std.proofs.Common.{length, take, drop, get_or, nat_lt, slice_range, arith, append_assoc, IsUtf8}
use Rattle.std.proofs.lemmas.Bool.{and_parts, eqb-true, and_from, false_from_ne_true}
use Rattle.std.specs.Cmp.{both_ways}
use Rattle.std.proofs.Math.Bool.{and-true}
use Rattle.std.proofs.Math.Seq.{take-add}
use Rattle.std.proofs.lemmas.Bool.Decides.{nat_tests}
use Rattle.std.proofs.lemmas.List.{take_at, drop_at, get_or_at, length-append, length-drop, length-take-le, take_more}
use Rattle.std.proofs.lemmas.List.{take_all, get_or-drop, drop-drop}
use Rattle.std.proofs.lemmas.Str.{IsUtf8-append, IsUtf8-nil, IsUtf8-take, IsUtf8-drop, IsUtf8-from_ascii}
use Rattle.std.proofs.lemmas.Str.{IsUtf8-from_is_utf8, is_utf8-from_IsUtf8, IsCharBoundary-before_ascii}
use Rattle.std.proofs.lemmas.Str.{IsCharBoundary-after_ascii, IsCharBoundary-from_take}
use Rattle.std.specs.Str.{is_utf8, IsAscii}
use Rattle.memchr.specs.Find.{NoneBefore, Nowhere, Passes, is_byte}
use Rattle.std.specs.Str.{IsCharBoundary}
use Rattle.sourcemap_references.specs.Lines.{IsFirstMarked, AreUnmarked, EndsAt, LeavesOnly, if_text, lines_after}
use Rattle.sourcemap_references.specs.declared.lines.Line.{Line}
use Rattle.sourcemap_references.specs.Reference.{Reference, first_on, first_reference, line_reference, or_later}
use Rattle.sourcemap_references.specs.Reference.{reference_on, text_lines}

-- ---- splits at newlines

pub text_lines-more : (byte : ℕ) (text : List ℕ) (line : List ℕ) (lines : List (List ℕ)) → is_byte 10 byte ≡ false
    → text_lines text ≡ line ∷ lines → text_lines (byte ∷ text) ≡ (byte ∷ line) ∷ lines
text_lines-more byte text line lines none is = rw (none, is) refl

pub text_lines-cut : (text : List ℕ) (at : ℕ) → at < length text → Passes (is_byte 10) text at
    → Nowhere (Passes (is_byte 10) text) 0 at
    → text_lines text ≡ take at text ∷ text_lines (drop (suc at) text)
text_lines-cut [] at inside ends none = absurd (omega arith)
text_lines-cut (byte ∷ text) zero inside ends none = rw ends refl
text_lines-cut (byte ∷ text) (suc at) inside ends none =
    text_lines-more byte text _ _ (false_from_ne_true _ (none 0 (omega arith) (omega arith)))
    (text_lines-cut text at (omega arith) ends (λ k low high. none (suc k) (omega arith) (omega arith)))

pub text_lines-uncut : (text : List ℕ) → Nowhere (Passes (is_byte 10) text) 0 (length text)
    → text_lines text ≡ text ∷ []
text_lines-uncut [] none = refl
text_lines-uncut (byte ∷ text) none =
    text_lines-more byte text _ _ (false_from_ne_true _ (none 0 (omega arith) (omega arith)))
    (text_lines-uncut text (λ k low high. none (suc k) (omega arith) (omega arith)))

-- ---- UTF-8 on both sides of an ASCII byte

ascii_byte : (byte : ℕ) → byte < 128 → IsUtf8 (byte ∷ [])
ascii_byte byte small = IsUtf8-from_ascii (byte ∷ []) (one byte small)
  where
    one : (byte : ℕ) → byte < 128 → IsAscii (byte ∷ [])
    one byte small zero = small
    one byte small (suc k) = omega arith

before_ascii : (front later : List ℕ) (byte : ℕ) → byte < 128 → IsUtf8 (front ++ byte ∷ later) → IsUtf8 front
before_ascii front later byte small text =
    let at = get_or_at front byte later 0 (length front) refl in
    let within = length-append front (byte ∷ later) in
    let ascii_here : get_or (front ++ byte ∷ later) (length front) 0 < 128 = omega (arith, at) in
    subst IsUtf8 (take_at front (byte ∷ later) (length front) refl)
    (IsUtf8-take (front ++ byte ∷ later) (length front) text
    (IsCharBoundary-before_ascii (front ++ byte ∷ later) (length front) (omega (arith, within)) ascii_here))

after_ascii : (front later : List ℕ) (byte : ℕ) → byte < 128 → IsUtf8 (front ++ byte ∷ later) → IsUtf8 later
after_ascii front later byte small text =
    let at = get_or_at front byte later 0 (length front) refl in
    let within = length-append front (byte ∷ later) in
    let ascii_here : get_or (front ++ byte ∷ later) (length front) 0 < 128 = omega (arith, at) in
    let rest = IsUtf8-drop (front ++ byte ∷ later) (length front + 1) text (IsCharBoundary-after_ascii
    (front ++ byte ∷ later) (length front) text (omega (arith, within)) ascii_here) in
    let following = ap (drop (length front + 1)) (sym (append_assoc front (byte ∷ []) later)) ∙ drop_at (front ++ byte
    ∷ []) later (length front + 1) (length-append front (byte ∷ [])) in
    subst IsUtf8 following rest

pub is_utf8-ascii : (front later : List ℕ) (byte : ℕ) → byte < 128
    → is_utf8 (front ++ byte ∷ later) ≡ (is_utf8 front && is_utf8 later)
is_utf8-ascii front later byte small =
    both_ways _ _
    (λ e. let text = IsUtf8-from_is_utf8 _ e in
    and_from _ _ (is_utf8-from_IsUtf8 _ (before_ascii front later byte small text))
    (is_utf8-from_IsUtf8 _ (after_ascii front later byte small text)))
    (λ e. let both = and_parts _ _ e in
    is_utf8-from_IsUtf8 _ (IsUtf8-append front (byte ∷ later) (IsUtf8-from_is_utf8 _ both.0)
    (IsUtf8-append (byte ∷ []) later (ascii_byte byte small) (IsUtf8-from_is_utf8 _ both.1))))

pub is_utf8-nil : is_utf8 [] ≡ true
is_utf8-nil = is_utf8-from_IsUtf8 [] IsUtf8-nil

is_utf8-newline : (front : List ℕ) → is_utf8 (front ++ 10 ∷ []) ≡ is_utf8 front
is_utf8-newline front =
    is_utf8-ascii front [] 10 (omega arith) ∙ ap (λ b. is_utf8 front && b) is_utf8-nil ∙ and-true (is_utf8 front)

-- ---- one line

if_both : (a b : Bool) (due : Option (Option Reference))
    → (if a then (if b then due else None) else None) ≡ (if (a && b) then due else None)
if_both true b due = refl
if_both false b due = refl

if_text-both : (front line whole : List ℕ) (due : Option (Option Reference))
    → is_utf8 whole ≡ (is_utf8 front && is_utf8 line)
    → if_text front (if_text line due) ≡ if_text whole due
if_text-both front line whole due is =
    if_both (is_utf8 front) (is_utf8 line) due ∙ ap (λ b. if b then due else None) (sym is)

later_counts : (text : Bool) (found : Option Reference) (later : Option (Option Reference)) → is_some found ≡ false
    → or_later (if text then Some found else None) later ≡ (if text then later else None)
later_counts true None later none = refl
later_counts true (Some _) later none = absurd (let no = none in cc)
later_counts false found later none = refl

line_counts : (text : Bool) (found : Option Reference) (later : Option (Option Reference)) → is_some found ≡ true
    → or_later (if text then Some found else None) later ≡ (if text then Some found else None)
line_counts true None later some = absurd (let no = some in cc)
line_counts true (Some _) later some = refl
line_counts false found later some = refl

-- ---- lines without a mark

-- what holds of `start` if the bytes before `start` are lines without a mark. If these bytes are UTF-8, `text` and the
-- bytes from `start` on have the same `first_reference`. Otherwise `first_reference` of `text` is `None`
pub record IsPassed (text : List ℕ) (start : ℕ) : Type 0 where
  pub within : start ≤ length text
  pub parts : (later : List ℕ) → is_utf8 (take start text ++ later) ≡ (is_utf8 (take start text) && is_utf8 later)
  pub left : first_reference text ≡ if_text (take start text) (first_reference (drop start text))

pub passed-start : (text : List ℕ) → IsPassed text 0
passed-start text = record {
  within = omega arith;
  parts = λ later. ap (λ b. b && is_utf8 later) (sym is_utf8-nil);
  left = ap (λ b. if b then first_reference text else None) (sym is_utf8-nil);
}

pub ends_at_newline : (text : List ℕ) (start count : ℕ) → start ≤ length text
    → NoneBefore (Passes (is_byte 10) (drop start text)) 0 (length (drop start text)) count
    → Passes (is_byte 10) (drop start text) count
    → EndsAt text start (start + count)
ends_at_newline text start count order none ends =
    let left = length-drop start text in
    let inside = none.high in
    let same : start + count - start ≡ count = omega arith in
    let next : start + suc count ≡ start + count + 1 = omega arith in
    let more : nat_lt (start + count) (length text) ≡ true = let less : start + count < length text = omega arith in
    grind (arith, nat_tests) in
    record {
      order = omega arith;
      within = omega arith;
      newline = λ _. sym (get_or-drop start text count 0) ∙ eqb-true _ 10 ends;
      lines =
          text_lines-cut (drop start text) count inside ends none.before
          ∙ ap (λ n. take count (drop start text) ∷ text_lines n)
          (drop-drop (suc count) start text ∙ ap (λ n. drop n text) next)
          ∙ ap (λ n. take n (drop start text) ∷ text_lines (drop (start + count + 1) text)) (sym same)
          ∙ ap (λ b. slice_range text start (start + count)
          ∷ (if b then text_lines (drop (start + count + 1) text) else [])) (sym more);
    }

pub ends_with_text : (text : List ℕ) (start : ℕ) → start ≤ length text
    → Nowhere (Passes (is_byte 10) (drop start text)) 0 (length (drop start text))
    → EndsAt text start (length text)
ends_with_text text start order none =
    let more : nat_lt (length text) (length text) ≡ false = grind (arith, nat_tests) in
    record {
      order = order;
      within = omega arith;
      newline = λ inside. absurd (omega arith);
      lines =
          text_lines-uncut (drop start text) none
          ∙ ap (λ line. line ∷ [])
          (sym (take_all (length text - start) (drop start text) (let left = length-drop start text in omega arith)))
          ∙ ap (λ b. slice_range text start (length text)
          ∷ (if b then text_lines (drop (length text + 1) text) else [])) (sym more);
    }

up_to_end : (text : List ℕ) (start end : ℕ) → start ≤ end
    → take end text ≡ take start text ++ slice_range text start end
up_to_end text start end order = let sum : end ≡ start + (end - start) = omega arith in
    ap (λ n. take n text) sum ∙ take-add start (end - start) text

is_utf8-end : (text : List ℕ) (start end : ℕ) → IsPassed text start → start ≤ end
    → is_utf8 (take end text) ≡ (is_utf8 (take start text) && is_utf8 (slice_range text start end))
is_utf8-end text start end passed order =
    ap is_utf8 (up_to_end text start end order) ∙ passed.parts (slice_range text start end)

left-here : (text : List ℕ) (start end : ℕ) → IsPassed text start → EndsAt text start end
    → first_reference text ≡ if_text (take start text) (or_later (line_reference (slice_range text start end))
    (first_on (lines_after text end)))
left-here text start end passed ends = passed.left ∙ ap (λ lines. if_text (take start text) (first_on lines)) ends.lines

left-after : (text : List ℕ) (start end : ℕ) → IsPassed text start → EndsAt text start end
    → is_some (reference_on (slice_range text start end)) ≡ false
    → first_reference text ≡ if_text (take end text) (first_on (lines_after text end))
left-after text start end passed ends none =
    left-here text start end passed ends
    ∙ ap (if_text (take start text)) (later_counts _ _ _ none)
    ∙ if_text-both _ _ _ _ (is_utf8-end text start end passed ends.order)

pub passed-line : (text : List ℕ) (start end : ℕ) → IsPassed text start → EndsAt text start end
    → is_some (reference_on (slice_range text start end)) ≡ false
    → end < length text → IsPassed text (end + 1)
passed-line text start end passed ends none inside =
    let front = take_more text end 0 inside ∙ ap (λ byte. take end text ++ byte ∷ []) (ends.newline inside) in
    let same = ap is_utf8 front ∙ is_utf8-newline (take end text) in
    let more : nat_lt end (length text) ≡ true = grind (arith, nat_tests) in
    record {
      within = omega arith;
      parts = λ later.
          ap (λ xs. is_utf8 (xs ++ later)) front ∙ ap is_utf8 (append_assoc (take end text) (10 ∷ []) later)
          ∙ is_utf8-ascii (take end text) later 10 (omega arith) ∙ ap (λ b. b && is_utf8 later) (sym same);
      left =
          left-after text start end passed ends none
          ∙ ap (λ b. if_text (take end text) (first_on (if b then text_lines (drop (end + 1) text) else []))) more
          ∙ ap (λ b. if b then first_reference (drop (end + 1) text) else None) (sym same);
    }

-- if no line before `start` has a mark, and the line from `start` to `end` has no mark either, then no line up to `end`
-- has a mark
pub unmarked : (text : List ℕ) (start end : ℕ) → IsPassed text start → EndsAt text start end
    → is_some (reference_on (slice_range text start end)) ≡ false
    → AreUnmarked text end
unmarked text start end passed ends none =
    record { within = ends.within; left = left-after text start end passed ends none }

only_then : (text : List ℕ) (end : ℕ) → AreUnmarked text end → IsUtf8 (take end text)
    → first_reference text ≡ first_on (lines_after text end)
only_then text end lines utf8 = lines.left ∙ ap (λ b. if b then first_on (lines_after text end)
    else None) (is_utf8-from_IsUtf8 (take end text) utf8)

pub leaves : (text rest : List ℕ) (end : ℕ) → AreUnmarked text end → IsUtf8 (take end text) → end < length text
    → rest ≡ drop (end + 1) text
    → LeavesOnly text (Some rest)
leaves text rest end lines utf8 inside is =
    let more : nat_lt end (length text) ≡ true = grind (arith, nat_tests) in
    let left = length-drop (end + 1) text in
    let long = ap length is in (
      only_then text end lines utf8 ∙ ap (λ b. first_on (if b then text_lines (drop (end + 1) text) else [])) more
          ∙ ap first_reference (sym is),
      omega (arith, left, long, inside),
    )

pub leaves_none : (text : List ℕ) (end : ℕ) → AreUnmarked text end → IsUtf8 (take end text) → length text ≤ end
    → LeavesOnly text None
leaves_none text end lines utf8 last =
    let more : nat_lt end (length text) ≡ false = grind (arith, nat_tests) in
    only_then text end lines utf8 ∙ ap (λ b. first_on (if b then text_lines (drop (end + 1) text) else [])) more

pub whole_text : (text : List ℕ) (end : ℕ) → AreUnmarked text end → IsUtf8 text → length text ≤ end
    → first_reference text ≡ Some None
whole_text text end lines utf8 last = leaves_none text end lines (subst IsUtf8 (sym (take_all end text last)) utf8) last

start_boundary : (text : List ℕ) (start end : ℕ) → IsPassed text start → EndsAt text start end → IsUtf8 (take end text)
    → IsCharBoundary (take end text) start
start_boundary text start end passed ends utf8 =
    let both = and_parts _ _ (sym (is_utf8-end text start end passed ends.order) ∙ is_utf8-from_IsUtf8 _ utf8) in
    let fits = length-take-le end text ends.within in
    let order = ends.order in
    let front : take start (take end text) ≡ take start text = ap (take start) (up_to_end text start end order)
    ∙ take_at (take start text) _ start (length-take-le start text passed.within) in
    IsCharBoundary-from_take (take end text) start utf8 (omega (arith, fits))
    (subst IsUtf8 (sym front) (IsUtf8-from_is_utf8 _ both.0))

end_boundary : (text : List ℕ) (start end : ℕ) → EndsAt text start end → IsCharBoundary text end
end_boundary text start end ends =
    (ends.within, λ inside high. absurd (let is = ends.newline inside in omega (arith, is)))

pub decides : (text : List ℕ) (line : Line) → IsPassed text line.start → EndsAt text line.start line.end
    → is_some (reference_on (slice_range text line.start line.end)) ≡ true → IsFirstMarked text line
decides text line passed ends some =
    let start = line.start in
    let end = line.end in
    let same : drop start (take end text) ≡ slice_range text start end =
    ap (drop start) (up_to_end text start end ends.order)
    ∙ drop_at (take start text) _ start (length-take-le start text passed.within) in
    record {
      first =
          left-here text start end passed ends
          ∙ ap (if_text (take start text)) (line_counts _ _ _ some)
          ∙ if_text-both _ _ _ _ (is_utf8-end text start end passed ends.order)
          ∙ ap (λ xs. if_text (take end text) (Some (reference_on xs))) (sym same);
      ends = end_boundary text start end ends;
      starts = start_boundary text start end passed ends;
    }

pub leaves_after : {R : Type 0} (text : List ℕ) (end : ℕ) (list_of : R → List ℕ) (rest : Option R)
    → AreUnmarked text end → IsUtf8 (take end text)
    → MatchOption rest (end ≡ length text) (λ r. (end < length text) × (list_of r ≡ drop (end + 1) text))
    → LeavesOnly text (option_map list_of rest)
leaves_after text end list_of None lines utf8 last = leaves_none text end lines utf8 (omega (arith, last))
leaves_after text end list_of (Some r) lines utf8 more = leaves text (list_of r) end lines utf8 more.0 more.1
