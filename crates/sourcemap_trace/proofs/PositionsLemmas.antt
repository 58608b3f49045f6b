-- Where a text is cut, and the numbers that digits make.
use Rattle.std.proofs.Common.{Option, drop-drop, get_or-drop, is_some, length-drop, option_and_then, option_map, ◌≡◌, ◌==◌, ◌<◌, ◌+◌, ◌-◌, ◌*◌, ℕ, List, [], ◌∷◌, true, false, not, inl, inr, Some, None, length, length-take-le, min, get_or, get_or-take, take, take-take, drop, refl, sym, ap, subst, arith, eq-eqb, ◌≤◌, lit≤, drop_of_length-le, nat_le, nat_lt, Bool, ◌∙◌}
use Rattle.std.specs.Char.{digit_value, is_ascii_digit}
use Rattle.std.specs.Int.{IsInRange}
use Rattle.std.specs.List.{All, after_first, before_first, list_all, position_or_len, slice_split}
use Rattle.std.specs.Str.Parse.{digits_value}
use Rattle.std.proofs.Math.Bool.{and-false}
use Rattle.std.proofs.lemmas.Bool.{le-leb, leb-false, leb-true, lt-leb, lt-ltb, ltb-false, ltb-true, eqb-true, ne_eqb}
use Rattle.std.proofs.lemmas.Int.Digits.{digits_value_more}
use Rattle.std.proofs.lemmas.Str.{digit_value_digit}
use Rattle.std.proofs.lemmas.Str.Parse.{digits_value-take-le}
use Rattle.std.proofs.lemmas.List.{drop-take, take_all, take_rest}
use Rattle.std.proofs.lemmas.List.Folds.{list_all_at}
use Rattle.std.proofs.lemmas.List.Sums.{fails_before_first, passes_at_first, position_or_len_is, prefix_len-le-length}
use Rattle.std.proofs.lemmas.List.Elements.{All-from_get_or}
use Rattle.std.proofs.lemmas.List.Splits.{length-slice_split, slice_split_first, slice_split_none}
use Rattle.std.proofs.Math.Dec.{eqb-suc-zero}
use Rattle.std.proofs.Math.Nat.{eq-or-lt_of_le}
use Rattle.sourcemap_trace.specs.Positions.{is_colon, is_newline, lines_of, number_of, position_of, without_empty_last}

-- one more digit: the new number is ten times the old one, plus the digit
module _ (text : List ℕ) (i value digit : ℕ) (within : i < length text) (so_far : value ≡ digits_value 10 (take i text))
    (is : IsInRange 48 57 (get_or text i 0)) (of : digit ≡ get_or text i 0 - 48) where
  pub next_value : value * 10 + digit ≡ digits_value 10 (take (i + 1) text)
  next_value =
      let more = digits_value_more 10 text i within in
      let last = digit_value_digit (get_or text i 0) is in
      let made : digit ≡ digit_value (get_or text i 0) = omega arith in
      cc

  -- if the new number exceeds `first + 4294967295`, the text gives no number
  pub past_limit : (first : ℕ) → first + 4294967295 < value * 10 + digit → None ≡ number_of first text
  past_limit first past =
      let bound = digits_value-take-le 10 text (i + 1) (lit≤ tt) in
      let above : first + 4294967295 < digits_value 10 text = let made = next_value in omega arith in
      let wide : nat_le (digits_value 10 text) (first + 4294967295) ≡ false =
      lt-leb (digits_value 10 text) (first + 4294967295) above in
      rw (wide, and-false, and-false, and-false) refl

-- a text of one or more ASCII digits, whose value is at least `first` and at most `first + 4294967295`, gives the value
-- less `first`
number_made : (first : ℕ) (text : List ℕ) (value : ℕ) → 0 < length text → list_all is_ascii_digit text ≡ true
    → value ≡ digits_value 10 text → first ≤ value → value ≤ first + 4294967295
    → Some (value - first) ≡ number_of first text
number_made first text value some digits is least limit =
    let longer : nat_lt 0 (length text) ≡ true = lt-ltb 0 (length text) some in
    let large : nat_le first (digits_value 10 text) ≡ true = le-leb first (digits_value 10 text) (omega arith) in
    let small : nat_le (digits_value 10 text) (first + 4294967295) ≡ true =
    le-leb (digits_value 10 text) (first + 4294967295) (omega arith) in
    rw (longer, digits, large, small) (ap (λ n. Some (n - first)) is)

module _ (mark : ℕ) (bytes : List ℕ) (i : ℕ) (others : (k : ℕ) → k < i → (get_or bytes k 0 == mark) ≡ false) where
  -- if no byte up to and including index `i` is the mark, the first mark is after index `i`, or there is no mark
  not_yet : i < length bytes → (get_or bytes i 0 == mark) ≡ false → i < position_or_len (λ b. b == mark) bytes
  not_yet within other = by (nat_le (position_or_len (λ b. b == mark) bytes) i) refl
    where
      early : position_or_len (λ b. b == mark) bytes ≤ i → i < position_or_len (λ b. b == mark) bytes
      early low =
          let there : (get_or bytes (position_or_len (λ b. b == mark) bytes) 0 == mark) ≡ true =
          passes_at_first (λ b. b == mark) bytes 0 (omega arith) in
          elim (eq-or-lt_of_le low) [
            | inl same ↦ absurd (let no : false ≡ true = sym other ∙ ap (λ k. get_or bytes k 0 == mark) (sym same) ∙ there in cc)
            | inr before ↦ absurd (let no : false ≡ true = sym (others _ before) ∙ there in cc)
          ]

      by : (b : Bool) → nat_le (position_or_len (λ b. b == mark) bytes) i ≡ b
          → i < position_or_len (λ b. b == mark) bytes
      by true e = early (leb-true _ _ e)
      by false e = leb-false _ _ e

  -- no byte before `i` is the mark. If a mark or the end of `bytes` is at index `i`, then `position_or_len` gives `i`
  ends_at : i ≤ length bytes → (i < length bytes → (get_or bytes i 0 == mark) ≡ true)
      → position_or_len (λ b. b == mark) bytes ≡ i
  ends_at within stops = position_or_len_is (λ b. b == mark) bytes i 0 within others stops

  pub after_end : i ≤ length bytes → (i < length bytes → (get_or bytes i 0 == mark) ≡ true)
      → drop (i + 1) bytes ≡ after_first (λ b. b == mark) bytes
  after_end within stops = sym (ap (λ n. drop (n + 1) bytes) (ends_at within stops))

  -- if the first mark is at index `i`, `after_first` gives the bytes from index `i + 1` on
  pub cut_there : i < length bytes → get_or bytes i 0 ≡ mark
      → take (length bytes - (i + 1)) (drop (i + 1) bytes) ≡ after_first (λ b. b == mark) bytes
  cut_there within is = take_rest bytes (i + 1) ∙ after_end (omega arith) (λ _. eq-eqb _ _ is)

  -- without a mark, `after_first` is empty
  pub not_cut : i ≡ length bytes → [] ≡ after_first (λ b. b == mark) bytes
  not_cut all = sym (drop_of_length-le bytes (omega arith)) ∙ after_end (omega arith) (λ more. absurd (omega arith))

  pub number_at_end : (first value : ℕ) → i ≤ length bytes → (i < length bytes → (get_or bytes i 0 == mark) ≡ true)
      → 0 < i
      → list_all is_ascii_digit (take i bytes) ≡ true → value ≡ digits_value 10 (take i bytes)
      → first ≤ value → value ≤ first + 4294967295
      → Some (value - first) ≡ number_of first (before_first (λ b. b == mark) bytes)
  number_at_end first value within stops some digits is least limit =
      number_made first (take i bytes) value (omega (arith, length-take-le i bytes within)) digits is least limit
      ∙ sym (ap (λ n. number_of first (take n bytes)) (ends_at within stops))

  -- a value below `first` is no number
  pub too_small : (first value : ℕ) → i ≤ length bytes → (i < length bytes → (get_or bytes i 0 == mark) ≡ true)
      → value ≡ digits_value 10 (take i bytes) → value < first
      → None ≡ number_of first (before_first (λ b. b == mark) bytes)
  too_small first value within stops is below =
      let small : nat_le first (digits_value 10 (take i bytes)) ≡ false =
      lt-leb first (digits_value 10 (take i bytes)) (omega arith) in
      let none : None ≡ number_of first (take i bytes) = rw (small, and-false, and-false) refl in
      none ∙ sym (ap (λ n. number_of first (take n bytes)) (ends_at within stops))

  module _ (within : i < length bytes) (other : (get_or bytes i 0 == mark) ≡ false) where
    abbrev pub text : List ℕ
    text = before_first (λ b. b == mark) bytes

    long : length text ≡ position_or_len (λ b. b == mark) bytes
    long =
        length-take-le (position_or_len (λ b. b == mark) bytes) bytes
        (prefix_len-le-length (λ b. not (b == mark)) bytes)

    at : get_or text i 0 ≡ get_or bytes i 0
    at = get_or-take (position_or_len (λ b. b == mark) bytes) bytes i 0 (not_yet within other)

    pub no_digit : (first : ℕ) → false ≡ is_ascii_digit (get_or bytes i 0) → None ≡ number_of first text
    no_digit first fails =
        let all : list_all is_ascii_digit text ≡ false =
        list_all_at is_ascii_digit text i 0 (omega (arith, long, not_yet within other))
        (ap is_ascii_digit at ∙ sym fails) in
        rw (all, and-false) refl

    pub too_large : (first value digit : ℕ) → value ≡ digits_value 10 (take i bytes)
        → IsInRange 48 57 (get_or bytes i 0)
        → digit ≡ get_or bytes i 0 - 48 → first + 4294967295 < value * 10 + digit → None ≡ number_of first text
    too_large first value digit so_far is of past =
        past_limit text i value digit (omega (arith, long, not_yet within other))
        (so_far ∙ ap (digits_value 10)
        (sym (take-take i (position_or_len (λ b. b == mark) bytes) bytes (omega (arith, not_yet within other)))))
        (subst (IsInRange 48 57) (sym at) is) (of ∙ ap (λ b. b - 48) (sym at)) first past

pub drop_least : (n : ℕ) (bytes : List ℕ) (least : ℕ) → least ≡ min n (length bytes) → drop least bytes ≡ drop n bytes
drop_least n bytes least is = by (nat_le n (length bytes)) refl
  where
    by : (b : Bool) → nat_le n (length bytes) ≡ b → drop least bytes ≡ drop n bytes
    by true e = ap (λ k. drop k bytes) (let same : least ≡ n = omega (arith, is, leb-true _ _ e) in same)
    by false e =
        let past = leb-false _ _ e in
        drop_of_length-le bytes (omega (arith, is, past)) ∙ sym (drop_of_length-le bytes (omega (arith, past)))

pub other_byte : (byte mark : ℕ) → (byte ≡ mark → ⊥) → (byte == mark) ≡ false
other_byte byte mark apart = ne_eqb byte mark apart

pub others_more : (mark : ℕ) (bytes : List ℕ) (i : ℕ) → ((k : ℕ) → k < i → (get_or bytes k 0 == mark) ≡ false)
    → (get_or bytes i 0 == mark) ≡ false → (k : ℕ) → k < i + 1 → (get_or bytes k 0 == mark) ≡ false
others_more mark bytes i others other k within = elim (eq-or-lt_of_le (let low : k ≤ i = omega arith in low)) [
  | inl same ↦ ap (λ j. get_or bytes j 0 == mark) same ∙ other
  | inr before ↦ others k before
]

-- The first line of a text that is not empty ends at the first newline, or else at the end of the text. The other lines
-- are the lines of the bytes after the first newline.

split_on : (text part : List ℕ) (parts : List (List ℕ)) → slice_split is_newline text ≡ parts → 0 < length parts
    → without_empty_last (part ∷ slice_split is_newline text) ≡ part ∷ lines_of text
split_on text part [] same some = absurd (omega arith)
split_on text part (next ∷ parts) same some = rw same refl

split_none : (text : List ℕ) → 0 < length text → slice_split is_newline text ≡ text ∷ [] → lines_of text ≡ text ∷ []
split_none [] some whole = absurd (omega arith)
split_none (b ∷ bs) some whole = rw (whole, eqb-suc-zero (length bs)) refl

pub next_line : (text : List ℕ) → 0 < length text
    → lines_of text ≡ before_first is_newline text ∷ lines_of (after_first is_newline text)
next_line text some =
    elim (eq-or-lt_of_le (prefix_len-le-length (λ b. not (is_newline b)) text)) [
      | inl none ↦
          let at : position_or_len is_newline text ≡ length text = none in
          let first : before_first is_newline text ≡ text =
          take_all (position_or_len is_newline text) text (omega arith) in
          let rest : after_first is_newline text ≡ [] = drop_of_length-le text (omega arith) in
          let others : All (λ b. is_newline b ≡ false) text =
          All-from_get_or (λ b. is_newline b ≡ false) text 0
          (λ i within. fails_before_first is_newline text i 0 (omega arith)) in
          let whole : lines_of text ≡ text ∷ [] = split_none text some (slice_split_none is_newline text others) in
          rw (first, rest, whole) refl
      | inr there ↦
          let cut = slice_split_first is_newline text 0 there in
          let after : List ℕ = after_first is_newline text in
          rw cut (split_on after (before_first is_newline text) (slice_split is_newline after) refl
          (omega (arith, length-slice_split is_newline after)))
    ]

-- The position in the first line of `lines`: the number before the first colon of `lines`, and the number after this
-- colon, up to the next newline.

not_all_digits : (first : ℕ) (text : List ℕ) → list_all is_ascii_digit text ≡ false → number_of first text ≡ None
not_all_digits first text all = rw (all, and-false) refl

then_none : (x : Option ℕ) → option_and_then {T = ℕ} {U = ℕ × ℕ} (λ row. None) x ≡ None
then_none None = refl
then_none (Some row) = refl

module _ (first : ℕ) (lines : List ℕ) where
  abbrev colon : ℕ
  colon = position_or_len is_colon lines

  abbrev newline : ℕ
  newline = position_or_len is_newline lines

  abbrev line : List ℕ
  line = before_first is_newline lines

  line_long : length line ≡ newline
  line_long = length-take-le newline lines (prefix_len-le-length (λ b. not (is_newline b)) lines)

  -- the first colon is on the first line
  module _ (order : colon < newline) where
    there : colon < length lines
    there = omega (arith, order, prefix_len-le-length (λ b. not (is_newline b)) lines)

    colon_in_line : position_or_len is_colon line ≡ colon
    colon_in_line =
        position_or_len_is is_colon line colon 0 (omega (arith, line_long, order))
        (λ k less. ap is_colon (get_or-take newline lines k 0 (omega (arith, order, less)))
        ∙ fails_before_first is_colon lines k 0 less)
        (λ _. ap is_colon (get_or-take newline lines colon 0 order) ∙ passes_at_first is_colon lines 0 there)

    row_text : before_first is_colon line ≡ before_first is_colon lines
    row_text = ap (λ n. take n line) colon_in_line ∙ take-take colon newline lines (omega (arith, order))

    split : newline ≡ colon + 1 + (newline - (colon + 1))
    split = omega (arith, order)

    col_text : after_first is_colon line ≡ take (newline - (colon + 1)) (drop (colon + 1) lines)
    col_text =
        ap (λ n. drop (n + 1) line) colon_in_line ∙ ap (λ n. drop (colon + 1) (take n lines)) split
        ∙ drop-take (colon + 1) (newline - (colon + 1)) lines

    newline_later : position_or_len is_newline (drop (colon + 1) lines) ≡ newline - (colon + 1)
    newline_later =
        let bound = prefix_len-le-length (λ b. not (is_newline b)) lines in
        let size = length-drop (colon + 1) lines in
        position_or_len_is is_newline (drop (colon + 1) lines) (newline - (colon + 1)) 0
        (omega (arith, order, bound, size))
        (λ k less. ap is_newline (get_or-drop (colon + 1) lines k 0)
        ∙ fails_before_first is_newline lines (colon + 1 + k) 0 (omega (arith, order, less)))
        (λ less. ap is_newline
        (get_or-drop (colon + 1) lines (newline - (colon + 1)) 0 ∙ ap (λ n. get_or lines n 0) (sym split))
        ∙ passes_at_first is_newline lines 0 (omega (arith, order, less, size)))

    col_is : after_first is_colon line ≡ before_first is_newline (after_first is_colon lines)
    col_is = col_text ∙ ap (λ n. take n (drop (colon + 1) lines)) (sym newline_later)

    later_is : after_first is_newline (after_first is_colon lines) ≡ after_first is_newline lines
    later_is =
        let whole : colon + 1 + (newline - (colon + 1) + 1) ≡ newline + 1 = omega (arith, order) in
        ap (λ n. drop (n + 1) (drop (colon + 1) lines)) newline_later
        ∙ drop-drop (newline - (colon + 1) + 1) (colon + 1) lines
        ∙ ap (λ n. drop n lines) whole

  -- the first colon is not on the first line
  none_in_line : newline ≤ colon → position_of first line ≡ None
  none_in_line late =
      let at : position_or_len is_colon line ≡ newline =
      position_or_len_is is_colon line newline 0 (omega (arith, line_long))
      (λ k less. ap is_colon (get_or-take newline lines k 0 less)
      ∙ fails_before_first is_colon lines k 0 (omega (arith, late, less)))
      (λ more. absurd (omega (arith, line_long, more))) in
      let empty : after_first is_colon line ≡ [] =
      ap (λ n. drop (n + 1) line) at ∙ drop_of_length-le line (omega (arith, line_long)) in
      rw empty (then_none (number_of first (before_first is_colon line)))

  by_order : {P : Type 0} → (colon < newline → P) → (newline ≤ colon → P) → P
  by_order {P} early late = by (nat_lt colon newline) refl
    where
      by : (b : Bool) → nat_lt colon newline ≡ b → P
      by true e = early (ltb-true _ _ e)
      by false e = late (ltb-false _ _ e)

  pub no_row : None ≡ number_of first (before_first is_colon lines)
      → None ≡ position_of first (before_first is_newline lines)
  no_row none =
      by_order
      (λ order. sym (ap (option_and_then (λ row. option_map (λ col. (row, col)) (number_of first (after_first is_colon line))))
      (ap (number_of first) (row_text order) ∙ sym none)))
      (λ late. sym (none_in_line late))

  pub no_col : None ≡ number_of first (before_first is_newline (after_first is_colon lines))
      → None ≡ position_of first (before_first is_newline lines)
  no_col none =
      by_order
      (λ order. let without : number_of first (after_first is_colon line) ≡ None = ap (number_of first) (col_is order)
      ∙ sym none in
      sym (rw without (then_none (number_of first (before_first is_colon line)))))
      (λ late. sym (none_in_line late))

  module _ (row col : ℕ) (row_is : Some row ≡ number_of first (before_first is_colon lines))
      (col_is_some : Some col ≡ number_of first (before_first is_newline (after_first is_colon lines))) where
    -- `row` and `col` are the numbers before and after the first colon, so this colon is before the first newline
    in_order : colon < newline
    in_order = by_order (λ order. order) (λ late. absurd (out late))
      where
        inside : newline ≤ colon → colon < length lines → ⊥
        inside late within =
            let break : get_or lines newline 0 ≡ 10 =
            eqb-true _ _ (passes_at_first is_newline lines 0 (omega (arith, late, within))) in
            elim (eq-or-lt_of_le late) [
              | inl same ↦
                  let mark : get_or lines colon 0 ≡ 58 = eqb-true _ _ (passes_at_first is_colon lines 0 within) in
                  let both : 58 ≡ 10 = sym mark ∙ ap (λ n. get_or lines n 0) (sym same) ∙ break in
                  omega (arith, both)
              | inr before ↦
                  let all : list_all is_ascii_digit (take colon lines) ≡ false =
                  list_all_at is_ascii_digit (take colon lines) newline 0
                  (omega (arith, length-take-le colon lines (omega (arith, within)), before))
                  (ap is_ascii_digit (get_or-take colon lines newline 0 before ∙ break)) in
                  let no : true ≡ false = ap is_some (row_is ∙ not_all_digits first (take colon lines) all) in cc
            ]

        outside : length lines ≤ colon → ⊥
        outside past =
            let empty : after_first is_colon lines ≡ [] = drop_of_length-le lines (omega (arith, past)) in
            let no : true ≡ false =
            ap is_some (col_is_some ∙ ap (λ bs. number_of first (before_first is_newline bs)) empty) in cc

        out : newline ≤ colon → ⊥
        out late = by (nat_lt colon (length lines)) refl
          where
            by : (b : Bool) → nat_lt colon (length lines) ≡ b → ⊥
            by true e = inside late (ltb-true _ _ e)
            by false e = outside (ltb-false _ _ e)

    pub both_named : Some (row, col) ≡ position_of first (before_first is_newline lines)
    both_named =
        let row_here : number_of first (before_first is_colon line) ≡ Some row =
        ap (number_of first) (row_text in_order) ∙ sym row_is in
        let col_here : number_of first (after_first is_colon line) ≡ Some col =
        ap (number_of first) (col_is in_order) ∙ sym col_is_some in
        sym (rw (row_here, col_here) refl)

    pub later_lines : after_first is_newline (after_first is_colon lines) ≡ after_first is_newline lines
    later_lines = later_is in_order

    pub fewer : length (after_first is_newline lines) < length lines
    fewer = omega (arith, length-drop (newline + 1) lines, there in_order)
