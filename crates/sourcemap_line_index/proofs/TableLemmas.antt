-- How a table of lines grows with its tokens, and which tokens its rows refer to.
use Rattle.std.proofs.Common.{◌≡◌, refl, sym, ap, subst, ◌∙◌, ℕ, zero, suc, ◌<◌, ◌≤◌, ◌+◌, ◌-◌, arith, inl, inr, List}
use Rattle.std.proofs.Common.{[], ◌∷◌, ◌++◌, length, get_or, slice_get, slice_index, Some, None, option_map}
use Rattle.std.specs.List.{AllByRecursion}
use Rattle.std.specs.Ordering.{ordering_index}
use Rattle.std.proofs.lemmas.Bool.{cases_eq, cases_lt}
use Rattle.std.proofs.lemmas.Bool.Decides.{nat_tests}
use Rattle.std.proofs.lemmas.List.{get_or_append_left, get_or_push, length-append}
use Rattle.std.proofs.lemmas.List.Sorted.{searchable_from_sorted}
use Rattle.std.proofs.lemmas.Option.{slice_get-get_or, slice_get_cases, slice_get_past}
use Rattle.sourcemap_tokens.specs.Tokens.{AreInOrder, destination, position_cmp}
use Rattle.sourcemap_tokens.specs.declared.tokens.RawToken.{RawToken}
use Rattle.sourcemap_tokens.proofs.AllLemmas.{All-at}
use Rattle.sourcemap_tokens.proofs.TokensLemmas.{position_cmp_total}
use Rattle.sourcemap_line_index.specs.LineIndex.{BeginsLine, ContinuesLine, IsLineTable, IsTableOf, IsSpan, LineTable}
use Rattle.sourcemap_line_index.specs.LineIndex.{line_at, with_row}

-- if `line_at` returns a line for the index `k`, then `k` is less than the length of the list (`inside_list`), and the
-- token at `k` is on this line (`token_line`)
pub inside_list : (tokens : List RawToken) (k line : ℕ) → line_at tokens k ≡ Some line → k < length tokens
inside_list tokens k line at =
    elim (cases_lt k (length tokens)) [
      | inl l ↦ l
      | inr past ↦ let none = slice_get_past tokens k past in let never : option_map (λ (t : RawToken). t.dst_line) None
          ≡ Some line = subst (λ o. option_map (λ t. t.dst_line) o ≡ Some line) none at in cc
    ]

pub token_line : (tokens : List RawToken) (k line : ℕ) (d : RawToken) → line_at tokens k ≡ Some line
    → (get_or tokens k d).dst_line ≡ line
token_line tokens k line d at =
    let found = slice_get-get_or tokens k d (inside_list tokens k line at) in
    let same : Some (get_or tokens k d).dst_line ≡ Some line =
    subst (λ o. option_map (λ t. t.dst_line) o ≡ Some line) found at in
    cc

-- if `line_at` returns a line for the index `k`, there is a token at `k`
token_of : (tokens : List RawToken) (k line : ℕ) → line_at tokens k ≡ Some line
    → (t : RawToken) × (slice_get tokens k ≡ Some t)
token_of tokens k line at =
    let found = slice_get_cases tokens k in
    elim found.1 [
      | inl here ↦ (here.0, here.2)
      | inr outside ↦ let inside = inside_list tokens k line at in let past = outside.0 in absurd (omega arith)
    ]

pub line_at_token : (tokens : List RawToken) (k : ℕ) (d : RawToken) → k < length tokens
    → line_at tokens k ≡ Some (get_or tokens k d).dst_line
line_at_token tokens k d l = ap (option_map (λ t. t.dst_line)) (slice_get-get_or tokens k d l)

first_at_most : (a b c d : ℕ)
    → ordering_index (position_cmp (a, b) (c, d)) ≤ ordering_index (position_cmp (c, d) (c, d)) → a ≤ c
first_at_most a b c d l = grind (arith, nat_tests)

-- lines do not fall in an ordered list
pub lines_rise : (tokens : List RawToken) → AreInOrder tokens → (i j : ℕ) (d : RawToken) → i ≤ j → j < length tokens
    → (get_or tokens i d).dst_line ≤ (get_or tokens j d).dst_line
lines_rise tokens up i j d l within =
    first_at_most (get_or tokens i d).dst_line (get_or tokens i d).dst_col (get_or tokens j d).dst_line
    (get_or tokens j d).dst_col
    (searchable_from_sorted position_cmp_total destination tokens (destination (get_or tokens j d)) up i j d l within)

-- the table of no tokens
pub table_of_none : (tokens : List RawToken) → IsLineTable tokens 0 (record { lines = []; firsts = [] })
table_of_none tokens = record {
  same_length = refl;
  few = omega arith;
  filled = λ none. refl;
  front = refl;
  within = λ row l. absurd (omega arith);
  on_line = λ row l. absurd (omega arith);
  rising = λ row l. absurd (omega arith);
  apart = λ row l. absurd (omega arith);
  abutting = λ row l. absurd (omega arith);
  ends = λ l. absurd (omega arith);
}

-- the table stays unchanged if the tokens at `n - 1` and `n` are on one line
pub table_unchanged : (tokens : List RawToken) (n : ℕ) (table : LineTable) → ContinuesLine tokens n
    → IsLineTable tokens n table → IsLineTable tokens (n + 1) table
table_unchanged tokens n table continues t = record {
  same_length = t.same_length;
  few = let few = t.few in omega arith;
  filled = λ none. let start = t.filled none in let some = continues.0 in absurd (omega arith);
  front = t.front;
  within = λ row l. let within = t.within row l in omega arith;
  on_line = t.on_line;
  rising = t.rising;
  apart = t.apart;
  abutting = t.abutting;
  ends = λ some. let back : n + 1 - 1 ≡ n = omega arith in rw back (continues.1 ∙ t.ends some);
}

-- the last token before index n is on the line of the last row
last_at : (tokens : List RawToken) (n : ℕ) (lines firsts : List ℕ)
    → IsLineTable tokens n (record { lines = lines; firsts = firsts })
    → (row : ℕ) → row + 1 ≡ length lines → line_at tokens (n - 1) ≡ Some (slice_index lines row)
last_at tokens n lines firsts t row e = let back : length lines - 1 ≡ row = omega arith in
    subst (λ k. line_at tokens (n - 1) ≡ Some (slice_index lines k)) back (t.ends (omega arith))

-- a token on a later line than the last row adds a row
module _ (tokens : List RawToken) (n line : ℕ) (lines firsts : List ℕ)
    (at : line_at tokens n ≡ Some line) (after : (row : ℕ) → row + 1 ≡ length lines → slice_index lines row < line)
    (t : IsLineTable tokens n (record { lines = lines; firsts = firsts })) where
  old_line : (row : ℕ) → row < length lines → slice_index (lines ++ line ∷ []) row ≡ slice_index lines row
  old_line row l = get_or_append_left lines (line ∷ []) 0 row l

  old_first : (row : ℕ) → row < length lines → slice_index (firsts ++ n ∷ []) row ≡ slice_index firsts row
  old_first row l = let same_length = t.same_length in get_or_append_left firsts (n ∷ []) 0 row (omega arith)

  new_line : (row : ℕ) → length lines ≡ row → slice_index (lines ++ line ∷ []) row ≡ line
  new_line row e = get_or_push lines line 0 row e

  new_first : (row : ℕ) → length lines ≡ row → slice_index (firsts ++ n ∷ []) row ≡ n
  new_first row e = get_or_push firsts n 0 row (t.same_length ∙ e)

  table_grown : IsLineTable tokens (n + 1) (record { lines = lines ++ line ∷ []; firsts = firsts ++ n ∷ [] })
  table_grown =
      let many : length (lines ++ line ∷ []) ≡ length lines + 1 = length-append lines (line ∷ []) in
      let many_firsts : length (firsts ++ n ∷ []) ≡ length firsts + 1 = length-append firsts (n ∷ []) in
      let same_length = t.same_length in
      let few = t.few in
      record {
        same_length = omega arith;
        few = omega arith;
        filled = λ none. absurd (omega arith);
        front = elim (cases_eq (length lines) 0) [
          | inl none ↦ new_first 0 none ∙ t.filled none
          | inr some ↦ old_first 0 (omega arith) ∙ t.front
        ];
        within = λ row l. elim (cases_eq (length lines) row) [
          | inl here ↦ let is = new_first row here in omega arith
          | inr other ↦ let is = old_first row (omega arith) in let within = t.within row (omega arith) in omega arith
        ];
        on_line = λ row l. elim (cases_eq (length lines) row) [
          | inl here ↦ rw (new_first row here, new_line row here) at
          | inr other ↦ rw (old_first row (omega arith), old_line row (omega arith)) (t.on_line row (omega arith))
        ];
        rising = λ row l. elim (cases_eq (length lines) (row + 1)) [
          | inl here ↦ rw (old_line row (omega arith), new_line (row + 1) here) (after row (sym here))
          | inr other ↦ rw (old_line row (omega arith), old_line (row + 1) (omega arith)) (t.rising row (omega arith))
        ];
        apart = λ row l. elim (cases_eq (length lines) (row + 1)) [
          | inl here ↦ rw (old_first row (omega arith), new_first (row + 1) here) (t.within row (omega arith))
          | inr other ↦ rw (old_first row (omega arith), old_first (row + 1) (omega arith)) (t.apart row (omega arith))
        ];
        abutting = λ row l. elim (cases_eq (length lines) (row + 1)) [
          | inl here ↦
              rw (old_line row (omega arith), new_first (row + 1) here) (last_at tokens n lines firsts t row (sym here))
          | inr other ↦
              rw (old_line row (omega arith), old_first (row + 1) (omega arith)) (t.abutting row (omega arith))
        ];
        ends = λ some.
            let back : n + 1 - 1 ≡ n = omega arith in
            let last : length lines ≡ length (lines ++ line ∷ []) - 1 = omega arith in
            rw (back, new_line (length (lines ++ line ∷ []) - 1) last) at;
      }

-- a token that begins a line adds a row
module _ (tokens : List RawToken) (n line : ℕ)
    (lines firsts : List ℕ) (up : AreInOrder tokens) (at : line_at tokens n ≡ Some line) (begins : BeginsLine tokens n)
    (t : IsLineTable tokens n (record { lines = lines; firsts = firsts })) where
  last_before : (row : ℕ) → row + 1 ≡ length lines → slice_index lines row < line
  last_before row e =
      let few = t.few in
      let last = last_at tokens n lines firsts t row e in
      let within = inside_list tokens n line at in
      let one = token_of tokens n line at in
      let here : (get_or tokens n one.0).dst_line ≡ line = token_line tokens n line one.0 at in
      let there : (get_or tokens (n - 1) one.0).dst_line ≡ slice_index lines row =
      token_line tokens (n - 1) (slice_index lines row) one.0 last in
      let rises = lines_rise tokens up (n - 1) n one.0 (omega arith) within in
      elim (cases_eq (slice_index lines row) line) [
        | inl same ↦ absurd (begins (omega arith) (at ∙ sym (last ∙ ap Some same)))
        | inr other ↦ omega arith
      ]

  pub table_pushed : IsLineTable tokens (n + 1) (record { lines = lines ++ line ∷ []; firsts = firsts ++ n ∷ [] })
  table_pushed = table_grown tokens n line lines firsts at last_before t

same_some : {X : Type 0} {a b : X} → Some a ≡ Some b → a ≡ b
same_some e = cc e

slice_get_left : {X : Type 0} (xs ys : List X) (k : ℕ) → k < length xs → slice_get (xs ++ ys) k ≡ slice_get xs k
slice_get_left [] ys k l = absurd (omega arith)
slice_get_left (x ∷ xs) ys zero l = refl
slice_get_left (x ∷ xs) ys (suc k) l = slice_get_left xs ys k (omega arith)

line_at_all : (line : ℕ) (more : List RawToken) (k : ℕ) → AllByRecursion (λ t. t.dst_line ≡ line) more → k < length more
    → line_at more k ≡ Some line
line_at_all line [] k all l = absurd (omega arith)
line_at_all line (t ∷ ts) zero all l = ap Some all.0
line_at_all line (t ∷ ts) (suc k) all l = line_at_all line ts k all.1 (omega arith)

line_at_right : (old more : List RawToken) (k : ℕ) → line_at (old ++ more) (length old + k) ≡ line_at more k
line_at_right [] more k = let none : 0 + k ≡ k = omega arith in ap (line_at more) none
line_at_right (t ∷ ts) more k = let next : suc (length ts) + k ≡ suc (length ts + k) = omega arith in
    rw next (line_at_right ts more k)

-- tokens of one line, appended to tokens of earlier lines
module _ (old more : List RawToken) (line : ℕ) where
  line_at_left : (k at : ℕ) → line_at old k ≡ Some at → line_at (old ++ more) k ≡ Some at
  line_at_left k at e = ap (option_map (λ t. t.dst_line)) (slice_get_left old more k (inside_list old k at e)) ∙ e

  -- appending the tokens `more` does not change the table of the tokens `old`
  table_of_front : (table : LineTable) → IsLineTable old (length old) table
      → IsLineTable (old ++ more) (length old) table
  table_of_front table t = record {
    same_length = t.same_length;
    few = t.few;
    filled = t.filled;
    front = t.front;
    within = t.within;
    on_line = λ row l. line_at_left _ _ (t.on_line row l);
    rising = t.rising;
    apart = t.apart;
    abutting = λ row l. line_at_left _ _ (t.abutting row l);
    ends = λ some. line_at_left _ _ (t.ends some);
  }

  module _ (all : AllByRecursion (λ t. t.dst_line ≡ line) more) where
    pub line_at_more : (k : ℕ) → k < length more → line_at (old ++ more) (length old + k) ≡ Some line
    line_at_more k l = line_at_right old more k ∙ line_at_all line more k all l

    table_of_more : (table : LineTable) (k : ℕ) → k < length more → IsLineTable (old ++ more) (length old + 1) table
        → IsLineTable (old ++ more) (length old + k + 1) table
    table_of_more table zero l t = let none : length old + 0 ≡ length old = omega arith in rw none t
    table_of_more table (suc k) l t =
        let next : length old + suc k ≡ length old + k + 1 = omega arith in
        let back : length old + k + 1 - 1 ≡ length old + k = omega arith in
        let here : line_at (old ++ more) (length old + k + 1) ≡ Some line =
        subst (λ n. line_at (old ++ more) n ≡ Some line) next (line_at_more (suc k) l) in
        let before : line_at (old ++ more) (length old + k + 1 - 1) ≡ Some line =
        rw back (line_at_more k (omega arith)) in
        rw next (table_unchanged (old ++ more) (length old + k + 1) table (
          omega arith,
          here ∙ sym before,
        ) (table_of_more table k (omega arith) t))

    after_rows : (table : LineTable) → AllByRecursion (λ t. t.dst_line < line) old → IsLineTable old (length old) table
        → (row : ℕ) → row + 1 ≡ length table.lines → slice_index table.lines row < line
    after_rows table below t row e =
        let last = last_at old (length old) table.lines table.firsts t row e in
        let one = token_of old (length old - 1) (slice_index table.lines row) last in
        let less : one.0.dst_line < line = All-at (λ t. t.dst_line < line) old (length old - 1) one.0 one.1 below in
        let own : one.0.dst_line ≡ slice_index table.lines row =
        same_some (sym (ap (option_map (λ t. t.dst_line)) one.1) ∙ last) in
        omega (arith, less, own)

    -- one or more tokens of `line`, appended to tokens of earlier lines, add one row to the table
    pub table_of_line : (table : LineTable) → AllByRecursion (λ t. t.dst_line < line) old → 0 < length more
        → IsLineTable old (length old) table
        → IsLineTable (old ++ more) (length (old ++ more)) (with_row table line (length old))
    table_of_line table below some t =
        let first : line_at (old ++ more) (length old) ≡ Some line = let none : length old + 0 ≡ length old =
        omega arith in subst (λ n. line_at (old ++ more) n ≡ Some line) none (line_at_more 0 some) in
        let begun = table_grown (old
        ++ more) (length old) line table.lines table.firsts first (after_rows table below t) (table_of_front table t) in
        let whole : length old + (length more - 1) + 1 ≡ length (old ++ more) = let many = length-append old more in
        omega arith in
        subst (λ n. IsLineTable (old ++ more) n (with_row table line (length old))) whole
        (table_of_more (with_row table line (length old)) (length more - 1) (omega arith) begun)

-- let `row` be the index of a row of the table, or the row count. Let `low` be the index of the first token of row
-- `row`, or the token count if `row` is the row count
module _ (tokens : List RawToken) (table : LineTable) (made : IsTableOf tokens table)
    (row low p : ℕ) (within : row < length table.firsts → low ≡ slice_index table.firsts row)
    (past : length table.firsts ≤ row → low ≡ length tokens) (in_rows : row ≤ length table.lines) where
  pub inside_row : low ≤ length tokens
  inside_row =
      let same_length = made.1.same_length in
      elim (cases_lt row (length table.lines)) [
        | inl l ↦ let is = within (omega arith) in let first = made.1.within row l in omega arith
        | inr ge ↦ let is = past (omega arith) in omega arith
      ]

  pub before_row : (0 < row → slice_index table.lines (row - 1) < p) → (d : RawToken) → 0 < low
      → (get_or tokens (low - 1) d).dst_line < p
  before_row less d some =
      let same_length = made.1.same_length in
      elim (cases_eq row 0) [
        | inl top ↦ elim (cases_lt row (length table.lines)) [
          | inl l ↦
              let is : low ≡ slice_index table.firsts 0 =
              subst (λ r. low ≡ slice_index table.firsts r) top (within (omega arith)) in
              let front = made.1.front in
              absurd (omega arith)
          | inr ge ↦
              let is = past (omega arith) in
              let none = made.1.filled (omega arith) in
              absurd (omega arith)
        ]
        | inr lower ↦
            let before : slice_index table.lines (row - 1) < p = less (omega arith) in
            let last : line_at tokens (low - 1) ≡ Some (slice_index table.lines (row - 1)) =
            elim (cases_lt row (length table.lines)) [
              | inl l ↦
                  let is = within (omega arith) in
                  let up : row - 1 + 1 ≡ row = omega arith in
                  let abutting = made.1.abutting (row - 1) (omega arith) in
                  rw is (subst (λ r. line_at tokens (slice_index table.firsts r - 1)
                  ≡ Some (slice_index table.lines (row - 1))) up abutting)
              | inr ge ↦
                  let is = past (omega arith) in
                  let end : length table.lines - 1 ≡ row - 1 = omega arith in
                  rw is (subst (λ r. line_at tokens (length tokens - 1) ≡ Some (slice_index table.lines r)) end
                  (made.1.ends (omega arith)))
            ] in
            let on = token_line tokens (low - 1) _ d last in
            omega arith
      ]

  pub after_row : (row < length table.lines → p < slice_index table.lines row) → (d : RawToken) → low < length tokens
      → p < (get_or tokens low d).dst_line
  after_row more d l =
      let same_length = made.1.same_length in
      elim (cases_lt row (length table.lines)) [
        | inl inner ↦
            let is = within (omega arith) in
            let on : (get_or tokens low d).dst_line ≡ slice_index table.lines row = rw is (token_line tokens
            (slice_index table.firsts row) (slice_index table.lines row) d (made.1.on_line row inner)) in
            let later = more inner in
            omega arith
        | inr ge ↦ let is = past (omega arith) in absurd (omega arith)
      ]

  -- let the row before `row`, if there is one, have an earlier line than `p`. Let the row at index `row`, if there is
  -- one, have a later line than `p`. Then no token is on the line `p`, and the span of this line begins and ends at
  -- `low`
  pub span_of_none : (0 < row → slice_index table.lines (row - 1) < p)
      → (row < length table.lines → p < slice_index table.lines row) → IsSpan tokens p low low
  span_of_none less more = record {
    ordered = omega arith;
    inside = inside_row;
    before = before_row less;
    after = after_row more;
    on_line = λ index d from to. absurd (omega arith);
  }

-- `row` is the row of the line `p`. The tokens of this row are at the indices from `low` up to, not including, `high`
module _ (tokens : List RawToken) (table : LineTable) (made : IsTableOf tokens table) (row low high p : ℕ)
    (within : row < length table.firsts → low ≡ slice_index table.firsts row) (within' : row + 1 < length table.firsts
    → high ≡ slice_index table.firsts (row + 1)) (past' : length table.firsts ≤ row + 1 → high ≡ length tokens)
    (l : row < length table.lines) (here : p ≡ slice_index table.lines row) where
  starts : low ≡ slice_index table.firsts row
  starts = let same_length = made.1.same_length in within (omega arith)

  never : length table.firsts ≤ row → low ≡ length tokens
  never ge = let same_length = made.1.same_length in absurd (omega arith)

  rises : row + 1 < length table.lines → p < slice_index table.lines (row + 1)
  rises m = let up = made.1.rising row m in omega arith

  ordered : low < high
  ordered =
      let is = starts in
      let same_length = made.1.same_length in
      elim (cases_lt (row + 1) (length table.lines)) [
        | inl m ↦ let end = within' (omega arith) in let apart = made.1.apart row m in omega arith
        | inr ge ↦ let end = past' (omega arith) in let inner = made.1.within row l in omega arith
      ]

  last_on : line_at tokens (high - 1) ≡ Some (slice_index table.lines row)
  last_on =
      let same_length = made.1.same_length in
      elim (cases_lt (row + 1) (length table.lines)) [
        | inl m ↦ let end = within' (omega arith) in rw end (made.1.abutting row m)
        | inr ge ↦
            let end = past' (omega arith) in
            let back : length table.lines - 1 ≡ row = omega arith in
            rw end (subst (λ r. line_at tokens (length tokens - 1) ≡ Some (slice_index table.lines r)) back
            (made.1.ends (omega arith)))
      ]

  pub span_of_row : (0 < row → slice_index table.lines (row - 1) < p) → IsSpan tokens p low high
  span_of_row less =
      let apart = ordered in
      let inner = inside_row tokens table made (row + 1) high p within' past' (omega arith) in
      record {
        ordered = omega arith;
        inside = inner;
        before = before_row tokens table made row low p within never (omega arith) less;
        after = after_row tokens table made (row + 1) high p within' past' (omega arith) rises;
        on_line = λ index d from to.
            let first : (get_or tokens low d).dst_line ≡ slice_index table.lines row = rw starts (token_line tokens
            (slice_index table.firsts row) (slice_index table.lines row) d (made.1.on_line row l)) in
            let last : (get_or tokens (high - 1) d).dst_line ≡ slice_index table.lines row =
            token_line tokens (high - 1) (slice_index table.lines row) d last_on in
            let up = lines_rise tokens made.0 low index d from (omega arith) in
            let down = lines_rise tokens made.0 index (high - 1) d (omega arith) (omega arith) in
            omega arith;
      }

-- the span of the line `p` if all tokens are on one line
module _ (tokens : List RawToken) (table : LineTable) (made : IsTableOf tokens table) (one : length table.lines ≡ 1)
    (p : ℕ) where
  same_length : length table.firsts ≡ 1
  same_length = made.1.same_length ∙ one

  some : 0 < length table.lines
  some = omega (arith, one)

  one_same : p ≡ slice_index table.lines 0 → IsSpan tokens p 0 (length tokens)
  one_same here =
      span_of_row tokens table made 0 0 (length tokens) p (λ l. sym made.1.front)
      (λ l. absurd (omega (arith, same_length))) (λ l. refl) some here (λ l. absurd (omega arith))

  one_before : p < slice_index table.lines 0 → IsSpan tokens p 0 0
  one_before l =
      span_of_none tokens table made 0 0 p (λ m. sym made.1.front) (λ m. absurd (omega (arith, same_length)))
      (omega arith) (λ m. absurd (omega arith)) (λ m. l)

  one_after : slice_index table.lines 0 < p → IsSpan tokens p (length tokens) (length tokens)
  one_after l =
      span_of_none tokens table made 1 (length tokens) p (λ m. absurd (omega (arith, same_length))) (λ m. refl)
      (omega (arith, one)) (λ m. l) (λ m. absurd (omega (arith, one)))

  pub span_in_one : (span : ℕ × ℕ) → (p ≡ slice_index table.lines 0 → span ≡ (0, length tokens))
      → (p < slice_index table.lines 0 → span ≡ (0, 0))
      → (slice_index table.lines 0 < p → span ≡ (length tokens, length tokens)) → IsSpan tokens p span.0 span.1
  span_in_one span same before after =
      elim (cases_lt p (slice_index table.lines 0)) [
        | inl less ↦ subst (λ s. IsSpan tokens p s.0 s.1) (sym (before less)) (one_before less)
        | inr least ↦ elim (cases_eq p (slice_index table.lines 0)) [
          | inl here ↦ subst (λ s. IsSpan tokens p s.0 s.1) (sym (same here)) (one_same here)
          | inr other ↦ let more : slice_index table.lines 0 < p = omega arith in
              subst (λ s. IsSpan tokens p s.0 s.1) (sym (after more)) (one_after more)
        ]
      ]
