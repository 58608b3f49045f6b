-- The table of the lines that hold tokens, and the number of binary digits of a natural number.
use Rattle.std.specs.Prelude.{◌≡◌, ℕ, zero, suc, ◌<◌, ◌≤◌, ◌+◌, ◌-◌, ◌/◌, ◌==◌, if◌then◌else◌, ◌≢◌, List, [], ◌∷◌, ◌++◌}
use Rattle.std.specs.Prelude.{Option, Some, length, option_map, slice_get, slice_index, slice_index_or}
use Rattle.sourcemap_tokens.specs.Tokens.{AreInOrder}
use Rattle.sourcemap_tokens.specs.declared.tokens.RawToken.{RawToken}

-- the lines in order, and the index of the first token of each
pub record LineTable : Type 0 where
  pub lines : List ℕ
  pub firsts : List ℕ

-- the table of an empty list
abbrev pub no_rows : LineTable
no_rows = record { lines = []; firsts = [] }

-- the table with a row appended
abbrev pub with_row : LineTable → ℕ → ℕ → LineTable
with_row table line first = record { lines = table.lines ++ line ∷ []; firsts = table.firsts ++ first ∷ [] }

-- the line of the token at this index
abbrev pub line_at : List RawToken → ℕ → Option ℕ
line_at tokens index = option_map (λ token. token.dst_line) (slice_get tokens index)

-- the token at this index is the first token, or is not on the line of the token before it
abbrev pub BeginsLine : List RawToken → ℕ → Type 0
BeginsLine tokens index = 0 < index → line_at tokens index ≢ line_at tokens (index - 1)

-- the token at this index is on the line of the token before it
abbrev pub ContinuesLine : List RawToken → ℕ → Type 0
ContinuesLine tokens index = (0 < index) × (line_at tokens index ≡ line_at tokens (index - 1))

-- If the tokens are sorted by generated position, this is the table of the first n tokens. The table has one row for
-- each line that holds at least one of these tokens, in the order of the lines. A row is the line and the index of the
-- first token on the line. For example, three tokens on the lines 0, 0 and 3 have the rows (0, 0) and (3, 2).
pub record IsLineTable (tokens : List RawToken) (n : ℕ) (table : LineTable) : Type 0 where
  pub same_length : length table.firsts ≡ length table.lines
  pub few : length table.lines ≤ n
  pub filled : length table.lines ≡ 0 → n ≡ 0
  pub front : slice_index table.firsts 0 ≡ 0
  pub within : (row : ℕ) → row < length table.lines → slice_index table.firsts row < n
  pub on_line : (row : ℕ) → row < length table.lines
      → line_at tokens (slice_index table.firsts row) ≡ Some (slice_index table.lines row)
  pub rising : (row : ℕ) → row + 1 < length table.lines
      → slice_index table.lines row < slice_index table.lines (row + 1)
  pub apart : (row : ℕ) → row + 1 < length table.lines
      → slice_index table.firsts row < slice_index table.firsts (row + 1)
  pub abutting : (row : ℕ) → row + 1 < length table.lines
      → line_at tokens (slice_index table.firsts (row + 1) - 1) ≡ Some (slice_index table.lines row)
  pub ends : 0 < length table.lines
      → line_at tokens (n - 1) ≡ Some (slice_index table.lines (length table.lines - 1))

-- the tokens are sorted by generated position, and this is the table of all of them
abbrev pub IsTableOf : List RawToken → LineTable → Type 0
IsTableOf tokens table = AreInOrder tokens × IsLineTable tokens (length tokens) table

-- if the tokens are sorted, the tokens on `line` are the tokens from index `low` up to, not including, `high`. If no
-- token is on `line`, `low` and `high` are both the index of the first token on a later line, or the token count if no
-- token is on a later line
pub record IsSpan (tokens : List RawToken) (line low high : ℕ) : Type 0 where
  pub ordered : low ≤ high
  pub inside : high ≤ length tokens
  pub before : (d : RawToken) → 0 < low → (slice_index_or tokens (low - 1) d).dst_line < line
  pub after : (d : RawToken) → high < length tokens → line < (slice_index_or tokens high d).dst_line
  pub on_line : (index : ℕ) (d : RawToken) → low ≤ index → index < high
      → (slice_index_or tokens index d).dst_line ≡ line

-- the numbers at the indices from `low` up to, not including, `high` do not fall
abbrev pub Rises : (ℕ → ℕ) → (low high : ℕ) → Type 0
Rises number low high = (index : ℕ) → low ≤ index → index + 1 < high → number index ≤ number (index + 1)

-- the column of the token at this index, or that of `d` if the index is past the end
abbrev pub col_at : List RawToken → RawToken → ℕ → ℕ
col_at tokens d index = (slice_index_or tokens index d).dst_col

-- the number of binary digits of n (0 for n = 0), or `most` if there are more
abbrev pub digits_within : (most n : ℕ) → ℕ
digits_within zero n = 0
digits_within (suc most) n = if n == 0 then 0 else suc (digits_within most (n / 2))

-- the number of binary digits of n, 0 for n = 0
abbrev pub binary_digits : ℕ → ℕ
binary_digits n = digits_within n n
