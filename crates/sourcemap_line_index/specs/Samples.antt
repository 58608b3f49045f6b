-- The columns of every eighth token.
use Rattle.std.specs.Prelude.{◌≡◌, ℕ, ◌<◌, ◌≤◌, ◌-◌, ◌*◌, List, length, slice_index}
use Rattle.sourcemap_tokens.specs.declared.tokens.RawToken.{RawToken}
use Rattle.sourcemap_line_index.specs.LineIndex.{Rises, col_at}

-- the columns of the tokens at indices 0, 8, 16 and so on to the end of the list
pub record AreColumns (tokens : List RawToken) (columns : List ℕ) : Type 0 where
  pub inside : (k : ℕ) → k < length columns → 8 * k < length tokens
  pub own : (k : ℕ) (d : RawToken) → k < length columns → slice_index columns k ≡ col_at tokens d (8 * k)
  pub all : length tokens ≤ 8 * length columns

-- `lines` is the number of lines with tokens. If there are samples, they are the columns of every eighth token, and
-- these lines hold at least 32 tokens on average. With shorter lines, a search by samples could make more than
-- 2 (d + 1) comparisons, the bound for a list whose token count has d binary digits
abbrev pub AreSamples : (tokens : List RawToken) (lines : ℕ) (columns : List ℕ) → Type 0
AreSamples tokens lines columns = 0 < length columns → AreColumns tokens columns × (32 * lines ≤ length tokens)

-- the columns of the tokens from index `first` up to, not including, `end` do not fall
pub record HasRisingColumns (tokens : List RawToken) (first end : ℕ) : Type 0 where
  pub ordered : first ≤ end
  pub within : end ≤ length tokens
  pub rises : (d : RawToken) → Rises (col_at tokens d) first end

-- Let the columns of the tokens from index `first` up to, not including, `end` not fall. Then `index` is the index of
-- the first of these tokens with a column of at least `col`, or `end` if there is no such token.
pub record IsFirstAtColumn (tokens : List RawToken) (first end col index : ℕ) : Type 0 where
  pub at_least : first ≤ index
  pub at_most : index ≤ end
  pub before : (d : RawToken) → first < index → col_at tokens d (index - 1) < col
  pub from : (d : RawToken) → index < end → col ≤ col_at tokens d index
