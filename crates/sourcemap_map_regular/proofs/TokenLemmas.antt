-- A line and a column, written backwards from the end of a buffer.
use Rattle.std.proofs.Common.{◌≡◌, ◌<◌, ◌≤◌, ◌+◌, ◌-◌, ◌^◌, ◌++◌, ◌∷◌, ℕ, List, [], codes, length, length-set, take}
use Rattle.std.proofs.Common.{drop, drop_of_length-le, set, sym, ap, ◌∙◌, append-nil, append_assoc, arith}
use Rattle.std.specs.Fmt.{decimal}
use Rattle.std.specs.Str.{IsUtf8}
use Rattle.std.proofs.lemmas.Fmt.{IsAscii-decimal}
use Rattle.std.proofs.lemmas.List.{drop-set, take_rest}
use Rattle.std.proofs.lemmas.Str.{IsAscii-append, IsUtf8-from_ascii}

-- setting the byte at `start - 1` puts `byte` in front of the suffix that begins at `start`
pub byte_before : (buffer ends : List ℕ) (start byte : ℕ) → 0 < start → start ≤ length buffer → drop start buffer ≡ ends
    → drop (start - 1) (set buffer (start - 1) byte) ≡ byte ∷ ends
byte_before buffer ends start byte some within is =
    let next : start - 1 + 1 ≡ start = omega arith in
    rw (drop-set buffer (start - 1) byte (omega arith), next) (ap (λ bs. byte ∷ bs) is)

colons : (xs ys : List ℕ) → 58 ∷ (xs ++ 58 ∷ ys) ≡ codes ":" ++ xs ++ codes ":" ++ ys
colons xs ys = sym (ap (λ bs. 58 ∷ bs) (append_assoc xs (58 ∷ []) ys))

-- let `0 < at_line ≤ at_column ≤ size`, and let `buffer`, `columns` and `lines` have `size` bytes each. Let the bytes
-- of `columns` from `at_column` on be the decimal digits of `column`. Let the bytes of `lines` from `at_line` on be the
-- decimal digits of `line`, a colon, and the decimal digits of `column`. If the byte of `lines` at `at_line - 1` is set
-- to a colon, the bytes from this colon on are: a colon, the line, a colon, the column
module _ (buffer columns lines : List ℕ) (size line column at_column at_line : ℕ) (some_column : 0 < at_column)
    (some_line : 0 < at_line)
    (order : at_line ≤ at_column) (within : at_column ≤ size) (empty : length buffer ≡ size)
    (long : length columns ≡ size) (same : length lines ≡ size)
    (column_is : drop at_column columns ≡ decimal column ++ drop size buffer)
    (line_is : drop at_line lines ≡ decimal line ++ drop (at_column - 1) (set columns (at_column - 1) 58)) where
  pub position_written : take (size - (at_line - 1)) (drop (at_line - 1) (set lines (at_line - 1) 58))
      ≡ codes ":" ++ decimal line ++ codes ":" ++ decimal column
  position_written =
      let alone : drop at_column columns ≡ decimal column =
      column_is ∙ ap (λ bs. decimal column ++ bs) (drop_of_length-le buffer (omega arith))
      ∙ append-nil (decimal column) in
      let second = byte_before columns (decimal column) at_column 58 some_column (omega arith) alone in
      let first = byte_before lines (decimal line ++ 58 ∷ decimal column) at_line 58 some_line (omega arith)
      (line_is ∙ ap (λ bs. decimal line ++ bs) second) in
      let same_length : length (set lines (at_line - 1) 58) ≡ size = length-set lines (at_line - 1) 58 ∙ same in
      ap (λ n. take (n - (at_line - 1)) (drop (at_line - 1) (set lines (at_line - 1) 58))) (sym same_length)
      ∙ take_rest (set lines (at_line - 1) 58) (at_line - 1) ∙ first ∙ colons (decimal line) (decimal column)

-- the text of a line and a column is UTF-8, since it is ASCII
pub position_text_utf8 : (line column : ℕ) → line < 2 ^ 64 → column < 2 ^ 64
    → IsUtf8 (codes ":" ++ decimal line ++ codes ":" ++ decimal column)
position_text_utf8 line column l c =
    IsUtf8-from_ascii (codes ":" ++ decimal line ++ codes ":" ++ decimal column)
    (search (arith, IsAscii-append, IsAscii-decimal))
