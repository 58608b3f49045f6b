-- The lines of a text, and their ranges.
use Rattle.std.specs.Prelude.{ℕ, ◌+◌, ◌<◌, ◌≤◌, ◌==◌, Bool, ◌&&◌, ◌||◌, cond, List, [], ◌∷◌, ◌++◌, length, slice_index}
use Rattle.std.specs.Prelude.{drop, map, not, false, ◌≡◌}
use Rattle.std.specs.List.{list_any}

-- a line: its text, and its terminator `\n`, `\r` or `\r\n`; the last line has none
pub record Line : Type 0 where
  pub body : List ℕ
  pub terminator : List ℕ

-- an empty line with this terminator, in front of other lines
abbrev pub ended_by : List ℕ → List Line → List Line
ended_by terminator lines = record { body = []; terminator = terminator } ∷ lines

-- lines, with this byte put in front of the body of the first line
abbrev pub with_body : ℕ → List Line → List Line
with_body byte [] = []
with_body byte (line ∷ lines) = record { body = byte ∷ line.body; terminator = line.terminator } ∷ lines

-- lines, with `\r` put in front of the terminator of the first line
abbrev pub with_return : List Line → List Line
with_return [] = []
with_return (line ∷ lines) = record { body = line.body; terminator = 13 ∷ line.terminator } ∷ lines

-- a byte that ends a line, `\n` or `\r`
abbrev pub is_terminator : ℕ → Bool
is_terminator byte = (byte == 10) || (byte == 13)

-- this byte and the start of the text after it are `\r\n`, which is one terminator
abbrev pub is_crlf : ℕ → List ℕ → Bool
is_crlf byte text = (byte == 13) && (slice_index text 0 == 10)

abbrev pub starts_with_crlf : List ℕ → Bool
starts_with_crlf text = is_crlf (slice_index text 0) (drop 1 text)

-- a text split at each terminator: one line more than there are terminators
abbrev pub lines_of : List ℕ → List Line
lines_of [] = ended_by [] []
lines_of (byte ∷ text) =
    cond (is_crlf byte text) (with_return (lines_of text))
    (cond (is_terminator byte) (ended_by (byte ∷ []) (lines_of text)) (with_body byte (lines_of text)))

-- lines with their terminators, joined
abbrev pub joined : List Line → List ℕ
joined [] = []
joined (line ∷ lines) = line.body ++ (line.terminator ++ joined lines)

-- the byte ranges of lines without their terminators; the first line starts at `start`
abbrev pub ranges_from : ℕ → List Line → List (ℕ × ℕ)
ranges_from start [] = []
ranges_from start (line ∷ lines) =
    (start, start + length line.body) ∷ ranges_from (start + length line.body + length line.terminator) lines

-- the byte ranges of the lines of a text, without their terminators
abbrev pub line_ranges : List ℕ → List (ℕ × ℕ)
line_ranges text = ranges_from 0 (lines_of text)

-- the lines of a text without their terminators
abbrev pub line_bodies : List ℕ → List (List ℕ)
line_bodies text = map (λ line. line.body) (lines_of text)

-- the number of line terminators: each `\n`, and each `\r` that no `\n` follows
abbrev pub count_ends : List ℕ → ℕ
count_ends [] = 0
count_ends (byte ∷ text) = cond (is_terminator byte && not (is_crlf byte text)) (count_ends text + 1) (count_ends text)

-- a line whose text contains no terminator
abbrev pub HasNoTerminator : Line → Type 0
HasNoTerminator line = list_any is_terminator line.body ≡ false

-- `table` holds the ranges of the first lines of a text, and `start` is the offset where the next line starts: `table`,
-- followed by the ranges of the lines from `start` on, equals the `line_ranges` of the text. No byte from `start` up to
-- `offset`, exclusive, is a terminator. `start` may be after `offset`. For example, if `offset` is between the two
-- bytes of a `\r\n`, no line starts at `offset`, and `start` is after the `\n`
pub record IsPartialTable (text : List ℕ) (table : List (ℕ × ℕ)) (start offset : ℕ) : Type 0 where
  pub within : start ≤ length text
  pub left : table ++ ranges_from start (lines_of (drop start text)) ≡ line_ranges text
  pub quiet : (k : ℕ) → start ≤ k → k < offset → is_terminator (slice_index text k) ≡ false
