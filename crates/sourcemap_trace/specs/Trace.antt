-- The answers to a list of positions: one answer for each line of the list, in order. Lines and columns count from
-- `first` in the list and in the answers.
use Rattle.std.specs.Prelude.{ℕ, ◌+◌, List, ◌++◌, codes, false, flat_map, Option, Some, None}
use Rattle.sourcemap.specs.Token.{token_text}
use Rattle.sourcemap.specs.Types.{Meaning}
use Rattle.sourcemap_trace.specs.Positions.{lines_of, position_of}

-- a meaning with its line and its column counted from `first`
abbrev pub counted : (first : ℕ) → Meaning → Meaning
counted first says = record {
  source = says.source;
  line = says.line + first;
  column = says.column + first;
  name = says.name;
  is_range = says.is_range;
}

-- the text of a token with these parts
abbrev pub parts_text : (source : Option (List ℕ)) → (line column : ℕ) → (name : Option (List ℕ)) → List ℕ
parts_text source line column name =
    token_text (record { source = source; line = line; column = column; name = name; is_range = false })

-- the text of the meaning of a position, for example `a.js:3:4 name=f`. The meaning is what the closest token says. If
-- there is no closest token, the text is `none`
abbrev pub meaning_text : (first : ℕ) → Option Meaning → List ℕ
meaning_text first (Some says) = token_text (counted first says)
meaning_text first None = codes "none"

-- the answer to a line that names this position: the text of the meaning that `meaning` gives to the position. If the
-- line names no position (`None`), the answer is `bad position`
abbrev pub answer_at : (first : ℕ) → (ℕ × ℕ → Option Meaning) → Option (ℕ × ℕ) → List ℕ
answer_at first meaning (Some position) = meaning_text first (meaning position)
answer_at first meaning None = codes "bad position"

-- the answer to a line
abbrev pub answer_from : (first : ℕ) → (ℕ × ℕ → Option Meaning) → List ℕ → List ℕ
answer_from first meaning line = answer_at first meaning (position_of first line)

-- the answers to all lines, each with a newline
abbrev pub trace_from : (first : ℕ) → (ℕ × ℕ → Option Meaning) → List ℕ → List ℕ
trace_from first meaning positions =
    flat_map (λ line. answer_from first meaning line ++ codes "\n") (lines_of positions)

-- the answer to a line, and the answers to all lines, counted from 0
abbrev pub answer_to : (ℕ × ℕ → Option Meaning) → List ℕ → List ℕ
answer_to = answer_from 0

abbrev pub trace_of : (ℕ × ℕ → Option Meaning) → List ℕ → List ℕ
trace_of = trace_from 0
