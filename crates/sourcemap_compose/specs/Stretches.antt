-- The positions that each token of a sorted list covers.
use Rattle.std.specs.Prelude.{ℕ, Bool, cond, List, [], ◌∷◌, Option, Some, None, slice_get}
use Rattle.std.specs.Ordering.{is_lt}
use Rattle.sourcemap_tokens.specs.Tokens.{destination, position_cmp, sorted_by}
use Rattle.std.specs.declared.alloc.Global.{Global}
use Rattle.std.specs.declared.vec.Vec.{Vec}
use Rattle.sourcemap_tokens.specs.declared.tokens.RawToken.{RawToken}
use Rattle.sourcemap_compose.specs.declared.stretches.Side.{Side}
use Rattle.sourcemap_compose.specs.declared.stretches.Side.TheVariants.{Original, Adjustment}
use Rattle.sourcemap_compose.specs.declared.stretches.Stretch.{Stretch}

-- the original position of a token
abbrev pub source : RawToken → ℕ × ℕ
source token = (token.src_line, token.src_col)

-- the position of a token in the intermediate text, see `Side`: the generated position for a token of the original map,
-- the original position for a token of the adjustment map
abbrev pub position_by : Side → RawToken → ℕ × ℕ
position_by Original = destination
position_by Adjustment = source

abbrev pub is_before : ℕ × ℕ → ℕ × ℕ → Bool
is_before p q = is_lt (position_cmp p q)

abbrev pub earlier : ℕ × ℕ → ℕ × ℕ → ℕ × ℕ
earlier p q = cond (is_before p q) p q

-- the end of a position's line
abbrev pub line_end : ℕ × ℕ → ℕ × ℕ
line_end p = (p.0, 4294967295)

-- the end of a token's stretch: the next token's position or the end of the token's line, whichever comes first. If
-- there is no next token, the stretch ends at the end of the line
abbrev pub end_before : (RawToken → ℕ × ℕ) → RawToken → Option RawToken → ℕ × ℕ
end_before position token None = line_end (position token)
end_before position token (Some next) = earlier (position next) (line_end (position token))

-- one stretch for each token of a list that is in order. A stretch begins at the position of its token, and goes up to,
-- not including, its end
abbrev pub stretches : (RawToken → ℕ × ℕ) → List RawToken → List Stretch
stretches position [] = []
stretches position (token ∷ rest) = record {
  token = token;
  start = position token;
  end = end_before position token (slice_get rest 0);
} ∷ stretches position rest

-- the stretches of the tokens of the original, or of the adjustment; the list of tokens may be in any order
abbrev pub stretches_by : Side → List RawToken → List Stretch
stretches_by side tokens = stretches (position_by side) (sorted_by (position_by side) position_cmp tokens)

-- the sorted copy of a list, or the list itself if there is no copy
abbrev pub copy_or : List RawToken → Option (Vec RawToken Global) → List RawToken
copy_or tokens None = tokens
copy_or tokens (Some copy) = copy.items
