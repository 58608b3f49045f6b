-- The steps of encoding.
use Rattle.std.specs.Prelude.{◌≡◌, ℕ, ◌^◌, ◌<◌, List, [], ◌∷◌, Option, Bool, ◌==◌, if◌then◌else◌, false, true, ◌-◌}
use Rattle.std.specs.Prelude.{replicate}
use Rattle.std.specs.Option.{option_map_or}
use Rattle.sourcemap_tokens.specs.declared.tokens.RawToken.{RawToken}
use Rattle.sourcemap_tokens.specs.Tokens.{are_same}
use Rattle.sourcemap_mappings.specs.Segment.{comma, semicolon}
use Rattle.sourcemap_mappings.specs.Write.{has_source, has_name}

-- the generated column of a token is below 2^32; if the token has a source, so are its original line and column
abbrev pub HasSmallPositions : RawToken → Type 0
HasSmallPositions t = (t.dst_col < 2 ^ 32) × (has_source t ≡ true → (t.src_line < 2 ^ 32) × (t.src_col < 2 ^ 32))

-- the token is equal to the previous token; false if there is no previous token
abbrev pub repeats : Option RawToken → RawToken → Bool
repeats previous t = option_map_or (λ p. are_same t p) previous false

-- the previous token is on the line of the token; false if there is no previous token
abbrev pub follows : Option RawToken → RawToken → Bool
follows previous t = option_map_or (λ p. p.dst_line == t.dst_line) previous false

-- the text before the segment of t: a comma if the previous token is on the line of t, otherwise one semicolon for each
-- line after `line`, up to and including the line of t
abbrev pub gap : Option RawToken → ℕ → RawToken → List ℕ
gap previous line t = if follows previous t then comma ∷ [] else replicate (t.dst_line - line) semicolon

-- the token that a segment on line n is relative to: `against` itself if `against` is on line n, otherwise `against`
-- moved to column 0 of line n
abbrev pub at_line : RawToken → ℕ → RawToken
at_line against n = if against.dst_line == n then against else record against { dst_line = n; dst_col = 0 }

-- the new value of `against` after the segment of t. The next segment on the line is relative to the new value. The
-- generated position is taken from t. If t has a source, the source id and the original position are taken from t. If t
-- also has a name id below `names`, the name id is taken from t. All other fields are unchanged
abbrev pub next_base : ℕ → RawToken → RawToken → RawToken
next_base names against t = record against {
  dst_line = t.dst_line;
  dst_col = t.dst_col;
  src_line = (if has_source t then t.src_line else against.src_line);
  src_col = (if has_source t then t.src_col else against.src_col);
  src_id = (if has_source t then t.src_id else against.src_id);
  name_id = (if has_name names t then t.name_id else against.name_id);
}
