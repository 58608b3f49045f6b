-- The encoding of tokens as `mappings` and `rangeMappings`. Lines are joined by `;`, the segments of
-- a line by `,`. A token equal in all fields to the one before it is not written.
use Rattle.std.specs.Prelude.{◌≡◌, ℕ, ◌+◌, ℤ, pos, List, [], ◌∷◌, ◌++◌, length, Option, Some, None, Bool, not, ◌&&◌}
use Rattle.std.specs.Prelude.{◌==◌, nat_lt, if◌then◌else◌, false, true, ◌-ℤ◌, filter, map}
use Rattle.std.specs.Option.{option_map_or}
use Rattle.std.specs.List.{join_with_byte, last_or, list_any}
use Rattle.sourcemap_tokens.specs.declared.tokens.RawToken.{RawToken}
use Rattle.sourcemap_vlq.specs.Vlq.{Spells}
use Rattle.sourcemap_vlq.specs.Bits.{IsBitText}
use Rattle.sourcemap_tokens.specs.Tokens.{without_repeats, no_id}
use Rattle.sourcemap_mappings.specs.Segment.{comma, semicolon}

-- Lines.

abbrev pub is_on : ℕ → RawToken → Bool
is_on n t = t.dst_line == n

abbrev pub is_above : ℕ → RawToken → Bool
is_above n t = nat_lt t.dst_line n

-- the number of lines from line 0 up to and including the line of the last token; 0 if there are no tokens
abbrev pub line_count : List RawToken → ℕ
line_count tokens = option_map_or (λ t. t.dst_line + 1) (last_or None tokens) 0

-- a list has one item for each line, from line n on. Each item satisfies `IsPart` for its line
abbrev pub EachLine : (ℕ → List ℕ → Type 0) → ℕ → List (List ℕ) → Type 0
EachLine IsPart n [] = Unit {0}
EachLine IsPart n (part ∷ parts) = IsPart n part × EachLine IsPart (n + 1) parts

-- a text has one part for each line, from line 0 up to and including the line of the last token. `;` separates the
-- parts. Each part satisfies `IsPart` for its line. If there are no tokens, the text is empty
abbrev pub LineByLine : (ℕ → List ℕ → Type 0) → List RawToken → List ℕ → Type 0
LineByLine IsPart tokens text =
    (parts : List (List ℕ)) × (length parts ≡ line_count tokens) × EachLine IsPart 0 parts
    × (text ≡ join_with_byte semicolon parts)

-- Segments.

abbrev pub has_source : RawToken → Bool
has_source t = not (t.src_id == no_id)

-- the token has a source, and its name id is below `names`
abbrev pub has_name : ℕ → RawToken → Bool
has_name names t = has_source t && nat_lt t.name_id names

-- a field of the last token that satisfies a test, or 0 if no token does
abbrev pub last_field : (RawToken → Bool) → (RawToken → ℕ) → List RawToken → ℕ
last_field passes field tokens = option_map_or field (last_or None (filter passes tokens)) 0

-- the values that a token on line n is relative to. Each value comes from one of the earlier tokens `before`: the
-- column from the last token on line n, the source and the original position from the last token with a source, the
-- name from the last token with a name. A value is 0 if `before` has no such token
abbrev pub base : ℕ → ℕ → List RawToken → RawToken
base names n before = record {
  dst_line = n;
  dst_col = last_field (is_on n) (λ t. t.dst_col) before;
  src_line = last_field has_source (λ t. t.src_line) before;
  src_col = last_field has_source (λ t. t.src_col) before;
  src_id = last_field has_source (λ t. t.src_id) before;
  name_id = last_field (has_name names) (λ t. t.name_id) before;
  is_range = false;
}

-- a minus b, which may be negative
abbrev pub difference : ℕ → ℕ → ℤ
difference a b = pos a -ℤ pos b

-- the numbers of the segment of token t. Each number is a field of t minus the same field of `against`. The first field
-- is the generated column. If t has a source, the next fields are source id, original line and original column. If t
-- also has a name id below `names`, the last field is the name id
abbrev pub numbers : ℕ → RawToken → RawToken → List ℤ
numbers names against t =
    difference t.dst_col against.dst_col
    ∷ (if has_source t then
    difference t.src_id against.src_id
    ∷ difference t.src_line against.src_line
    ∷ difference t.src_col against.src_col
    ∷ (if has_name names t then difference t.name_id against.name_id ∷ [] else [])
    else [])

-- the encoded segments of some tokens. These tokens come after the tokens `before`
abbrev pub AreSegments : ℕ → List RawToken → List RawToken → List (List ℕ) → Type 0
AreSegments names before [] segments = segments ≡ []
AreSegments names before (t ∷ ts) [] = ⊥
AreSegments names before (t ∷ ts) (segment ∷ segments) =
    Spells (numbers names (base names t.dst_line before) t) segment × AreSegments names (before ++ t ∷ []) ts segments

-- the encoding of the tokens on line n
abbrev pub IsLine : ℕ → List RawToken → ℕ → List ℕ → Type 0
IsLine names tokens n line =
    (segments : List (List ℕ))
    × AreSegments names (filter (is_above n) tokens) (filter (is_on n) tokens) segments
    × (line ≡ join_with_byte comma segments)

-- the encoding of sorted tokens as `mappings`, for a map with this count of names
abbrev pub IsWritten : ℕ → List RawToken → List ℕ → Type 0
IsWritten names tokens text = LineByLine (IsLine names (without_repeats tokens)) tokens text

-- Range bits.

-- the encoding of the range flags of the tokens on line n
abbrev pub IsRangeLine : List RawToken → ℕ → List ℕ → Type 0
IsRangeLine tokens n bits = IsBitText (map (λ t. t.is_range) (filter (is_on n) tokens)) bits

-- the encoding of the range flags of sorted tokens as `rangeMappings`, or `None` if no token is a range mapping
abbrev pub IsRangeText : List RawToken → Option (List ℕ) → Type 0
IsRangeText tokens None = list_any (λ t. t.is_range) tokens ≡ false
IsRangeText tokens (Some text) =
    (list_any (λ t. t.is_range) tokens ≡ true) × LineByLine (IsRangeLine (without_repeats tokens)) tokens text
