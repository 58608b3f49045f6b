-- `mappings` and the tokens that it decodes to. `;` separates lines, `,` separates the parts of a
-- line.
use Rattle.std.specs.Prelude.{◌≡◌, ℕ, ◌+◌, ◌^◌, ◌<◌, ◌≤◌, ◌⊎◌, List, [], ◌∷◌, ◌++◌, Some, None, Result, Ok, Err, ◌==◌}
use Rattle.std.specs.List.{slice_split}
use Rattle.sourcemap_tokens.specs.declared.tokens.RawToken.{RawToken}
use Rattle.sourcemap_errors.specs.declared.errors.Error.{Error}
use Rattle.sourcemap_errors.specs.declared.errors.Error.TheVariants.{IncompatibleSourceMap, InvalidBase64}
use Rattle.sourcemap_vlq.specs.Vlq.{Reads, HasError}
use Rattle.sourcemap_vlq.specs.Bits.{first_non_digit}
use Rattle.sourcemap_tokens.specs.Tokens.{in_order}
use Rattle.sourcemap_mappings.specs.Segment.{Counts, Segment, token_of, segment_error, semicolon, parts_of}

-- a decoded line: the text of its range bits, and its segments
pub record Line : Type 0 where
  pub bits : List ℕ
  pub segments : List Segment

-- the tokens of some segments of line n. These segments come after the segments `here` of line n and the segments
-- `before` of earlier lines
abbrev pub line_tokens : ℕ → List ℕ → List Segment → List Segment → List Segment → List RawToken
line_tokens n bits before here [] = []
line_tokens n bits before here (s ∷ later) =
    let here' = here ++ s ∷ [] in
    token_of n bits here' (before ++ here') s ∷ line_tokens n bits before here' later

-- the tokens of decoded lines from line n on, after the segments `before`
abbrev pub tokens_of_lines : ℕ → List Segment → List Line → List RawToken
tokens_of_lines n before [] = []
tokens_of_lines n before (line ∷ decoded_lines) =
    line_tokens n line.bits before [] line.segments ++ tokens_of_lines (n + 1) (before ++ line.segments) decoded_lines

-- Texts and what they decode to.

-- a part that is not empty decodes to the valid segment `s`. The part has the index `index` in its line and comes after
-- the segments `before`
abbrev pub PartRead : Counts → ℕ → List Segment → List ℕ → Segment → Type 0
PartRead counts index before part s =
    (s.index ≡ index) × Reads part s.numbers × (segment_error counts (before ++ s ∷ []) s ≡ None)

-- the first error of a part that is not empty. The part has this index in its line and comes after the segments
-- `before`. The error is the first error of the digits, or the first error of the numbers if the digits are valid
abbrev pub PartError : Counts → ℕ → List Segment → List ℕ → Error → Type 0
PartError counts index before part e =
    HasError part e
    ⊎ ((s : Segment) × (s.index ≡ index) × Reads part s.numbers × (segment_error counts (before ++ s ∷ []) s ≡ Some e))

-- some successive parts of a line decode to these valid segments. The first of the parts has this index in its line,
-- and comes after the segments `before`. An empty part decodes to no segment
abbrev pub PartsRead : Counts → ℕ → List Segment → List (List ℕ) → List Segment → Type 0
PartsRead counts index before [] segments = segments ≡ []
PartsRead counts index before ([] ∷ parts) segments = PartsRead counts (index + 1) before parts segments
PartsRead counts index before ((c ∷ cs) ∷ parts) [] = ⊥
PartsRead counts index before ((c ∷ cs) ∷ parts) (s ∷ segments) =
    PartRead counts index before (c ∷ cs) s × PartsRead counts (index + 1) (before ++ s ∷ []) parts segments

-- the first error of the parts of a line
abbrev pub PartsError : Counts → ℕ → List Segment → List (List ℕ) → Error → Type 0
PartsError counts index before [] e = ⊥
PartsError counts index before ([] ∷ parts) e = PartsError counts (index + 1) before parts e
PartsError counts index before ((c ∷ cs) ∷ parts) e =
    PartError counts index before (c ∷ cs) e
    ⊎ ((s : Segment) × PartRead counts index before (c ∷ cs) s
    × PartsError counts (index + 1) (before ++ s ∷ []) parts e)

-- a line of `mappings`, and the text of its range bits
abbrev pub LineText : Type 0
LineText = List ℕ × List ℕ

-- line n comes after the segments `before` and decodes to `line`. The range bits of an empty line are ignored
abbrev pub LineRead : Counts → ℕ → List Segment → LineText → Line → Type 0
LineRead counts n before ([], bits) line = line ≡ record { bits = []; segments = [] }
LineRead counts n before ((c ∷ cs), bits) line =
    (n < 2 ^ 32) × (first_non_digit bits ≡ None) × (line.bits ≡ bits)
    × PartsRead counts 0 before (parts_of (c ∷ cs)) line.segments

-- the first error of line n. The line comes after the segments `before`. An empty line has no error. The errors of any
-- other line are, in this order: `IncompatibleSourceMap` if n is 2^32 or more, `InvalidBase64` with the first byte of
-- the range bits that is not a digit, and the first error of the parts
abbrev pub LineError : Counts → ℕ → List Segment → LineText → Error → Type 0
LineError counts n before ([], bits) e = ⊥
LineError counts n before ((c ∷ cs), bits) e =
    ((2 ^ 32 ≤ n) × (e ≡ IncompatibleSourceMap))
    ⊎ ((n < 2 ^ 32) × ((b : ℕ) × (first_non_digit bits ≡ Some b) × (e ≡ InvalidBase64 b)))
    ⊎ ((n < 2 ^ 32) × (first_non_digit bits ≡ None) × PartsError counts 0 before (parts_of (c ∷ cs)) e)

-- the lines from line n on come after the segments `before`. The texts of these lines decode, one by one, to
-- `decoded_lines`
abbrev pub LinesRead : Counts → ℕ → List Segment → List LineText → List Line → Type 0
LinesRead counts n before [] decoded_lines = decoded_lines ≡ []
LinesRead counts n before (text ∷ texts) [] = ⊥
LinesRead counts n before (text ∷ texts) (line ∷ decoded_lines) =
    LineRead counts n before text line × LinesRead counts (n + 1) (before ++ line.segments) texts decoded_lines

-- the first error of the lines from line n on
abbrev pub LinesError : Counts → ℕ → List Segment → List LineText → Error → Type 0
LinesError counts n before [] e = ⊥
LinesError counts n before (text ∷ texts) e =
    LineError counts n before text e
    ⊎ ((line : Line) × LineRead counts n before text line × LinesError counts (n + 1) (before ++ line.segments) texts e)

-- each line of `mappings` with the text of its range bits. The text is empty for a line without range bits; range
-- bits after the last line are ignored
abbrev pub with_range_bits : List (List ℕ) → List (List ℕ) → List LineText
with_range_bits [] ranges = []
with_range_bits (line ∷ lines) [] = (line, []) ∷ with_range_bits lines []
with_range_bits (line ∷ lines) (bits ∷ ranges) = (line, bits) ∷ with_range_bits lines ranges

-- the lines of a text
abbrev pub lines_of : List ℕ → List (List ℕ)
lines_of text = slice_split (λ b. b == semicolon) text

abbrev pub line_texts : List ℕ → List ℕ → List LineText
line_texts mappings ranges = with_range_bits (lines_of mappings) (lines_of ranges)

-- the result of decoding `mappings` and `rangeMappings`: the sorted tokens, or the first error
abbrev pub MappingsAnswer : List ℕ → List ℕ → Counts → Result (List RawToken) Error → Type 0
MappingsAnswer mappings ranges counts (Ok tokens) =
    (decoded_lines : List Line) × LinesRead counts 0 [] (line_texts mappings ranges) decoded_lines
    × (tokens ≡ in_order (tokens_of_lines 0 [] decoded_lines))
MappingsAnswer mappings ranges counts (Err e) = LinesError counts 0 [] (line_texts mappings ranges) e
