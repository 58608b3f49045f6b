-- The scope mappings of a source, decoded: where its functions start. `;` separates lines, `,` separates the parts of
-- a line. A part that is not empty is a segment. Its first three numbers are the deltas of the column, of the index of
-- the name and of the line. A missing number is 0, and further numbers are ignored.
use Rattle.std.specs.Prelude.{◌≡◌, ◌≢◌, ℕ, ◌+◌, ◌%◌, ◌^◌, List, [], ◌∷◌, ◌++◌, Option, Some, None, Any}
use Rattle.sourcemap_errors.specs.declared.errors.Error.{Error}
use Rattle.sourcemap_vlq.specs.Vlq.{Reads, HasError}
use Rattle.sourcemap_mappings.specs.Segment.{Segment, sum_at, parts_of}
use Rattle.sourcemap_mappings.specs.Read.{lines_of}
use Rattle.sourcemap_hermes_scopes.specs.declared.offsets.HermesScopeOffset.{HermesScopeOffset}

-- the offset of a segment: `here` are the segments of its line, and `all` are the segments of the text, both up to and
-- including this segment
abbrev pub segment_offset : List Segment → List Segment → HermesScopeOffset
segment_offset here all = record {
  line = (1 + sum_at 2 all) % 2 ^ 32;
  column = sum_at 0 here;
  name_index = sum_at 1 all;
}

-- the offsets of some segments of a line. These segments follow the segments `here` of the same line, and the segments
-- `before` of earlier lines
abbrev pub line_offsets : List Segment → List Segment → List Segment → List HermesScopeOffset
line_offsets before here [] = []
line_offsets before here (s ∷ later) =
    let here' = here ++ s ∷ [] in
    segment_offset here' (before ++ here') ∷ line_offsets before here' later

-- the offsets of all segments of these decoded lines. Each decoded line is the list of its segments. `before` are the
-- segments of earlier lines
abbrev pub offsets_of_lines : List Segment → List (List Segment) → List HermesScopeOffset
offsets_of_lines before [] = []
offsets_of_lines before (line ∷ decoded_lines) =
    line_offsets before [] line ++ offsets_of_lines (before ++ line) decoded_lines

-- Texts and what they decode to.

-- the parts that are not empty decode to these segments, and empty parts are skipped. The field `index` of each segment
-- is 0, since no offset depends on it
abbrev pub SegmentsRead : List (List ℕ) → List Segment → Type 0
SegmentsRead [] segments = segments ≡ []
SegmentsRead ([] ∷ parts) segments = SegmentsRead parts segments
SegmentsRead ((c ∷ cs) ∷ parts) [] = ⊥
SegmentsRead ((c ∷ cs) ∷ parts) (s ∷ segments) =
    (s.index ≡ 0) × Reads (c ∷ cs) s.numbers × SegmentsRead parts segments

-- the texts of these lines decode to these lists of segments
abbrev pub ScopeLinesRead : List (List ℕ) → List (List Segment) → Type 0
ScopeLinesRead [] decoded_lines = decoded_lines ≡ []
ScopeLinesRead (line ∷ lines) [] = ⊥
ScopeLinesRead (line ∷ lines) (segments ∷ decoded_lines) =
    SegmentsRead (parts_of line) segments × ScopeLinesRead lines decoded_lines

-- a part that is not empty and that decodes to an error (`HasError`)
abbrev pub IsUnreadable : List ℕ → Type 0
IsUnreadable part = (part ≢ []) × ((e : Error) × HasError part e)

-- a text of scope mappings decodes to these offsets, or to `None` if a part of a line is invalid
abbrev pub StandsFor : List ℕ → Option (List HermesScopeOffset) → Type 0
StandsFor text (Some offsets) =
    (decoded_lines : List (List Segment)) × ScopeLinesRead (lines_of text) decoded_lines
    × (offsets ≡ offsets_of_lines [] decoded_lines)
StandsFor text None = Any (λ line. Any IsUnreadable (parts_of line)) (lines_of text)
