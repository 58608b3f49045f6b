-- The offsets that each step of the decoder appends.
use Rattle.std.specs.Prelude.{◌≡◌, ℕ, List, ◌++◌}
use Rattle.sourcemap_mappings.specs.Segment.{Segment}
use Rattle.sourcemap_hermes_scopes.specs.declared.offsets.HermesScopeOffset.{HermesScopeOffset}
use Rattle.sourcemap_hermes_scopes.specs.Offsets.{segment_offset, line_offsets, SegmentsRead}

-- The next segment of the current line is relative to `last`. `before` are all segments of earlier lines, and `here`
-- are the segments of the current line so far. If `here` is not empty, `last` is the offset of the last segment of
-- `here`. If `here` is empty and `before` is not, `last` has the line and the name index of the last segment of
-- `before`, and column 0. If both lists are empty, `last` has line 1, column 0 and name index 0
abbrev pub IsLastOffset : (before here : List Segment) → HermesScopeOffset → Type 0
IsLastOffset before here last = last ≡ segment_offset here (before ++ here)

-- `before` and `here` are as in `IsLastOffset`. The next parts of the line are `parts`, which decode to `segments`.
-- `new` is `old` with the offsets of `segments` appended. The next segment of the line after `segments` is relative to
-- `last`
pub record AddsOffsets (before here : List Segment) (parts : List (List ℕ)) (old new : List HermesScopeOffset)
    (last : HermesScopeOffset) : Type 0 where
  pub segments : List Segment
  pub read : SegmentsRead parts segments
  pub offsets : new ≡ old ++ line_offsets before here segments
  pub is_last : IsLastOffset before (here ++ segments) last
