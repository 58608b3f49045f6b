-- Decoding the next part of a line: the first part that is not decoded yet. The first two lemmas are for a part with
-- numbers.
use Rattle.std.proofs.Common.{ℕ, ◌+◌, ◌<◌, ℤ, List, [], ◌∷◌, ◌++◌, length, Option, arith, sym, subst}
use Rattle.std.specs.Option.{option_map_or}
use denote.Ref.{Bor}
use Rattle.sourcemap_tokens.specs.declared.tokens.RawToken.{RawToken}
use Rattle.sourcemap_mappings.specs.declared.segment.Numbers.{Numbers}
use Rattle.sourcemap_mappings.specs.declared.segment.PartPosition.{PartPosition}
use Rattle.sourcemap_mappings.specs.declared.segment.Sums.{Sums}
use Rattle.sourcemap_mappings.specs.Segment.{Counts, Segment, parts_of}
use Rattle.sourcemap_mappings.specs.SegmentSteps.{AreSteps, AreSums, HasFirstPart, IsSegmentRead}
use Rattle.sourcemap_mappings.specs.ReadSteps.{AddsOnLine, AddsParts, AreInOrderTo, RiseFrom, TakesPart}
use Rattle.sourcemap_mappings.proofs.ReadLemmas.{PartsSoFar, PartsSoFar-more}

module _ (line : List ℕ) (read : Numbers) (tail : Option (Bor (List ℕ))) (first : HasFirstPart line read tail)
    (some : 0 < read.count)
    (earlier later : Sums) (sums : (before here : List Segment) (s : Segment) → AreSums before here earlier
    → AreSteps s.numbers read → AreSums before (here ++ s ∷ []) later) where
  -- if `earlier` holds the sums before the first part of `line`, then `later` holds the sums after this part
  pub segment_read : (index : ℕ) (before here : List Segment) → AreSums before here earlier
      → IsSegmentRead index before here first.part first.numbers read.count later
  segment_read index before here h =
      let count = first.steps.count in
      record {
        some = omega arith;
        count_is = count;
        reads = first.reads;
        sums_to = sums before here (record { index = index; numbers = first.numbers }) h first.steps;
      }

  -- the token of the first part of `line` is appended (`TakesPart`)
  pub taken : (counts : Counts) (position : PartPosition) (bits : List ℕ) (old new : List RawToken)
      → RiseFrom earlier later
      → ((before here : List Segment) (part : List ℕ) (numbers : List ℤ)
      → IsSegmentRead position.index before here part numbers read.count later
      → AddsParts counts position bits before here (part ∷ []) old new later)
      → ((from : Sums) → AreInOrderTo position.line from old → RiseFrom from later
      → AreInOrderTo position.line later new)
      → AddsOnLine position.line old new
      → TakesPart counts position bits line earlier later old new tail
  taken counts position bits old new rise added order on_line = record {
    added = λ before here h. record {
      part = first.part;
      split = first.split;
      adds = added before here first.part first.numbers (segment_read position.index before here h);
    };
    shorter = first.shorter;
    order = λ before. order earlier before rise;
    on_line = on_line;
  }

-- the first of the remaining parts is decoded
pub PartsSoFar-taken : (counts : Counts) (position : PartPosition) (bits : List ℕ) (before : List Segment)
    (all : List (List ℕ)) (line : List ℕ) (old middle new : List RawToken) (earlier later : Sums)
    (tail : Option (Bor (List ℕ)))
    → PartsSoFar counts position.line bits before all position.index (parts_of line) old middle earlier
    → TakesPart counts position bits line earlier later middle new tail
    → PartsSoFar counts position.line bits before all (position.index + 1)
    (option_map_or (λ rest. parts_of rest.now) tail []) old new later
PartsSoFar-taken counts position bits before all line old middle new earlier later tail so_far takes =
    let parts = option_map_or (λ rest. parts_of rest.now) tail [] in
    let first = takes.added before so_far.here so_far.sums_after in
    subst
    (λ left. (s : PartsSoFar counts position.line bits before all position.index left old middle earlier)
    → AddsParts counts position bits before s.here (first.part ∷ []) middle new later
    → PartsSoFar counts position.line bits before all (position.index + 1) parts old new later)
    (sym first.split)
    (λ s adds. PartsSoFar-more counts position bits before all first.part parts old middle earlier new later s adds)
    so_far first.adds
