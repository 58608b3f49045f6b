use Rattle.std.proofs.Common.{length, ◌+◌, ◌<◌, ◌≤◌}
use Rattle.std.specs.List.{AllByRecursion}
use Rattle.std.specs.Option.{option_map_or}
use Rattle.sourcemap_line_index.specs.LineIndex.{IsLineTable}
use Rattle.sourcemap_mappings.specs.Read.{with_range_bits, line_texts}
use Rattle.sourcemap_mappings.specs.ReadSteps.{AreInOrderTo, lines_left}
use Rattle.sourcemap_mappings.specs.SegmentSteps.{counts_of}
use Rattle.sourcemap_mappings.proofs.ReadLemmas.{LinesSoFar}
use Rattle.sourcemap_mappings.proofs.read.read_lines.Given as goal

abbrev pub invariant-loop-lines : goal.invariant-loop-lines
invariant-loop-lines l = record {
  numbers : l.number + option_map_or (λ text. length text.now + 1) l.lines 0 ≤ length l.mappings + 1;
  so_far : LinesSoFar (counts_of l.limits) (line_texts l.fn.mappings l.fn.ranges) l.number
      (with_range_bits (lines_left l.lines) (lines_left l.ranges)) l.tokens.items l.sums;
  below : AllByRecursion (λ t. t.dst_line < l.number) l.tokens.items;
  table : IsLineTable l.tokens.items (length l.tokens.items) l.table;
  order : AreInOrderTo l.number (record l.sums { column = 0 }) l.tokens.items;
}

abbrev pub decreases-loop-lines : goal.decreases-loop-lines
decreases-loop-lines l = option_map_or (λ text. length text.now + 1) l.lines 0
