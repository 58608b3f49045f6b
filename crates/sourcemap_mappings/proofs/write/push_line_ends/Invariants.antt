use Rattle.std.proofs.Common.{◌≡◌, ◌-◌, ◌≤◌, ◌++◌, replicate, string_bytes}
use Rattle.sourcemap_mappings.specs.Segment.{semicolon}
use Rattle.sourcemap_mappings.proofs.write.push_line_ends.Given as goal

abbrev pub invariant-loop-line : goal.invariant-loop-line
invariant-loop-line l = record {
  added : string_bytes l.text ≡ string_bytes l.initial.text ++ replicate (l._line - l.from) semicolon;
  so_far : l._line - l.from ≤ l.to - l.from;
}
