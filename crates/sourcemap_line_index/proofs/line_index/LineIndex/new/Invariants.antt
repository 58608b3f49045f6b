use Rattle.sourcemap_line_index.specs.LineIndex.{IsLineTable}
use Rattle.sourcemap_line_index.proofs.line_index.LineIndex.new.Given as goal

abbrev pub invariant-loop-index : goal.invariant-loop-index
invariant-loop-index l = IsLineTable l.tokens l.index (record { lines = l.lines.items; firsts = l.firsts.items })
