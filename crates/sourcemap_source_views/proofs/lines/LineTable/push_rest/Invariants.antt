use Rattle.sourcemap_source_views.specs.Lines.{IsPartialTable}
use Rattle.sourcemap_source_views.proofs.lines.LineTable.push_rest.Given as goal

abbrev pub invariant-loop-offset : goal.invariant-loop-offset
invariant-loop-offset l = IsPartialTable l.bytes l.self l.start l.offset
