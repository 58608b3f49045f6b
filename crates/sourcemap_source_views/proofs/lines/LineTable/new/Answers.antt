use Rattle.std.proofs.Common.{Ok, ap, sym, ◌∙◌}
use Rattle.sourcemap_source_views.specs.Lines.{line_ranges}
use Rattle.sourcemap_source_views.proofs.LinesLemmas.{tabled-on, tabled-whole}
use Rattle.sourcemap_source_views.proofs.lines.LineTable.new.Goals as goal

pub loop-offset-preserved : goal.loop-offset-preserved
loop-offset-preserved c = (
  c.next_offset-offset.ensures.within,
  tabled-on c.as_bytes-bytes.result.now _ _ _ _ c.in_ok-start.ensures c.next_offset-offset.ensures.quiet,
)

pub returns : goal.returns
returns c =
    ap Ok (ap line_ranges (sym c.as_bytes-bytes.ensures.value)
    ∙ tabled-whole c.as_bytes-bytes.result.now _ _ _ c.in_ok-start-2.ensures c.in_ok-push.ensures)
