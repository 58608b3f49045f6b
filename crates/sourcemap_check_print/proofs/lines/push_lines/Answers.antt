use Rattle.std.proofs.Common.{string_bytes}
use Rattle.sourcemap_check_print.specs.Lines.{entry_line}
use Rattle.sourcemap_check_print.proofs.TextLemmas.{one_item_more}
use Rattle.sourcemap_check_print.proofs.lines.push_lines.Goals as goal

pub loop-entry-preserved : goal.loop-entry-preserved
loop-entry-preserved c =
    one_item_more (entry_line c.args.maps.now) c.args.entries.now c.loop-entry.entry-index _
    (string_bytes c.args.text.now) (string_bytes c.loop-entry.text) (string_bytes c.push_line.new.text)
    c.loop-entry-test.true c.loop-entry.invariant c.in_ok-push_line.ensures.text
