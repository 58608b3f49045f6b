use Rattle.std.proofs.Common.{arith}
use Rattle.sourcemap_line_index.proofs.TableLemmas.{table_unchanged, table_pushed, line_at_token}
use Rattle.sourcemap_line_index.proofs.line_index.LineIndex.new.Goals as goal
use Rattle.sourcemap_line_index.proofs.line_index.LineIndex.new.Goals.{then-begins_line+in_ok-push+in_ok-push-2}
use Rattle.sourcemap_line_index.proofs.line_index.LineIndex.new.Goals.{else-begins_line}

pub loop-index-preserved : goal.loop-index-preserved
loop-index-preserved c =
    elim c.if-begins_line.branch [
      | then-begins_line+in_ok-push+in_ok-push-2 w ↦
          rw (w.lines-is, w.firsts-is, w.in_ok-push.ensures.items, w.in_ok-push-2.ensures.items)
          (table_pushed c.args.tokens.now c.loop-index.index _ c.loop-index.lines.items
          c.loop-index.firsts.items c.requires (line_at_token c.args.tokens.now c.loop-index.index _ (omega arith))
          (c.begins_line.ensures.begins w.if-begins_line.true) c.loop-index.invariant)
      | else-begins_line w ↦
          rw (w.lines-is, w.firsts-is) (table_unchanged c.args.tokens.now c.loop-index.index (record {
            lines = c.loop-index.lines.items;
            firsts = c.loop-index.firsts.items;
          }) (c.begins_line.ensures.continues w.if-begins_line.false) c.loop-index.invariant)
    ]
