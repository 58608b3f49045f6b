use Rattle.std.proofs.Common.{arith}
use Rattle.sourcemap_source_views.proofs.ColumnsLemmas.{offset-start}
use Rattle.sourcemap_source_views.proofs.columns.skip_blocks.Goals as goal

pub loop-next-init : goal.loop-next-init
loop-next-init c = record { offset = offset-start c.args.line.now c.utf8.line; before = omega arith }
