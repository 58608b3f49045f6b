use Rattle.std.proofs.Common.{arith}
use Rattle.sourcemap_source_views.proofs.LinesLemmas.{tabled-end}
use Rattle.sourcemap_source_views.proofs.lines.LineTable.push_end.Goals as goal

pub returns : goal.returns
returns c =
    tabled-end c.args.bytes.now c.args.start c.args.end c.terminator_length.result _ _ c.requires.before
    (omega arith) c.requires.inside c.requires.ends c.in_ok-push.ensures c.terminator_length.ensures
