use Rattle.sourcemap_source_views.proofs.LinesLemmas.{joined-lines_of, count-lines_of, uncut-lines_of}
use Rattle.sourcemap_source_views.proofs.lines.lines_make_their_text.Goals as goal

pub returns : goal.returns
returns c =
    record {
      joined = joined-lines_of c.args.text.now;
      counted = count-lines_of c.args.text.now;
      uncut = uncut-lines_of c.args.text.now;
    }
