use Rattle.std.proofs.Common.{◌∙◌}
use Rattle.std.proofs.lemmas.List.{length-map}
use Rattle.sourcemap.specs.Lines.{lines_of}
use Rattle.sourcemap_uses.proofs.naming.line_total.Goals as goal

pub returns : goal.returns
returns c = c.line_count.ensures ∙ length-map (lines_of c.args.view.now) (λ line. line.body)
    ∙ rw c.source.ensures at c.lines_make_their_text.ensures.counted
