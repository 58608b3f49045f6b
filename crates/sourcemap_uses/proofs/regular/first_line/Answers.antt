use Rattle.sourcemap_maps.specs.Lines.{line_bodies}
use Rattle.sourcemap_maps.specs.Views.{lines_left}
use Rattle.sourcemap_uses.proofs.RegularLemmas.{first_left}
use Rattle.sourcemap_uses.proofs.regular.first_line.Goals as goal

pub returns : goal.returns
returns c =
    first_left lines_left c.lines-lines.result c.next.new.self (line_bodies c.args.view.now) c.next.result
    c.lines-lines.ensures.left c.next.ensures.steps
