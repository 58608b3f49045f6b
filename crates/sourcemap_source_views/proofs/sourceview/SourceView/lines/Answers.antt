use Rattle.std.proofs.Common.{arith}
use Rattle.std.proofs.lemmas.List.{length-take}
use Rattle.sourcemap_source_views.specs.Lines.{line_bodies}
use Rattle.sourcemap_source_views.proofs.sourceview.SourceView.lines.Goals as goal

pub returns-clause-bound : goal.returns-clause-bound
returns-clause-bound c = let len = length-take 4294967296 (line_bodies c.args.self.now) in omega arith
