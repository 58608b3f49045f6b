use Rattle.std.proofs.Common.{◌∙◌, ap, length, string_bytes}
use Rattle.sourcemap_source_views.specs.Lines.{line_bodies}
use Rattle.sourcemap_source_views.proofs.LinesLemmas.{length-line_ranges}
use Rattle.sourcemap_source_views.proofs.sourceview.SourceView.line_count.Goals as goal

pub returns : goal.returns
returns c =
    c.count.ensures ∙ ap length c.self.invariant ∙ length-line_ranges (string_bytes c.self.inside.source)
    ∙ ap (λ text. length (line_bodies text)) c.self.view_is
