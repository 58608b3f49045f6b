-- The lines that an iterator over a view has not yet returned.
use Rattle.std.specs.Prelude.{ℕ, List, drop, take}
use Rattle.sourcemap_source_views.specs.Lines.{line_bodies}
use Rattle.sourcemap_source_views.specs.declared.sourceview.Lines.{Lines}

-- the lines that the iterator has not returned yet, among the first 4294967296 lines of the view
abbrev pub lines_left : Lines → List (List ℕ)
lines_left it = drop it.next (take 4294967296 (line_bodies it.view.now))
