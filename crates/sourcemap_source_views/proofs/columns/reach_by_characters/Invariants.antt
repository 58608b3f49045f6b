use Rattle.std.specs.Str.Iter.{chars_rest}
use Rattle.sourcemap_source_views.proofs.ColumnsLemmas.{Walked}
use Rattle.sourcemap_source_views.proofs.columns.reach_by_characters.Given as goal

abbrev pub invariant-loop-units : goal.invariant-loop-units
invariant-loop-units l = Walked l.line l.col (chars_rest l.rest) l.units
