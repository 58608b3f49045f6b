use Rattle.std.proofs.Common.{◌≡◌}
use Rattle.sourcemap_texts.specs.Texts.{contents_in}
use Rattle.sourcemap_map_parts.proofs.contents.texts_of_views.Given as goal

abbrev pub invariant-loop-view : goal.invariant-loop-view
invariant-loop-view l = contents_in l.texts ≡ l.yielded
