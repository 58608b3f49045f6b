use Rattle.std.proofs.Common.{◌≡◌, take}
use Rattle.sourcemap_texts.specs.Texts.{contents_in}
use Rattle.sourcemap_map_parts.proofs.contents.copy_view_texts.Given as goal

abbrev pub invariant-loop-view : goal.invariant-loop-view
invariant-loop-view l = contents_in l.texts ≡ take l.view-index l.views
