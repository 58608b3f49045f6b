use Rattle.std.proofs.Common.{take}
use Rattle.sourcemap_map_rewrite.specs.KeptContents.{AreKept}
use Rattle.sourcemap_map_rewrite.proofs.KeptContentsLemmas.{AreLeft}
use Rattle.sourcemap_map_rewrite.proofs.kept_contents.kept_contents.Given as goal

abbrev pub invariant-loop-id : goal.invariant-loop-id
invariant-loop-id l = record {
  kept : AreKept l.numbers (take l.id-index l.order) l.initial.contents.items l.count l.kept.items;
  left : AreLeft l.numbers l.initial.contents.items l.contents.items l.kept.items;
}
