use Rattle.std.proofs.Common.{◌≡◌, map, take}
use Rattle.sourcemap_tokens.specs.Items.{item_at}
use Rattle.sourcemap_bundle_split.proofs.module_maps.contents_at.Given as goal

abbrev pub invariant-loop-id : goal.invariant-loop-id
invariant-loop-id l = l.copies.items ≡ map (item_at l.contents) (take l.id-index l.ids)
