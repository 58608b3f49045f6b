use Rattle.std.proofs.Common.{◌≡◌, take}
use Rattle.sourcemap_map_conversions.specs.FromRecord.{rising}
use Rattle.sourcemap_map_conversions.proofs.from_record.all_ids.Given as goal

abbrev pub invariant-loop-id : goal.invariant-loop-id
invariant-loop-id l = l.set.keys ≡ rising (take l.id-index l.ids)
