use Rattle.std.proofs.Common.{map, take}
use Rattle.sourcemap_records.specs.Jsontypes.{section}
use Rattle.sourcemap_index.specs.Family.{section_value}
use Rattle.sourcemap_index.proofs.EncodeLemmas.{ArePairs}
use Rattle.sourcemap_index.proofs.encode.+encode.Given as goal

abbrev pub invariant-records_of-loop-part : goal.invariant-records_of-loop-part
invariant-records_of-loop-part l =
    ArePairs (map section_value (take l.part-index l.sections)) (map section l.records.items)
