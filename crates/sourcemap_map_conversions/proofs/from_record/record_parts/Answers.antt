use Rattle.sourcemap_records.proofs.JsontypesLemmas.{flat-tree}
use Rattle.std.proofs.Common.{rules}
use Rattle.sourcemap_map_conversions.proofs.from_record.record_parts.Goals as goal

pub returns : goal.returns
returns c = rw (flat-tree c.args.rsm) (search rules)
