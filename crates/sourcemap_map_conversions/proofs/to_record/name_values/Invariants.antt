use Rattle.std.proofs.Common.{◌≡◌, map, string_bytes}
use Rattle.serde_json.specs.Data.{string}
use Rattle.serde_json.specs.View.{view}
use Rattle.sourcemap_map_conversions.proofs.to_record.name_values.Given as goal

abbrev pub invariant-loop-name : goal.invariant-loop-name
invariant-loop-name l = map view l.values.items ≡ map string (map string_bytes l.yielded)
