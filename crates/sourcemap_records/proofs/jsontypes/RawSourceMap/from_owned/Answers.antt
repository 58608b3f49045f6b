-- Unless memory runs out, `from_owned` returns the record of the value, or `BadJson(Shape)` if the value is not a
-- record.
use Rattle.std.proofs.Common.{rules}
use Rattle.sourcemap_records.proofs.jsontypes.RawSourceMap.from_owned.Goals as goal

pub returns : goal.returns
returns c = search rules
