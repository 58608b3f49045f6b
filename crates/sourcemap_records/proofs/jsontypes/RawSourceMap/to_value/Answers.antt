-- The JSON value of the copy is the JSON value of the record.
use Rattle.std.proofs.Common.{rules}
use Rattle.sourcemap_records.proofs.jsontypes.RawSourceMap.to_value.Goals as goal

pub returns-clause-value : goal.returns-clause-value
returns-clause-value c = search rules
