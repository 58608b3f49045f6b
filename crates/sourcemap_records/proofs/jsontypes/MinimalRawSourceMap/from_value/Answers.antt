-- Each flag says whether its key has a value other than null.
use Rattle.std.proofs.Common.{rules}
use Rattle.sourcemap_records.proofs.jsontypes.MinimalRawSourceMap.from_value.Goals as goal

pub returns : goal.returns
returns c = search rules
