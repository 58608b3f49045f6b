-- `debugId` wins over `debug_id`.
use Rattle.std.proofs.Common.{rules}
use Rattle.sourcemap_records.proofs.from_json.read_debug_id.Goals as goal

pub returns-clause-value : goal.returns-clause-value
returns-clause-value c = search rules
