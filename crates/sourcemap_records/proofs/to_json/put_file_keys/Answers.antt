-- `put_file_keys` puts the four keys one after another, as `put_all` does.
use Rattle.std.proofs.Common.{rules}
use Rattle.sourcemap_records.proofs.to_json.put_file_keys.Goals as goal

pub returns-clause-ok : goal.returns-clause-ok
returns-clause-ok c = search rules
