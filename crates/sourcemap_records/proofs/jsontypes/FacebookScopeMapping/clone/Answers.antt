use Rattle.std.proofs.Common.{rules}
use Rattle.sourcemap_records.proofs.jsontypes.FacebookScopeMapping.clone.Goals as goal

pub returns : goal.returns
returns c = search rules
