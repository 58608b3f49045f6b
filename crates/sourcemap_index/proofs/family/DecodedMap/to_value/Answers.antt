-- prover: explicit search
use Rattle.std.proofs.Common.{rules}
use Rattle.sourcemap_index.proofs.family.DecodedMap.to_value.Goals as goal

pub returns-clause-written : goal.returns-clause-written
returns-clause-written c = search rules

pub returns-clause-reads_back : goal.returns-clause-reads_back
returns-clause-reads_back c = search rules

pub returns-clause-memory : goal.returns-clause-memory
returns-clause-memory c = search rules
