-- prover: wrong bodies refused fast
use Rattle.std.proofs.Common.{rules}
use Rattle.sourcemap_json_write.proofs.writing.value_to_string.Goals as goal

pub returns-in_err-bytes-clause-text : goal.returns-in_err-bytes-clause-text
returns-in_err-bytes-clause-text c = search rules

pub returns-in_err-bytes-clause-reads_back : goal.returns-in_err-bytes-clause-reads_back
returns-in_err-bytes-clause-reads_back c = search rules

pub returns-clause-text : goal.returns-clause-text
returns-clause-text c = search rules

pub returns-clause-reads_back : goal.returns-clause-reads_back
returns-clause-reads_back c = search rules
