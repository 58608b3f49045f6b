-- prover: wrong bodies refused fast
use Rattle.std.proofs.Common.{rules}
use Rattle.sourcemap_line_index.proofs.token_list.TokenList.with_table.Goals as goal

pub returns-in_err-samples : goal.returns-in_err-samples
returns-in_err-samples c = search rules

pub returns : goal.returns
returns c = search rules
