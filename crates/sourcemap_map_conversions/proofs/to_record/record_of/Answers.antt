-- prover: wrong bodies refused fast
use Rattle.std.proofs.Common.{rules}
use Rattle.sourcemap_map_conversions.proofs.to_record.record_of.Goals as goal

pub returns-clause-rising : goal.returns-clause-rising
returns-clause-rising c = search rules
