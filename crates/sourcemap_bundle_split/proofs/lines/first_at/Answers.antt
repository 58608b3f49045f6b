use Rattle.std.proofs.Common.{rules}
use Rattle.std.proofs.lemmas.List.Sorted.{IsPartitionPoint-from_clause}
use Rattle.sourcemap_bundle_split.proofs.LinesLemmas.{before_first, not_before_later, parted, stands_before}
use Rattle.sourcemap_bundle_split.proofs.lines.first_at.Goals as goal

pub returns-clause-before : goal.returns-clause-before
returns-clause-before c = λ b same.
    let tokens = c.args.tokens.now in
    before_first tokens b c.partition_point.result c.partition_point.ensures.bound
    (IsPartitionPoint-from_clause (stands_before b) tokens _ c.partition_point.ensures.partitioned
    (parted tokens b c.requires) (λ a r q k. search rules))

pub returns-clause-from : goal.returns-clause-from
returns-clause-from c = λ b same.
    let tokens = c.args.tokens.now in
    not_before_later tokens b c.partition_point.result c.partition_point.ensures.bound
    (IsPartitionPoint-from_clause (stands_before b) tokens _ c.partition_point.ensures.partitioned
    (parted tokens b c.requires) (λ a r q k. search rules))
