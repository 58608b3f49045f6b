use Rattle.std.proofs.Common.{◌∙◌, sym}
use Rattle.sourcemap_source_views.proofs.ColumnsLemmas.{offset-start}
use Rattle.sourcemap_check_texts.proofs.CheckpointLemmas.{checkpoint_found}
use Rattle.sourcemap_check_texts.proofs.checkpoints.start_near.Goals as goal

pub returns-in-Some : goal.returns-in-Some
returns-in-Some c = λ m files line utf8 all named.
    checkpoint_found m files c.args.checkpoints.now c.partition_point-before.result _ c.in-Some.checkpoint.now c.args.token
    line all c.in-Some.ensures.value (sym c.is_on_line.ensures ∙ c.if-is_on_line.true) named

pub returns-in_default : goal.returns-in_default
returns-in_default c = λ m files line utf8 all named. offset-start line utf8

pub returns-in_default-2 : goal.returns-in_default-2
returns-in_default-2 c = λ m files line utf8 all named. offset-start line utf8
