use Rattle.std.proofs.Common.{subst, sym}
use Rattle.sourcemap_check_texts.specs.Checkpoints.{AreCheckpoints}
use Rattle.sourcemap_check_texts.proofs.CheckpointLemmas.{line_named}
use Rattle.sourcemap_check_texts.proofs.checkpoints.add_text.Goals.{in-Some+in_ok-add_line, in_default}
use Rattle.sourcemap_check_texts.proofs.checkpoints.add_text.Goals as goal

pub loop-number-preserved : goal.loop-number-preserved
loop-number-preserved c = λ m files all text.
    let before = c.loop-number.invariant m files all text in
    elim c.match-get_line.branch [
      | in-Some+in_ok-add_line w ↦
          subst (λ v. AreCheckpoints m files v.items) (sym w.found-is)
          (w.in_ok-add_line.ensures.added m files before
          (line_named m files c.args.source c.loop-number.number c.args.text.now w.in-Some.line.now text w.in-Some.ensures))
      | in_default w ↦ subst (λ v. AreCheckpoints m files v.items) (sym w.found-is) before
    ]
