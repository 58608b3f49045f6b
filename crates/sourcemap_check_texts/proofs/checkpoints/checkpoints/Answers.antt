use Rattle.std.proofs.Common.{subst, sym}
use Rattle.std.specs.Option.{option_copied}
use Rattle.sourcemap_check_texts.specs.Checkpoints.{AreCheckpoints}
use Rattle.sourcemap_check_texts.proofs.checkpoints.checkpoints.Goals.{in-Some+in_ok-add_text, in_default}
use Rattle.sourcemap_check_texts.proofs.checkpoints.checkpoints.Goals as goal

pub loop-source-preserved : goal.loop-source-preserved
loop-source-preserved c =
    let m = c.args.map.now in
    let files = option_copied c.args.files in
    let before = c.loop-source.invariant in
    elim c.match-source_text.branch [
      | in-Some+in_ok-add_text w ↦
          subst (λ v. AreCheckpoints m files v.items) (sym w.found-is)
          (w.in_ok-add_text.ensures.added m files before (sym w.in-Some.ensures))
      | in_default w ↦ subst (λ v. AreCheckpoints m files v.items) (sym w.found-is) before
    ]
