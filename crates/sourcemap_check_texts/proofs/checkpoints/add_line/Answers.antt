use Rattle.std.proofs.Common.{arith}
use Rattle.sourcemap_source_views.proofs.ColumnsLemmas.{offset-few, offset-start}
use Rattle.sourcemap_check_texts.proofs.CheckpointLemmas.{checkpoint_added}
use Rattle.sourcemap_check_texts.proofs.checkpoints.add_line.Goals as goal

pub loop-at-init : goal.loop-at-init
loop-at-init c = record { from = offset-start c.args.line.now c.utf8.line; are = λ m files all named. all }

pub loop-at-smaller : goal.loop-at-smaller
loop-at-smaller c =
    let at = c.in-Some.ensures.offset in
    let few = offset-few c.args.line.now c.in-Some.at.offset c.in-Some.at.units c.utf8.line at in
    let inside = at.0.0 in
    let ahead = c.in-Some.ensures.ahead in
    omega (arith, few, inside, ahead)

pub loop-at-preserved : goal.loop-at-preserved
loop-at-preserved c = record {
  from = c.in-Some.ensures.offset;
  are = λ m files all named.
      checkpoint_added m files c.args.line.now c.loop-at.found.items c.push.new.self.items _
      (c.loop-at.invariant.are m files all named) named c.in-Some.ensures.offset c.in_ok-push.ensures.items;
}
