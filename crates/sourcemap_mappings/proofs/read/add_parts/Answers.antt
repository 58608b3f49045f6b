use Rattle.std.proofs.Common.{arith}
use Rattle.std.proofs.lemmas.Result.{err_from_is_err_and}
use Rattle.sourcemap_mappings.specs.declared.segment.PartPosition.{PartPosition}
use Rattle.sourcemap_mappings.specs.SegmentSteps.{counts_of}
use Rattle.sourcemap_mappings.specs.ReadSteps.{TakesPart}
use Rattle.sourcemap_mappings.proofs.ReadLemmas.{PartsSoFar-error, AddsParts-all}
use Rattle.sourcemap_mappings.proofs.ReadTable.{adds_both}
use Rattle.sourcemap_mappings.proofs.ReadTaken.{PartsSoFar-taken, segment_read, taken}
use Rattle.sourcemap_mappings.proofs.read.add_parts.Goals as goal
use Rattle.sourcemap_mappings.proofs.read.add_parts.Goals.{in-Some+in_ok-add_token-in-Some, in-None+in_ok-taken-in-None}

pub returns-in_err-add_token-in-Some-clause-error : goal.returns-in_err-add_token-in-Some-clause-error
returns-in_err-add_token-in-Some-clause-error c = λ before sums.
    let first = c.in-Some.ensures.read in
    let so_far = rw first.split at (c.loop-read.invariant.so_far before sums) in
    let read = segment_read _ _ _ first c.in-Some.ensures.some _ _ c.add_steps-after.ensures.sums c.loop-read.index
    before so_far.here so_far.sums_after in
    let p = err_from_is_err_and c.from_residual.result c.from_residual.ensures.1 in
    rw (p.1, p.2)
    (PartsSoFar-error _ (record {
      line = c.args.line;
      index = c.loop-read.index;
    }) _ before _ first.part _ _ _ _ _ so_far
    (c.in_err-add_token-in-Some.ensures.error before so_far.here first.part first.numbers read))

pub returns-in_default : goal.returns-in_default
returns-in_default c =
    let position : PartPosition = record { line = c.args.line; index = c.loop-read.index } in
    let takes : TakesPart
    (counts_of c.args.limits) position c.args.bits.now c.loop-read.rest.now c.loop-read.sums c.match-usual_part.taken.0
    c.loop-read.tokens.items c.match-usual_part.tokens.items c.match-usual_part.taken.1 =
    elim c.match-usual_part.branch [
      | in-Some+in_ok-add_token-in-Some w ↦
          let added = w.in_ok-add_token-in-Some.ensures in
          rw (w.tokens-is, w.taken-is)
          (taken _ _ _ w.in-Some.ensures.read w.in-Some.ensures.some _ _ w.add_steps-after.ensures.sums _ position _ _ _
          w.add_steps-after.ensures.rises added.added added.order added.on_line)
      | in-None+in_ok-taken-in-None w ↦ rw (w.tokens-is, w.taken-is) w.in_ok-taken-in-None.ensures.taken
    ] in
    record {
      added = λ before sums.
          AddsParts-all _ _ _ _ before _ _ _ _
          (rw c.in_default.is at
          (PartsSoFar-taken _ position _ before _ _ _ _ _ _ _ _ (c.loop-read.invariant.so_far before sums) takes));
      error = λ before sums. tt;
      order = λ before. takes.order (c.loop-read.invariant.order before);
      on_line = adds_both c.args.line _ _ _ c.loop-read.invariant.on_line takes.on_line;
    }

pub loop-read-preserved : goal.loop-read-preserved
loop-read-preserved c =
    let position : PartPosition = record { line = c.args.line; index = c.loop-read.index } in
    let takes : TakesPart
    (counts_of c.args.limits) position c.args.bits.now c.loop-read.rest.now c.loop-read.sums c.match-usual_part.taken.0
    c.loop-read.tokens.items c.match-usual_part.tokens.items c.match-usual_part.taken.1 =
    elim c.match-usual_part.branch [
      | in-Some+in_ok-add_token-in-Some w ↦
          let added = w.in_ok-add_token-in-Some.ensures in
          rw (w.tokens-is, w.taken-is)
          (taken _ _ _ w.in-Some.ensures.read w.in-Some.ensures.some _ _ w.add_steps-after.ensures.sums _ position _ _ _
          w.add_steps-after.ensures.rises added.added added.order added.on_line)
      | in-None+in_ok-taken-in-None w ↦ rw (w.tokens-is, w.taken-is) w.in_ok-taken-in-None.ensures.taken
    ] in
    record {
      index_bound = let shorter = rw c.in-Some-1₀.is at takes.shorter in omega arith;
      so_far = λ before sums.
          rw c.in-Some-1₀.is at
          (PartsSoFar-taken _ position _ before _ _ _ _ _ _ _ _ (c.loop-read.invariant.so_far before sums) takes);
      order = λ before. takes.order (c.loop-read.invariant.order before);
      on_line = adds_both c.args.line _ _ _ c.loop-read.invariant.on_line takes.on_line;
    }
