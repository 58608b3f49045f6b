-- All lines of a text decode, or a line is invalid, or memory ran out.
use Rattle.std.proofs.Common.{Any}
use Rattle.std.proofs.lemmas.Result.{err_from_is_err_and}
use Rattle.sourcemap_errors.proofs.AnswerLemmas.{UnlessMemory-weaker}
use Rattle.sourcemap_mappings.specs.Segment.{parts_of}
use Rattle.sourcemap_mappings.specs.ReadSteps.{lines_left}
use Rattle.sourcemap_hermes_scopes.specs.Offsets.{IsUnreadable}
use Rattle.sourcemap_hermes_scopes.proofs.OffsetsLemmas.{Any-here, Any-later, LinesSoFar-none, LinesSoFar-more}
use Rattle.sourcemap_hermes_scopes.proofs.OffsetsLemmas.{StandsFor-all}
use Rattle.sourcemap_hermes_scopes.proofs.offsets.read_offsets.Goals as goal

pub loop-lines-init : goal.loop-lines-init
loop-lines-init c = record {
  so_far = rw c.in_ok-offsets.ensures.items (LinesSoFar-none _);
  error = λ any. any;
}

pub returns-in_err-last-clause-error : goal.returns-in_err-last-clause-error
returns-in_err-last-clause-error c =
    let error = rw (c.in-Some.is, c.split_line.ensures.split) at c.loop-lines.invariant.error in
    let p = err_from_is_err_and c.from_residual-in_err-last.result c.from_residual-in_err-last.ensures.1 in
    let line = rw c.as_bytes.ensures.value at c.in_err-last.ensures.error in
    rw (p.1, p.2)
    (UnlessMemory-weaker c.in_err-last.field-0.0
    (λ any. error (Any-here (λ line. Any IsUnreadable (parts_of line)) c.split_line.result.0.now
    (lines_left c.split_line.result.1) any)) line)

pub loop-lines-preserved : goal.loop-lines-preserved
loop-lines-preserved c =
    let so_far = rw (c.in-Some.is, c.split_line.ensures.split) at c.loop-lines.invariant.so_far in
    let error = rw (c.in-Some.is, c.split_line.ensures.split) at c.loop-lines.invariant.error in
    record {
      so_far = LinesSoFar-more _ c.split_line.result.0.now _ _ _ _ _ so_far (rw c.as_bytes.ensures.value at
          (c.in_ok-last.ensures.added so_far.before so_far.is_last));
      error = λ any. error (Any-later (λ line. Any IsUnreadable (parts_of line)) c.split_line.result.0.now
          (lines_left c.split_line.result.1) any);
    }

pub returns-clause-read : goal.returns-clause-read
returns-clause-read c = StandsFor-all _ _ _ (rw c.in_default.is at c.loop-lines.invariant.so_far)
