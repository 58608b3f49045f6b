-- The parts of a line append their offsets, or a part of the line is invalid, or memory ran out.
use Rattle.std.proofs.Common.{[], Any, subst, sym}
use Rattle.std.proofs.lemmas.Result.{err_from_is_err_and}
use Rattle.sourcemap_errors.proofs.AnswerLemmas.{UnlessMemory-from}
use Rattle.sourcemap_mappings.specs.Segment.{parts_of}
use Rattle.sourcemap_hermes_scopes.specs.Offsets.{IsUnreadable}
use Rattle.sourcemap_hermes_scopes.proofs.OffsetsLemmas.{Any-here, Any-later, PartsSoFar-more, AddsOffsets-all}
use Rattle.sourcemap_hermes_scopes.proofs.offsets.add_parts.Goals as goal

pub returns-in_err-read-clause-error : goal.returns-in_err-read-clause-error
returns-in_err-read-clause-error c =
    let digits = c.in_err-read.ensures.error in
    let p = err_from_is_err_and c.from_residual.result c.from_residual.ensures.1 in
    let here = subst (λ parts. Any IsUnreadable parts) (sym digits.split)
    (Any-here IsUnreadable digits.part digits.parts (digits.some, (c.in_err-read.field-0.0, digits.error))) in
    rw (p.1, p.2) (UnlessMemory-from c.in_err-read.field-0.0 (c.loop-read.invariant.error here))

pub returns-in_default-clause-added : goal.returns-in_default-clause-added
returns-in_default-clause-added c = λ before is.
    let first = c.in_ok-read.ensures.read in
    let so_far = rw (first.split, c.in_default.is) at (c.loop-read.invariant.so_far before is) in
    AddsOffsets-all before _ _ _ _
    (PartsSoFar-more before _ first.part [] _ _ _ _ _ so_far
    (c.in_ok-last.ensures.added before so_far.here first.part first.numbers so_far.is_last first.reads first.steps))

pub loop-read-preserved : goal.loop-read-preserved
loop-read-preserved c =
    let first = c.in_ok-read.ensures.read in
    let split = rw c.in-Some.is at first.split in
    record {
      so_far = λ before is.
          let so_far = rw split at (c.loop-read.invariant.so_far before is) in
          PartsSoFar-more before _ first.part _ _ _ _ _ _ so_far
          (c.in_ok-last.ensures.added before so_far.here first.part first.numbers so_far.is_last first.reads
          first.steps);
      error = λ later.
          c.loop-read.invariant.error
          (subst (λ parts. Any IsUnreadable parts) (sym split)
          (Any-later IsUnreadable first.part (parts_of c.in-Some.later.now) later));
    }
