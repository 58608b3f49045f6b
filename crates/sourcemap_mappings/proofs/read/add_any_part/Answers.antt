use Rattle.std.proofs.Common.{◌<◌, arith}
use Rattle.std.proofs.lemmas.Result.{err_from_is_err_and}
use Rattle.sourcemap_errors.proofs.AnswerLemmas.{UnlessMemory-weaker}
use Rattle.sourcemap_mappings.proofs.ReadLemmas.{PartsError-here}
use Rattle.sourcemap_mappings.proofs.ReadTaken.{segment_read, taken}
use Rattle.sourcemap_mappings.proofs.read.add_any_part.Goals as goal

pub returns-in_err-add_token-clause-error : goal.returns-in_err-add_token-clause-error
returns-in_err-add_token-clause-error c = λ before here sums.
    let first = c.in_ok-read.ensures.read in
    let some : 0 < c.in_ok-read.read.count = let ne = c.if-read-eq0.false in grind (arith) in
    let read =
    segment_read _ _ _ first some _ _ c.add_steps-after.ensures.sums c.args.position.index before here sums in
    let p = err_from_is_err_and c.from_residual-in_err-add_token.result c.from_residual-in_err-add_token.ensures.1 in
    rw (p.1, p.2, first.split)
    (UnlessMemory-weaker c.in_err-add_token.field-0.0 (λ h. PartsError-here _ _ _ first.part _ _ h)
    (c.in_err-add_token.ensures.error before here first.part first.numbers read))

pub returns-clause-taken : goal.returns-clause-taken
returns-clause-taken c =
    let some : 0 < c.in_ok-read.read.count = let ne = c.if-read-eq0.false in grind (arith) in
    taken _ _ _ c.in_ok-read.ensures.read some _ _ c.add_steps-after.ensures.sums _ c.args.position c.args.bits.now _ _
    c.add_steps-after.ensures.rises c.in_ok-add_token.ensures.added c.in_ok-add_token.ensures.order
    c.in_ok-add_token.ensures.on_line
