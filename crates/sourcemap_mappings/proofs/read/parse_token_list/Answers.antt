use Rattle.std.proofs.Common.{◌≡◌, Err, arith, subst, sym}
use Rattle.std.proofs.lemmas.Result.{err_from_is_err_and, IfOk-weaker}
use Rattle.sourcemap_mappings.specs.Segment.{Counts}
use Rattle.sourcemap_mappings.specs.Read.{MappingsAnswer}
use Rattle.sourcemap_tokens.specs.Tokens.{AllWithin, in_order}
use Rattle.sourcemap_errors.proofs.AnswerLemmas.{UnlessMemory-weaker, Gives-only}
use Rattle.sourcemap_mappings.proofs.ReadAnswers.{MappingsAnswer-same, IsAnswer-sorted, AllWithin-sorted}
use Rattle.sourcemap_mappings.proofs.read.parse_token_list.Goals as goal

pub returns-in_err-read-clause-only : goal.returns-in_err-read-clause-only
returns-in_err-read-clause-only c = λ due is.
    let counts : Counts = record { sources = c.args.sources; names = c.args.names } in
    let p = err_from_is_err_and c.from_residual.result c.from_residual.ensures.1 in
    rw (p.1, p.2)
    (UnlessMemory-weaker c.in_err-read.field-0.0
    (λ h. MappingsAnswer-same c.args.mappings.now c.args.ranges.now counts due (Err c.in_err-read.field-0.0) is h)
    c.in_err-read.ensures.error)

pub returns-clause-answer : goal.returns-clause-answer
returns-clause-answer c =
    let counts : Counts = record { sources = c.args.sources; names = c.args.names } in
    let read = c.in_ok-read.ensures.read in
    IsAnswer-sorted c.args.mappings.now c.args.ranges.now counts c.in_ok-read.read.tokens.items read.0 read.1 read.2
    (λ v. v) c.token_list_of.result c.token_list_of.ensures.sorted c.token_list_of.ensures.memory

pub returns-clause-only : goal.returns-clause-only
returns-clause-only c =
    let counts : Counts = record { sources = c.args.sources; names = c.args.names } in
    let read = c.in_ok-read.ensures.read in
    Gives-only (λ v. v) (MappingsAnswer c.args.mappings.now c.args.ranges.now counts)
    (MappingsAnswer-same c.args.mappings.now c.args.ranges.now counts) c.token_list_of.result
    (IsAnswer-sorted c.args.mappings.now c.args.ranges.now counts c.in_ok-read.read.tokens.items read.0 read.1 read.2
    (λ v. v) c.token_list_of.result c.token_list_of.ensures.sorted
    c.token_list_of.ensures.memory)

pub returns-clause-within : goal.returns-clause-within
returns-clause-within c =
    let counts : Counts = record { sources = c.args.sources; names = c.args.names } in
    let read = c.in_ok-read.ensures.read in
    IfOk-weaker c.token_list_of.result (λ v. v ≡ in_order c.in_ok-read.read.tokens.items)
    (λ v. AllWithin c.args.sources c.args.names v)
    (λ v is. subst (AllWithin c.args.sources c.args.names) (sym is)
    (AllWithin-sorted c.args.mappings.now c.args.ranges.now counts c.in_ok-read.read.tokens.items read.0 read.1 read.2
    (omega arith))) c.token_list_of.ensures.sorted
