use Rattle.std.proofs.Common.{◌≡◌, ◌==◌, false, true, FitsSigned, arith, rules}
use Rattle.std.proofs.lemmas.List.{nil_from_length}
use Rattle.std.proofs.lemmas.Bool.Decides.{nat_tests}
use Rattle.std.proofs.lemmas.Int.{to_z-of_z}
use mir.Syntax.{w64}
use Rattle.sourcemap_mappings.specs.Segment.{comma}
use Rattle.sourcemap_mappings.proofs.SegmentLemmas.{read_none, read_more, HasFirstPart-last, HasFirstPart-comma}
use Rattle.sourcemap_mappings.proofs.SegmentLemmas.{HasPartError-from}
use Rattle.sourcemap_mappings.proofs.segment.any_part.Goals as goal

pub loop-first-init : goal.loop-first-init
loop-first-init c = read_none c.args.line.now

pub returns-then-first-eq44-clause-read : goal.returns-then-first-eq44-clause-read
returns-then-first-eq44-clause-read c =
    let so_far = c.loop-first.invariant in
    let is : (c.in-Some.first.now == comma) ≡ true = grind (arith, nat_tests) in
    HasFirstPart-comma _ _ c.in-Some.first.now c.in-Some.tail _ so_far.0 so_far.1 so_far.2 c.in-Some.ensures.cases.0 is

pub loop-first-preserved : goal.loop-first-preserved
loop-first-preserved c =
    let so_far = c.loop-first.invariant in
    let fits : FitsSigned w64 c.in-Ok.number = search rules in
    read_more _ _ _ c.in-Ok.number _ so_far.0 so_far.1 c.in-Ok.ensures.number
    (simp to_z-of_z at (c.add_number.ensures so_far.0.numbers so_far.2))

pub returns-in-Err-clause-error : goal.returns-in-Err-clause-error
returns-in-Err-clause-error c =
    let so_far = c.loop-first.invariant in
    let differs : (c.in-Some.first.now == comma) ≡ false = grind (arith, nat_tests) in
    rw c.error_in_part.ensures
    (HasPartError-from _ _ c.in-Some.first.now c.in-Some.tail.now so_far.0 c.in-Err.error so_far.1
    c.in-Some.ensures.cases.0 differs c.in-Err.ensures.error)

pub returns-clause-read : goal.returns-clause-read
returns-clause-read c =
    let so_far = c.loop-first.invariant in
    HasFirstPart-last _ _ _ so_far.0 so_far.1 so_far.2 (nil_from_length _ c.in_default.ensures.cases)
