use Rattle.std.proofs.Common.{◌≤◌, ◌<◌, ◌++◌, arith, length, option_to_list, subst}
use Rattle.sourcemap_check_texts.specs.Shifts.{AreFirst}
use Rattle.sourcemap_check_texts.proofs.ShiftLemmas.{first_full, first_pushed}
use Rattle.sourcemap_check_texts.proofs.shifts.add_landmark.Goals as goal

pub returns-then-len-ge-MOST_LANDMARKS-clause-added : goal.returns-then-len-ge-MOST_LANDMARKS-clause-added
returns-then-len-ge-MOST_LANDMARKS-clause-added c = λ all first.
    let many : 10000 ≤ length c.args.found.now.items = omega (arith, c.len.ensures) in
    first_full 10000 all _ c.args.found.now.items first many

pub returns-clause-added : goal.returns-clause-added
returns-clause-added c = λ all first.
    let few : length c.args.found.now.items < 10000 = omega (arith, c.len.ensures) in
    subst (λ o. AreFirst 10000 (all ++ option_to_list o) c.push.new.self.items) c.in-Some.ensures
    (first_pushed 10000 all c.in-Some.landmark c.args.found.now.items c.push.new.self.items first few
    c.in_ok-push-in-Some.ensures.items)
