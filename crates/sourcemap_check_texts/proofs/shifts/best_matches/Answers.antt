use Rattle.std.proofs.Common.{◌≡◌, ◌∙◌, arith, sym, length}
use Rattle.std.proofs.lemmas.List.{length-map}
use Rattle.sourcemap_check_texts.specs.Shifts.{landmark_value, landmark_values}
use Rattle.sourcemap_check_texts.specs.declared.shifts.TheConstants.{SHIFTS}
use Rattle.sourcemap_check_texts.proofs.ShiftLemmas.{BestSoFar-more, BestSoFar-all, matches_are, positive}
use Rattle.sourcemap_check_texts.proofs.shifts.best_matches.Goals as goal

pub loop-index-preserved : goal.loop-index-preserved
loop-index-preserved c =
    BestSoFar-more (landmark_values c.args.landmarks.now) c.loop-index.index c.count_matches.result
    c.shift_at-shift.result c.loop-index.best c.better-best.result c.loop-index.invariant c.shift_at-shift.ensures
    (c.count_matches.ensures ∙ matches_are c.args.landmarks.now c.shift_at-shift.result) c.better-best.ensures.taken
    c.better-best.ensures.kept c.better-best.ensures.counts

pub returns : goal.returns
returns c =
    let all : c.loop-index.index ≡ length SHIFTS = omega arith in
    let some = positive (length c.args.landmarks.now) (sym c.is_empty.ensures ∙ c.if-is_empty.false) in
    let long = length-map c.args.landmarks.now landmark_value in
    let looked = c.loop-index.invariant.looked_at in
    BestSoFar-all (landmark_values c.args.landmarks.now) c.loop-index.index c.loop-index.best c.loop-index.invariant all
    (omega arith)
