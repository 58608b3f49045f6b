use Rattle.std.proofs.Common.{◌≡◌, ◌∙◌, ◌+◌, length, min, arith, rules, sym, eq-eqb}
use Rattle.std.specs.Char.{is_ascii_digit}
use Rattle.std.proofs.lemmas.List.{take_rest}
use Rattle.std.proofs.lemmas.List.Folds.{list_all_more}
use Rattle.sourcemap_trace.proofs.PositionsLemmas.{after_end, drop_least, next_value, no_digit, number_at_end, other_byte, others_more, too_large, too_small}
use Rattle.sourcemap_trace.proofs.positions.number_before.Goals as goal
use Rattle.sourcemap_trace.proofs.positions.number_before.Goals.{then-loop-index-test+else-bytes-index, else-loop-index-test}

pub returns-then-not-is_ascii_digit-clause-number : goal.returns-then-not-is_ascii_digit-clause-number
returns-then-not-is_ascii_digit-clause-number c =
    no_digit c.args.mark c.args.bytes.now c.loop-index.index c.loop-index.invariant.others c.loop-index-test.true
    (other_byte _ _ c.if-bytes-index.true) c.args.first (search rules)

pub returns-then-value-first-clause-number : goal.returns-then-value-first-clause-number
returns-then-value-first-clause-number c =
    too_large c.args.mark c.args.bytes.now c.loop-index.index c.loop-index.invariant.others c.loop-index-test.true
    (other_byte _ _ c.if-bytes-index.true) c.args.first c.loop-index.value c.from.result c.loop-index.invariant.value
    c.if-not-is_ascii_digit.ensures.cases c.from.ensures c.if-value-first.true

pub loop-index-preserved : goal.loop-index-preserved
loop-index-preserved c =
    let all = list_all_more is_ascii_digit c.args.bytes.now c.loop-index.index 0 c.loop-index-test.true in
    record {
      bound = omega (arith, c.loop-index-test.true);
      others =
          others_more c.args.mark c.args.bytes.now c.loop-index.index c.loop-index.invariant.others
          (other_byte _ _ c.if-bytes-index.true);
      digits = rw (all, c.loop-index.invariant.digits) (sym c.if-not-is_ascii_digit.ensures.value);
      value = next_value c.args.bytes.now c.loop-index.index c.loop-index.value c.from.result c.loop-index-test.true
          c.loop-index.invariant.value c.if-not-is_ascii_digit.ensures.cases c.from.ensures;
      within = c.if-value-first.false;
    }

pub returns-then-value-first-2-clause-number : goal.returns-then-value-first-2-clause-number
returns-then-value-first-2-clause-number c =
    too_small c.args.mark c.args.bytes.now c.loop-index.index c.loop-index.invariant.others c.args.first
    c.loop-index.value
    c.loop-index.invariant.bound
    (λ more. elim c.loop-index-test.branch [
      | then-loop-index-test+else-bytes-index w ↦ eq-eqb _ _ w.if-bytes-index.false
      | else-loop-index-test w ↦ absurd (omega (arith, w.loop-index-test.false))
    ])
    c.loop-index.invariant.value (search rules)

pub returns-clause-number : goal.returns-clause-number
returns-clause-number c =
    number_at_end c.args.mark c.args.bytes.now c.loop-index.index c.loop-index.invariant.others c.args.first
    c.loop-index.value c.loop-index.invariant.bound
    (λ more. elim c.loop-index-test.branch [
      | then-loop-index-test+else-bytes-index w ↦ eq-eqb _ _ w.if-bytes-index.false
      | else-loop-index-test w ↦ absurd (omega (arith, w.loop-index-test.false))
    ])
    (search rules) c.loop-index.invariant.digits c.loop-index.invariant.value (search rules)
    c.loop-index.invariant.within

pub returns-clause-after : goal.returns-clause-after
returns-clause-after c =
    let least : c.min.result ≡ min (c.loop-index.index + 1) (length c.args.bytes.now) = c.min.ensures in
    take_rest c.args.bytes.now c.min.result ∙ drop_least (c.loop-index.index + 1) c.args.bytes.now c.min.result least
    ∙ after_end c.args.mark c.args.bytes.now c.loop-index.index c.loop-index.invariant.others
    c.loop-index.invariant.bound
    (λ more. elim c.loop-index-test.branch [
      | then-loop-index-test+else-bytes-index w ↦ eq-eqb _ _ w.if-bytes-index.false
      | else-loop-index-test w ↦ absurd (omega (arith, w.loop-index-test.false))
    ])
