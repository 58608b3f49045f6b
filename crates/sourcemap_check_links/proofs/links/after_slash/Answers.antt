use Rattle.std.proofs.Common.{◌==◌, ◌-◌, ◌∙◌, sym, ap, get_or, arith, inl, inr}
use Rattle.std.proofs.lemmas.Bool.{cases_eq}
use Rattle.sourcemap_check_links.proofs.LinkLemmas.{after_last_is, tail_is}
use Rattle.sourcemap_check_links.proofs.links.after_slash.Goals as goal

pub loop-start-init : goal.loop-start-init
loop-start-init c = record { within = omega arith; after = λ k a b. absurd (omega arith) }

pub loop-start-preserved : goal.loop-start-preserved
loop-start-preserved c =
    let n = c.loop-start.start in
    let h = c.loop-start.invariant.within in
    record {
      within = omega arith;
      after = λ k a b. elim (cases_eq k (n - 1)) [
        | inl same ↦
            ap (λ i. get_or c.args.path.now i 0 == 47) same ∙ (sym c.is_slash.ensures ∙ c.if-is_slash.false)
        | inr apart ↦ c.loop-start.invariant.after k (omega arith) b
      ];
    }

pub returns-then-is_slash : goal.returns-then-is_slash
returns-then-is_slash c =
    tail_is c.args.path.now c.loop-start.start
    ∙ after_last_is c.args.path.now c.loop-start.start c.loop-start.invariant.within c.loop-start.invariant.after
    (λ _. sym c.is_slash.ensures ∙ c.if-is_slash.true)

pub returns : goal.returns
returns c =
    after_last_is c.args.path.now 0 (omega arith)
    (λ k a b. c.loop-start.invariant.after k (omega arith) b) (λ h. absurd (omega arith))
