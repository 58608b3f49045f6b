use Rattle.std.proofs.Common.{◌==◌, ◌∙◌, sym, arith, below_more}
use Rattle.std.specs.Prelude.{◌||◌}
use Rattle.std.proofs.lemmas.List.{take_all}
use Rattle.sourcemap_check_links.proofs.LinkLemmas.{before_first_is}
use Rattle.sourcemap_check_links.proofs.links.path_of.Goals as goal

pub loop-end-preserved : goal.loop-end-preserved
loop-end-preserved c = below_more _ _ c.loop-end.invariant (sym c.ends_path.ensures ∙ c.if-ends_path.false)

pub returns-then-ends_path : goal.returns-then-ends_path
returns-then-ends_path c =
    before_first_is (λ b. (b == 63) || (b == 35)) c.args.url.now c.loop-end.end (omega arith) c.loop-end.invariant
    (λ _. sym c.ends_path.ensures ∙ c.if-ends_path.true)

pub returns : goal.returns
returns c =
    sym (take_all c.loop-end.end c.args.url.now (omega arith))
    ∙ before_first_is (λ b. (b == 63) || (b == 35)) c.args.url.now c.loop-end.end (omega arith) c.loop-end.invariant
    (λ h. absurd (omega arith))
