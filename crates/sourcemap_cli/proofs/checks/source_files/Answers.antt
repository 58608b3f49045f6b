use Rattle.std.proofs.Common.{◌≡◌, ◌∙◌, ap, arith, length, rules}
use Rattle.sourcemap_cli.proofs.ChecksLemmas.{BelowSoFar-none, BelowSoFar-more, BelowSoFar-all, unwrapped}
use Rattle.sourcemap_cli.proofs.checks.source_files.Goals as goal

pub loop-id-init : goal.loop-id-init
loop-id-init g c = BelowSoFar-none _ _ (search rules)

pub loop-id-preserved : goal.loop-id-preserved
loop-id-preserved g c =
    BelowSoFar-more c.args.map.now c.loop-id.files.items _ c.loop-id.id c.unwrap_or-source.result.now _
    c.loop-id.invariant
    (ap (λ x. x.now) c.unwrap_or-source.ensures ∙ unwrapped (λ x. x.now) c.get_source.result _ _ c.get_source.ensures)
    c.in_ok-source_file.ensures.below c.in_ok-push.ensures.items

pub returns-clause-below : goal.returns-clause-below
returns-clause-below g c =
    let whole : c.loop-id.id ≡ length c.args.map.now.sources =
    omega (arith, c.loop-id-test.false, c.loop-id.auto.id-end, c.get_source_count-id-end.ensures) in
    BelowSoFar-all _ _ _ c.loop-id.invariant whole
