use Rattle.std.proofs.Common.{◌∙◌, ap, map}
use Rattle.sourcemap_c_check.specs.Report.{finding_value, shown}
use Rattle.sourcemap_c_check.proofs.ReportLemmas.{one_made_more}
use Rattle.sourcemap_c_check.proofs.checks.push_findings.Goals as goal

pub loop-entry-preserved : goal.loop-entry-preserved
loop-entry-preserved c =
    ap (map finding_value) c.in_ok-push.ensures.items
    ∙ one_made_more finding_value (shown c.args.maps.now) (map finding_value c.args.made.now.items)
    c.loop-entry.made.items c.in_ok-one.one c.args.entries.now c.loop-entry.entry-index _ c.loop-entry-test.true
    c.loop-entry.invariant c.in_ok-one.ensures
