use Rattle.sourcemap_check_report.proofs.ReportLemmas.{counts_none}
use Rattle.sourcemap_check_report.proofs.report.Report.new.Goals as goal

pub returns : goal.returns
returns c = λ most. record { findings = c.new.ensures.items; counts = λ number. counts_none 41 number }
