use Rattle.sourcemap_c_handles.proofs.ErrorsLemmas.{reports_positive}
use Rattle.sourcemap_c_handles.proofs.errors.finish.Goals as goal

pub returns-in-Err-clause-positive : goal.returns-in-Err-clause-positive
returns-in-Err-clause-positive c = λ _. reports_positive c.in-Err.failure c.report.result c.args.to.now c.report.new.to c.report.ensures
