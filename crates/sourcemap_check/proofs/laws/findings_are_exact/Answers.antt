use Rattle.sourcemap_check.proofs.ExactLemmas.{exact_from, exact_to}
use Rattle.sourcemap_check.proofs.laws.findings_are_exact.Goals as goal

pub returns : goal.returns
returns c = λ d finding is. (exact_from d finding is, exact_to d finding is)
