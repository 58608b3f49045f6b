use Rattle.sourcemap_check_segments.proofs.ExactLemmas.{IsBrokenRule-found, found_broken}
use Rattle.sourcemap_check_segments.proofs.laws.findings_are_exact.Goals as goal

pub returns : goal.returns
returns c = λ counts own text finding. (IsBrokenRule-found counts own text finding, found_broken counts own text finding)
