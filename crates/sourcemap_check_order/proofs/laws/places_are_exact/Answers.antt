use Rattle.sourcemap_check_order.proofs.ExactLemmas.{IsBack-found, found_back}
use Rattle.sourcemap_check_order.proofs.laws.places_are_exact.Goals as goal

pub returns : goal.returns
returns c = λ text place. (IsBack-found text place, found_back text place)
