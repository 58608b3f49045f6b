use Rattle.sourcemap_c.proofs.CodesLemmas.{weaker_put}
use Rattle.sourcemap_c.proofs.opening.open_text.Goals as goal

pub returns-in-Ok : goal.returns-in-Ok
returns-in-Ok c = weaker_put c.put_map.result _ _ _ _ (λ is. (_, is, c.in-Ok.ensures.answer, c.in-Ok.ensures.well_formed)) c.put_map.ensures
