use Rattle.sourcemap_c.proofs.OpeningLemmas.{no_url}
use Rattle.sourcemap_c.proofs.opening.open_url.Goals as goal

pub returns-in-Ok : goal.returns-in-Ok
returns-in-Ok c = no_url c.open_text.result c.in-Ok.url.now c.args.url.now _ _ c.in-Ok.ensures.0 c.in-Ok.ensures.1 c.open_text.ensures
