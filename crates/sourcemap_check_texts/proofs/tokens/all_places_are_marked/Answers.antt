use Rattle.sourcemap_check_texts.proofs.MarkedLemmas.{marked-exactly}
use Rattle.sourcemap_check_texts.proofs.tokens.all_places_are_marked.Goals as goal

pub returns : goal.returns
returns c = marked-exactly
