use Rattle.sourcemap_compose.proofs.MovedLemmas.{moved_as_before}
use Rattle.sourcemap_compose.proofs.moved.moved_positions_answer_as_before.Goals as goal

pub returns : goal.returns
returns c = moved_as_before
