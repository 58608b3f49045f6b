use Rattle.sourcemap_check_texts.proofs.ShiftLemmas.{shift_found}
use Rattle.sourcemap_check_texts.proofs.shifts.shift_at.Goals as goal

pub returns : goal.returns
returns c = shift_found c.args.index _ c.requires
