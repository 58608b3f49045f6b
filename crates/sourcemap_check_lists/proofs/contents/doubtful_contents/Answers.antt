use Rattle.sourcemap_check_lists.proofs.MarkLemmas.{marks_places}
use Rattle.sourcemap_check_lists.proofs.contents.doubtful_contents.Goals as goal

pub returns-clause-places : goal.returns-clause-places
returns-clause-places c =
    marks_places _ _ _ _ _ c.in_ok-marks.ensures.marks (rw c.as_slice.ensures.value at c.in_ok-places.ensures.places)
