use Rattle.std.proofs.Common.{arith}
use Rattle.sourcemap_check_lists.proofs.ListLemmas.{source_count}
use Rattle.sourcemap_check_lists.proofs.lists.doubtful_marks.Goals as goal

pub returns-in-UnusedSource-clause-marks : goal.returns-in-UnusedSource-clause-marks
returns-in-UnusedSource-clause-marks c =
    let h = c.lists-lists.ensures.lists in
    rw c.in-UnusedSource.is
    (rw (h.tokens, c.get_source_count-sources.ensures) at c.unused_marks.ensures.marks)

pub returns-in-UnusedName-clause-marks : goal.returns-in-UnusedName-clause-marks
returns-in-UnusedName-clause-marks c =
    let h = c.lists-lists.ensures.lists in
    rw c.in-UnusedName.is
    (rw (h.tokens, c.get_name_count-names.ensures) at c.unused_marks-in-UnusedName.ensures.marks)

pub repeated_marks-requires : goal.repeated_marks-requires
repeated_marks-requires c =
    let n = source_count _ _ c.lists-lists.ensures.lists in omega (arith, n, c.get_source_count-sources.ensures)

pub returns-in-EqualSource-clause-marks : goal.returns-in-EqualSource-clause-marks
returns-in-EqualSource-clause-marks c =
    let h = c.lists-lists.ensures.lists in
    rw c.in-EqualSource.is (rw (h.sources, source_count _ _ h) at c.repeated_marks.ensures.marks)
