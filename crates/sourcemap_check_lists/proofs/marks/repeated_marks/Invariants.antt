use Rattle.std.proofs.Common.{map, string_bytes}
use Rattle.sourcemap_check_lists.proofs.RepeatLemmas.{RepeatedSoFar}
use Rattle.sourcemap_check_lists.proofs.marks.repeated_marks.Given as goal

abbrev pub invariant-loop-text : goal.invariant-loop-text
invariant-loop-text l = RepeatedSoFar (map string_bytes l.texts) l.text-index l.index l.marks.items
