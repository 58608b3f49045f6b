use Rattle.std.proofs.Common.{◌≡◌, drop, length, map}
use Rattle.std.specs.Cmp.Lexicographic.{pointwise}
use Rattle.sourcemap_index.specs.Equality.{same_section}
use Rattle.sourcemap_index.specs.Family.{section_value}
use Rattle.sourcemap_index.proofs.equality.+equality.Given as goal

abbrev pub invariant-are_same_lists-loop-section : goal.invariant-are_same_lists-loop-section
invariant-are_same_lists-loop-section l =
    pointwise same_section (map section_value (drop (length l.yielded) l.a))
    (map section_value (drop (length l.yielded) l.b))
    ≡ pointwise same_section (map section_value l.a) (map section_value l.b)
