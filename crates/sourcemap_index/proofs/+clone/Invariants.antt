use Rattle.std.proofs.Common.{◌≡◌, map, take}
use Rattle.sourcemap_index.specs.Family.{section_value}
use Rattle.sourcemap_index.proofs.+clone.Given as goal

abbrev pub invariant-clone::copy_sections-loop-section : goal.invariant-clone::copy_sections-loop-section
invariant-clone::copy_sections-loop-section l =
    map section_value l.copies.items ≡ map section_value (take l.section-index l.sections.items)
