use Rattle.std.proofs.Common.{◌≡◌, map, take}
use Rattle.sourcemap_records.specs.Jsontypes.{section}
use Rattle.sourcemap_records.proofs.copy.+copy.Given as goal

abbrev pub invariant-copy_section_list-loop-part : goal.invariant-copy_section_list-loop-part
invariant-copy_section_list-loop-part l = map section l.copies.items ≡ map section (take l.part-index l.sections.items)
