use Rattle.std.proofs.Common.{◌≡◌, ◌++◌, codes, flat_map, take, string_bytes}
use Rattle.std.specs.Fmt.{decimal}
use Rattle.sourcemap_check_print.proofs.json.push_later_sections.Given as goal

abbrev pub invariant-loop-section : goal.invariant-loop-section
invariant-loop-section l =
    string_bytes l.text
    ≡ string_bytes l.initial.text
    ++ flat_map (λ section. codes "," ++ decimal section) (take l.section-index l.sections)
