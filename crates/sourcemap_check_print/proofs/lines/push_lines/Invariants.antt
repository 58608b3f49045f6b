use Rattle.std.proofs.Common.{◌≡◌, ◌++◌, flat_map, take, string_bytes}
use Rattle.sourcemap_check_print.specs.Lines.{entry_line}
use Rattle.sourcemap_check_print.proofs.lines.push_lines.Given as goal

abbrev pub invariant-loop-entry : goal.invariant-loop-entry
invariant-loop-entry l =
    string_bytes l.text
    ≡ string_bytes l.initial.text ++ flat_map (entry_line l.maps) (take l.entry-index l.entries)
