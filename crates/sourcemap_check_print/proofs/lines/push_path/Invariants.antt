use Rattle.std.proofs.Common.{◌≡◌, ◌++◌, take, string_bytes}
use Rattle.sourcemap_check_print.specs.Lines.{path_text}
use Rattle.sourcemap_check_print.proofs.lines.push_path.Given as goal

abbrev pub invariant-loop-section : goal.invariant-loop-section
invariant-loop-section l =
    string_bytes l.text ≡ string_bytes l.initial.text ++ path_text (take l.section-index l.sections)
