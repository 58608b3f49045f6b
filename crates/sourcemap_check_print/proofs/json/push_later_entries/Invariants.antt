use Rattle.std.proofs.Common.{◌≡◌, ◌++◌, codes, flat_map, take, string_bytes}
use Rattle.sourcemap_check_print.specs.Json.{entry_json}
use Rattle.sourcemap_check_print.proofs.json.push_later_entries.Given as goal

abbrev pub invariant-loop-entry : goal.invariant-loop-entry
invariant-loop-entry l =
    string_bytes l.text
    ≡ string_bytes l.initial.text
    ++ flat_map (λ entry. codes "," ++ entry_json l.maps entry) (take l.entry-index l.entries)
