use Rattle.std.proofs.Common.{◌≡◌, ◌++◌, map, take, drop, string_bytes}
use Rattle.sourcemap_map_rewrite.specs.Numbering.{IsNumbering, AreSeen, numbered_with}
use Rattle.sourcemap_map_rewrite.proofs.renumbering.renumber_each.Given as goal

abbrev pub invariant-loop-token : goal.invariant-loop-token
invariant-loop-token l = record {
  seen : AreSeen (map string_bytes l.sources) (map string_bytes l.names)
      (take l.token-index l.fn.tokens) l.source_numbers.seen l.name_numbers.seen;
  tokens : l.tokens ≡ map (numbered_with (map string_bytes l.sources) (map string_bytes l.names) l.source_numbers.seen
      l.name_numbers.seen) (take l.token-index l.fn.tokens) ++ drop l.token-index l.fn.tokens;
  sources : IsNumbering (map string_bytes l.sources) l.source_numbers;
  names : IsNumbering (map string_bytes l.names) l.name_numbers;
}
