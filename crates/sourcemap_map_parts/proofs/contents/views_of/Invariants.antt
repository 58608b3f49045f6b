use Rattle.std.proofs.Common.{◌≡◌, map, option_map, string_bytes}
use Rattle.sourcemap_map_parts.proofs.contents.views_of.Given as goal

abbrev pub invariant-loop-text : goal.invariant-loop-text
invariant-loop-text l = l.views.items ≡ map (option_map string_bytes) l.yielded
