use Rattle.std.proofs.Common.{◌≡◌, false, codes, map, take}
use Rattle.std.specs.List.{list_any}
use Rattle.std.specs.Str.{bytes_eq}
use Rattle.sourcemap_map_rewrite.proofs.cut_sources.contains_marker.Given as goal

abbrev pub invariant-loop-prefix : goal.invariant-loop-prefix
invariant-loop-prefix l = list_any (λ prefix. bytes_eq prefix (codes "~")) (map (λ prefix. prefix.now)
    (take l.prefix-index l.prefixes)) ≡ false
