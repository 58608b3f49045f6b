use Rattle.std.proofs.Common.{◌≡◌, ◌++◌, map, take, drop, string_bytes}
use Rattle.sourcemap_texts.specs.Prefixes.{without_prefix}
use Rattle.sourcemap_map_rewrite.proofs.cut_sources.cut_all.Given as goal

abbrev pub invariant-loop-text : goal.invariant-loop-text
invariant-loop-text l = map string_bytes l.texts
    ≡ map (without_prefix (map string_bytes l.prefixes)) (take l.text-index (map string_bytes l.fn.texts))
    ++ drop l.text-index (map string_bytes l.fn.texts)
