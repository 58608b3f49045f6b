use Rattle.std.proofs.Common.{◌≡◌, codes, map, take}
use Rattle.std.specs.Prelude.{filter, not}
use Rattle.std.specs.Str.{bytes_eq}
use Rattle.sourcemap_texts.specs.Texts.{texts_of}
use Rattle.sourcemap_map_rewrite.proofs.cut_sources.plain_prefixes.Given as goal

abbrev pub invariant-loop-prefix : goal.invariant-loop-prefix
invariant-loop-prefix l = texts_of l.list
    ≡ filter (λ prefix. not (bytes_eq prefix (codes "~"))) (map (λ prefix. prefix.now) (take l.prefix-index l.prefixes))
