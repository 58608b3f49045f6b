use Rattle.std.proofs.Common.{◌≡◌, map, take, string_bytes}
use Rattle.sourcemap_texts.specs.Texts.{texts_of}
use Rattle.sourcemap_map_parts.specs.Sources.{resolved_against}
use Rattle.sourcemap_map_parts.proofs.sources.resolve_all.Given as goal

abbrev pub invariant-loop-source : goal.invariant-loop-source
invariant-loop-source l =
    texts_of l.all ≡ map (resolved_against l.root) (map string_bytes (take l.source-index l.sources))
