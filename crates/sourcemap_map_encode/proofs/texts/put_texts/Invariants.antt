use Rattle.std.proofs.Common.{drop, map, string_bytes, Global}
use Rattle.serde_json.specs.Data.{string}
use Rattle.sourcemap_map_encode.specs.Buffered.{GrowsBy}
use Rattle.sourcemap_map_encode.proofs.ListLemmas.{IsListed}
use Rattle.sourcemap_map_encode.proofs.texts.put_texts.Given as goal

abbrev pub invariant-loop-text : goal.invariant-loop-text
invariant-loop-text g l =
    GrowsBy (IsListed (map string (map (string_bytes {Z = Global}) l.texts))
    (map string (map (string_bytes {Z = Global}) (drop l.text-index l.texts))) l.later)
    (g.W.Write.contents l.fn.writer) (string_bytes l.fn.buffer) (g.W.Write.contents l.writer) (string_bytes l.buffer)
