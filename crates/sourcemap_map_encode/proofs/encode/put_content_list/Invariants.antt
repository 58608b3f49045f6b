use Rattle.std.proofs.Common.{drop, map, string_bytes}
use Rattle.std.specs.List.{AllByRecursion}
use Rattle.serde_json.specs.Data.{string}
use Rattle.sourcemap_map_parts.specs.Contents.{fitted}
use Rattle.sourcemap_records.specs.Field.{written_or_null}
use Rattle.sourcemap_map_encode.specs.Buffered.{GrowsBy}
use Rattle.sourcemap_map_encode.proofs.ListLemmas.{IsListed}
use Rattle.sourcemap_map_encode.proofs.MemberLemmas.{IsPlainContent}
use Rattle.sourcemap_map_encode.proofs.encode.put_content_list.Given as goal

abbrev pub invariant-loop-id : goal.invariant-loop-id
invariant-loop-id g l = record {
  listed : GrowsBy (IsListed (map (written_or_null string) (fitted l.count l.contents))
      (map (written_or_null string) (drop l.id (fitted l.count l.contents))) l.later)
      (g.W.Write.contents l.fn.writer) (string_bytes l.fn.buffer) (g.W.Write.contents l.writer) (string_bytes l.buffer);
  each : AllByRecursion IsPlainContent (drop l.id (fitted l.count l.contents))
      → AllByRecursion IsPlainContent (fitted l.count l.contents);
}
