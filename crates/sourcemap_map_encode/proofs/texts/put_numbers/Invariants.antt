use Rattle.std.proofs.Common.{drop, take, map, string_bytes}
use Rattle.std.specs.List.{AllByRecursion}
use Rattle.sourcemap_records.specs.Field.{written_number}
use Rattle.sourcemap_records.specs.Jsontypes.{FitsU32}
use Rattle.sourcemap_map_encode.specs.Buffered.{GrowsBy}
use Rattle.sourcemap_map_encode.proofs.ListLemmas.{IsListed}
use Rattle.sourcemap_map_encode.proofs.texts.put_numbers.Given as goal

abbrev pub invariant-loop-number : goal.invariant-loop-number
invariant-loop-number g l = record {
  listed : GrowsBy
      (IsListed (map written_number l.numbers) (map written_number (drop l.number-index l.numbers)) l.later)
      (g.W.Write.contents l.fn.writer) (string_bytes l.fn.buffer) (g.W.Write.contents l.writer) (string_bytes l.buffer);
  small : AllByRecursion FitsU32 (take l.number-index l.numbers);
}
