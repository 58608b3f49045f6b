use Rattle.std.proofs.Common.{◌≡◌, map}
use Rattle.sourcemap_records.specs.Jsontypes.{text_view}
use Rattle.sourcemap_texts.specs.Texts.{texts_of}
use Rattle.sourcemap_map_conversions.specs.FromRecord.{source_read}
use Rattle.sourcemap_map_conversions.proofs.from_record.all_sources.Given as goal

abbrev pub invariant-loop-source : goal.invariant-loop-source
invariant-loop-source l = texts_of l.texts ≡ map source_read (map text_view l.yielded)
