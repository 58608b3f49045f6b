use Rattle.std.proofs.Common.{◌≡◌, map, string_bytes, Some}
use Rattle.sourcemap_texts.specs.Texts.{contents_in}
use Rattle.sourcemap_map_conversions.proofs.to_record.source_texts.Given as goal

abbrev pub invariant-loop-source : goal.invariant-loop-source
invariant-loop-source l = contents_in l.texts ≡ map Some (map string_bytes l.yielded)
