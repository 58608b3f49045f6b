-- The record that a map is written as, and what is left of the map when the record is read back.
pub use Rattle.sourcemap_map_conversions.specs.ToRecord.{written_contents, written_ids}
pub use Rattle.sourcemap_map_regular.specs.Encode.{record_with, IsRecordOf, KeepsParts, Restores, ReadsBack}
pub use Rattle.sourcemap_map_regular.specs.Encode.{RecordAnswer}
