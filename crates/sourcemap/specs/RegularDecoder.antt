-- The regular map that a record decodes to, or the error of decoding.
pub use Rattle.sourcemap_map_conversions.specs.FromRecord.{list_or_empty, number_read, name_read, file_read}
pub use Rattle.sourcemap_map_conversions.specs.FromRecord.{source_read, rising, HasFewItems, TokensAnswer}
pub use Rattle.sourcemap_map_regular.specs.Decode.{map_of, RecordDecodes}
