-- The text of `mappings` and the tokens that it encodes.
pub use Rattle.sourcemap_mappings.specs.Segment.{Counts, Segment, step, sum_at, has_number, field, token_of, is_size}
pub use Rattle.sourcemap_mappings.specs.Segment.{segment_error, parts_of}
pub use Rattle.sourcemap_mappings.specs.Read.{Line, line_tokens, tokens_of_lines, PartRead, PartError, PartsRead}
pub use Rattle.sourcemap_mappings.specs.Read.{PartsError, LineText, LineRead, LineError, LinesRead, LinesError}
pub use Rattle.sourcemap_mappings.specs.Read.{with_range_bits, line_texts, MappingsAnswer}
