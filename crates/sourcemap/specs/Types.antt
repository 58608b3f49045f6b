-- A regular source map as contracts see it, and what it means.
pub use Rattle.sourcemap_map_parts.specs.Sources.{is_absolute_source, without_slash, resolved_against, resolved}
pub use Rattle.sourcemap_map_parts.specs.Contents.{fitted}
pub use Rattle.sourcemap_map_regular.specs.Map.{MapValue, resolved_sources, made_of, IsWellFormed, Meaning, source_of}
pub use Rattle.sourcemap_map_regular.specs.Map.{name_of, contents_of, distance, meaning_of, TokenValue, says, lookup}
pub use Rattle.sourcemap_map_regular.specs.Map.{meaning, MeansTheSame}
pub use Rattle.sourcemap_map_regular.specs.MapStored.{map_over}
