pub use Rattle.sourcemap_errors.specs.Answer
pub use Rattle.sourcemap_errors.specs.Due
pub use Rattle.sourcemap_errors.specs.Errors
pub use Rattle.sourcemap_vlq.specs.Bits
pub use Rattle.sourcemap_vlq.specs.Vlq
pub use Rattle.sourcemap_interning.specs.Interner
pub use Rattle.sourcemap_tokens.specs.Items
pub use Rattle.sourcemap_tokens.specs.Search
pub use Rattle.sourcemap_tokens.specs.Tokens
pub use Rattle.sourcemap_compose.specs.Stretches
pub use Rattle.sourcemap_compose.specs.Composition
pub use Rattle.sourcemap_compose.specs.Moved
pub use Rattle.sourcemap_line_index.specs.LineIndex
pub use Rattle.sourcemap_line_index.specs.Probe
pub use Rattle.sourcemap_line_index.specs.TokenList
pub use Rattle.sourcemap_mappings.specs.Segment
pub use Rattle.sourcemap_mappings.specs.Read as Mappings
pub use Rattle.sourcemap_mappings.specs.Write as MappingsWritten
pub use Rattle.sourcemap_texts.specs.Paths
pub use Rattle.sourcemap_file_urls.specs.Urls
pub use Rattle.sourcemap_file_urls.specs.Places
pub use Rattle.sourcemap_file_urls.specs.RelativePaths
pub use Rattle.sourcemap_source_views.specs.Columns
pub use Rattle.sourcemap_source_views.specs.Identifiers
pub use Rattle.sourcemap_source_views.specs.Lines
pub use Rattle.sourcemap_bundles.specs.Bundle
