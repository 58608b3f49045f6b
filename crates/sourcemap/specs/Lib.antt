pub use Rattle.sourcemap_errors.specs.Answer
pub use Rattle.sourcemap_errors.specs.Due
pub use Rattle.sourcemap_errors.specs.Errors
pub use Rattle.sourcemap_vlq.specs.Bits
pub use Rattle.sourcemap_vlq.specs.Vlq
pub use Rattle.sourcemap_interning.specs.Interner
pub use Rattle.sourcemap_tokens.specs.Items
pub use Rattle.sourcemap_tokens.specs.Search as Utils
pub use Rattle.sourcemap_tokens.specs.Tokens
pub use Rattle.sourcemap_compose.specs.Stretches
pub use Rattle.sourcemap_compose.specs.Composition
pub use Rattle.sourcemap_compose.specs.Moved
pub use Rattle.sourcemap_line_index.specs.LineIndex
pub mod Mappings
pub use Rattle.sourcemap_mappings.specs.Write as MappingsWritten
pub use Rattle.sourcemap_texts.specs.Paths
pub use Rattle.sourcemap_texts.specs.Prefixes
pub use Rattle.sourcemap_texts.specs.Texts
pub use Rattle.sourcemap_headers.specs.DataUrl
pub use Rattle.sourcemap_headers.specs.DebugId
pub use Rattle.sourcemap_headers.specs.Header
pub use Rattle.sourcemap_headers.specs.HeaderReader as StripHeaderReader
pub use Rattle.sourcemap_records.specs.Field as Fields
pub use Rattle.sourcemap_records.specs.Jsontypes
pub mod Types
pub use Rattle.sourcemap_map_regular.specs.Token
pub use Rattle.sourcemap_map_regular.specs.TokenOrder
pub use Rattle.sourcemap_map_regular.specs.Iterators
pub use Rattle.sourcemap_map_regular.specs.Lists
pub use Rattle.sourcemap_map_regular.specs.Adjust
pub mod Equality
pub mod RegularDecoder
pub mod Reading
pub mod Encoder
pub use Rattle.sourcemap_map_regular.specs.Write as Written
pub mod Rewrite
pub use Rattle.sourcemap_source_files.specs.Loading
pub use Rattle.sourcemap_builder.specs.Builder
pub use Rattle.sourcemap_hermes_scopes.specs.FunctionMap
pub use Rattle.sourcemap_hermes_scopes.specs.Offsets as ScopeOffsets
pub use Rattle.sourcemap_hermes_scopes.specs.Picks
pub use Rattle.sourcemap_hermes_scopes.specs.ScopeLists
pub use Rattle.sourcemap_hermes_scopes.specs.SourceScopes
pub use Rattle.sourcemap_hermes.specs.Map as Hermes
pub use Rattle.sourcemap_hermes.specs.Decode as HermesDecoder
pub use Rattle.sourcemap_hermes.specs.Encode as HermesEncoder
pub use Rattle.sourcemap_hermes.specs.Equality as HermesEquality
pub use Rattle.sourcemap_hermes.specs.Rewrite as HermesRewrite
pub use Rattle.sourcemap_hermes.specs.WithoutLoading as HermesWithoutLoading
pub mod Trees
pub use Rattle.sourcemap_index_model.specs.FlatList
pub use Rattle.sourcemap_index_model.specs.Flat
pub use Rattle.sourcemap_index_model.specs.Decode as TreeDecoder
pub use Rattle.sourcemap_index_model.specs.Encode as TreeEncoder
pub use Rattle.sourcemap_index_model.specs.Equality as TreeEquality
pub use Rattle.sourcemap_index_model.specs.Shift
pub use Rattle.sourcemap_index.specs.Decode as Decoder
pub mod AnyMap
pub use Rattle.sourcemap_index.specs.Equality as IndexEquality
pub use Rattle.sourcemap_index.specs.Index
pub use Rattle.sourcemap_index.specs.Names as FunctionNames
pub use Rattle.sourcemap_index.specs.Rows
pub use Rattle.sourcemap_index.specs.Section
pub use Rattle.sourcemap_source_views.specs.Columns
pub use Rattle.sourcemap_source_views.specs.Identifiers
pub use Rattle.sourcemap_source_views.specs.Lines
pub use Rattle.sourcemap_source_views.specs.Sourceview
pub use Rattle.sourcemap_source_views.specs.Views
pub use Rattle.sourcemap_source_views.specs.Walk
pub use Rattle.sourcemap_source_views.specs.Walks
pub use Rattle.sourcemap_map_regular.specs.Walk as TokenWalk
pub use Rattle.sourcemap_file_urls.specs.Places
pub use Rattle.sourcemap_file_urls.specs.RelativePaths
pub use Rattle.sourcemap_file_urls.specs.Urls
pub use Rattle.sourcemap_references.specs.Reference
pub use Rattle.sourcemap_references.specs.References
pub use Rattle.sourcemap_references.specs.Resolution
pub use Rattle.sourcemap_records.specs.Detection
pub use Rattle.sourcemap_index.specs.Embedded
pub use Rattle.sourcemap_bundles.specs.Bundle
pub use Rattle.sourcemap_bundles.specs.Folder as BundleFolder
pub use Rattle.sourcemap_bundles.specs.Iterators as BundleIterators
pub use Rattle.sourcemap_bundles.specs.Modules as BundleModules
pub use Rattle.sourcemap_bundles.specs.Stored as BundlesStored
pub use Rattle.sourcemap_bundle_split.specs.Iterators as SplitIterators
pub use Rattle.sourcemap_bundle_split.specs.ModuleMap
pub use Rattle.sourcemap_bundle_split.specs.Split
