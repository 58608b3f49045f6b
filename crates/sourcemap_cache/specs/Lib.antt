pub mod Compile
pub mod Errors
pub mod Meaning
pub mod Scopes
pub mod Texts
pub use Rattle.sourcemap_compiled.specs.Blocks
pub use Rattle.sourcemap_compiled.specs.Errors as CompiledErrors
pub use Rattle.sourcemap_compiled.specs.Layout
pub use Rattle.sourcemap_compiled.specs.Lookup
pub use Rattle.sourcemap_compiled.specs.Numbers
pub use Rattle.sourcemap_compiled.specs.Soundness
pub use Rattle.sourcemap_compiled.specs.Stored
pub use Rattle.sourcemap_compiled.specs.Texts as CompiledTexts
pub use Rattle.sourcemap_compiled_write.specs.File
pub use Rattle.sourcemap_compiled_write.specs.Parts
pub use Rattle.sourcemap_index.specs.Family
pub use Rattle.sourcemap_index_model.specs.Flat
pub use Rattle.sourcemap_index_model.specs.FlatList
pub use Rattle.sourcemap_index_model.specs.MapTree
pub use Rattle.sourcemap_map_regular.specs.Map
pub use Rattle.sourcemap_tokens.specs.Tokens
