-- Equality of all that two maps hold.
pub use Rattle.sourcemap_line_index.specs.TokenList.{same_raw}
pub use Rattle.sourcemap_map_parts.specs.TextLists.{same_text}
pub use Rattle.sourcemap_map_regular.specs.Equality.{same_map, same_map_equiv}
