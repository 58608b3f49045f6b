-- A decoded map, an index map and a section as contracts see them, and the JSON that a decoded map is written as.
pub use Rattle.sourcemap_index.specs.Family.{map_step, parts_view, index_step, section_step, map_tree, index_value}
pub use Rattle.sourcemap_index.specs.Family.{section_value}
pub use Rattle.sourcemap_index.specs.DecodedMap.{debug_id_of, leaf_with_debug_id, with_debug_id, IsValueOf, IsTextOf}
pub use Rattle.sourcemap_index.specs.DecodedMap.{levels, deepest, IsShallow}
-- The tokens that a lookup may find. What `flatten_and_rewrite` returns: the rewritten map or an error. The rewritten
-- map compared with the flat map (tokens and meanings of positions) and with the index map (meanings of positions).
pub use Rattle.sourcemap_index.specs.Lookup.{HasToken, AnyHasToken}
pub use Rattle.sourcemap_index.specs.Flatten.{RewriteAnswer, SaysFlatLess, MeansFlatLess, AnswersLess}
