-- Rewriting of a regular map: the options, the rewritten map or the error, and the contents that are read from files.
-- The meaning of each generated position in the rewritten map, compared with its meaning in the old map.
pub use Rattle.sourcemap_map_rewrite.specs.Options.{Removal, removal_of, options_folder, IsDefault, no_removal}
pub use Rattle.sourcemap_map_rewrite.specs.Loaded.{AreLoaded, LacksFolder}
pub use Rattle.sourcemap_source_files.specs.Loading.{folder_of, file_of, Fills, IsNoFolder}
pub use Rattle.sourcemap_map_rewrite.specs.Kept.{present, kept_once, number_in}
pub use Rattle.sourcemap_map_rewrite.specs.CutSources.{common_if, all_prefixes}
pub use Rattle.sourcemap_map_regular.specs.Rewrite.{used_sources, used_names, first_ids, kept_names, contents_if}
pub use Rattle.sourcemap_map_regular.specs.Rewrite.{contents_for, cuts, renumbered, rewritten, SameButContents}
pub use Rattle.sourcemap_map_regular.specs.Rewrite.{contents_before, IsLoaded, Rewrites, without_removed, LeavesMeaning}
pub use Rattle.sourcemap_map_regular.specs.Rewrite.{MeansLess, token_meanings, TokensMeanLess, IsFinal}
pub use Rattle.sourcemap_map_regular.specs.WithoutLoading.{without_loading, lacks_none, Gives-rewritten}
