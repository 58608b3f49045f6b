-- `DecodedMap`, `SourceMapIndex` and `SourceMapSection` as contracts see them: `MapTree`, `IndexValue`, `MapSection`.
use Rattle.std.specs.Prelude.{map, option_map, string_bytes}
use Rattle.sourcemap_records.specs.Jsontypes.{text_view}
use Rattle.sourcemap_hermes.specs.Map.{hermes_value}
use Rattle.sourcemap_index_model.specs.MapTree.{regular, hermes, MapTree, leaf, MapSection, IndexParts, IndexValue, index_tree}
use Rattle.sourcemap_index.specs.declared.family.DecodedMap.{DecodedMap, DecodedMap-F, fold-DecodedMap}
use Rattle.sourcemap_index.specs.declared.family.DecodedMap.TheOpen.{Regular, Index, Hermes}
use Rattle.sourcemap_index.specs.declared.family.SourceMapIndex.{SourceMapIndex, SourceMapIndex-F, fold-SourceMapIndex}
use Rattle.sourcemap_index.specs.declared.family.SourceMapSection.{SourceMapSection, SourceMapSection-F, fold-SourceMapSection}

abbrev pub map_step : DecodedMap-F MapTree IndexValue MapSection → MapTree
map_step (Regular m) = leaf (regular m)
map_step (Index i) = index_tree i
map_step (Hermes h) = leaf (hermes (hermes_value h))

abbrev pub parts_view : {X Y Z : Type 0} → SourceMapIndex-F X Y Z → IndexParts
parts_view i = record {
  file = text_view i.file;
  debug_id = i.debug_id;
  x_facebook_offsets = option_map (λ v. v.items) i.x_facebook_offsets;
  x_metro_module_paths = option_map (λ v. map string_bytes v.items) i.x_metro_module_paths;
}

abbrev pub index_step : SourceMapIndex-F MapTree IndexValue MapSection → IndexValue
index_step i = record { parts = parts_view i; sections = i.sections.items }

abbrev pub section_step : SourceMapSection-F MapTree IndexValue MapSection → MapSection
section_step s = record {
  head = record { line = s.offset.0; column = s.offset.1; url = text_view s.url };
  map = option_map (λ b. b.value) s.map;
}

-- all that a map holds
abbrev pub map_tree : DecodedMap → MapTree
map_tree = fold-DecodedMap MapTree IndexValue MapSection map_step index_step section_step

-- all that an index map holds
abbrev pub index_value : SourceMapIndex → IndexValue
index_value = fold-SourceMapIndex MapTree IndexValue MapSection map_step index_step section_step

-- all that a section holds
abbrev pub section_value : SourceMapSection → MapSection
section_value = fold-SourceMapSection MapTree IndexValue MapSection map_step index_step section_step
