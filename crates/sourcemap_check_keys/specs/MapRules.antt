-- The rules of ECMA-426 on the keys of a map. An index map is one with `sections`. Of its keys only `version`, `file`
-- and
-- `sections` are looked at, and that it has no `mappings`.
use Rattle.std.specs.Prelude.{◌&&◌, Bool, not, codes}
use Rattle.serde_json.specs.Data.{Data}
use Rattle.sourcemap_check_keys.specs.Values.{has, fails, list_fails, list_has, count_at}
use Rattle.sourcemap_check_keys.specs.declared.values.Test.TheVariants.{Text, TextOrNull, Number, Whole, Three}
use Rattle.sourcemap_check_keys.specs.declared.values.Test.TheVariants.{BelowZero}
use Rattle.sourcemap_check_keys.specs.declared.values.Test.TheVariants.{AtLeast, Array}
use Rattle.sourcemap_check_report.specs.declared.rules.MapRule.{MapRule}
use Rattle.sourcemap_check_report.specs.declared.rules.MapRule.TheVariants.{VersionMissing, VersionType, VersionValue}
use Rattle.sourcemap_check_report.specs.declared.rules.MapRule.TheVariants.{FileType, SourceRootType, SourcesMissing}
use Rattle.sourcemap_check_report.specs.declared.rules.MapRule.TheVariants.{SourcesType, SourcesContentType, NamesType}
use Rattle.sourcemap_check_report.specs.declared.rules.MapRule.TheVariants.{IgnoreListType, IgnoreListBelowZero}
use Rattle.sourcemap_check_report.specs.declared.rules.MapRule.TheVariants.{IgnoreListPastSources, MappingsMissing}
use Rattle.sourcemap_check_report.specs.declared.rules.MapRule.TheVariants.{MappingsType, MappingsInIndex, SectionsType}

abbrev pub is_index : Data → Bool
is_index m = has (codes "sections") m

-- a map, which is an object, breaks a rule
abbrev pub breaks : MapRule → Data → Bool
breaks VersionMissing m = not (has (codes "version") m)
breaks VersionType m = fails Number (codes "version") m
breaks VersionValue m = fails Three (codes "version") m && not (fails Number (codes "version") m)
breaks FileType m = fails Text (codes "file") m
breaks SourceRootType m = not (is_index m) && fails Text (codes "sourceRoot") m
breaks SourcesMissing m = not (is_index m) && not (has (codes "sources") m)
breaks SourcesType m = not (is_index m) && list_fails TextOrNull (codes "sources") m
breaks SourcesContentType m = not (is_index m) && list_fails TextOrNull (codes "sourcesContent") m
breaks NamesType m = not (is_index m) && list_fails Text (codes "names") m
breaks IgnoreListType m = not (is_index m) && list_fails Whole (codes "ignoreList") m
breaks IgnoreListBelowZero m = not (is_index m) && list_has BelowZero (codes "ignoreList") m
breaks IgnoreListPastSources m =
    not (is_index m) && list_has (AtLeast (count_at (codes "sources") m)) (codes "ignoreList") m
breaks MappingsMissing m = not (is_index m) && not (has (codes "mappings") m)
breaks MappingsType m = not (is_index m) && fails Text (codes "mappings") m
breaks MappingsInIndex m = is_index m && has (codes "mappings") m
breaks SectionsType m = fails Array (codes "sections") m
