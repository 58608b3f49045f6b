-- The rules of ECMA-426 on one section of an index map.
use Rattle.std.specs.Prelude.{◌&&◌, Bool, not, codes, false}
use Rattle.std.specs.Option.{option_map_or}
use Rattle.serde_json.specs.Data.{Data}
use Rattle.serde_json.specs.Find.{get}
use Rattle.sourcemap_check_keys.specs.Values.{has, fails, passes}
use Rattle.sourcemap_check_keys.specs.declared.values.Test.TheVariants.{Object, Position}
use Rattle.sourcemap_check_report.specs.declared.rules.SectionRule.{SectionRule}
use Rattle.sourcemap_check_report.specs.declared.rules.SectionRule.TheVariants.{SectionType, OffsetMissing}
use Rattle.sourcemap_check_report.specs.declared.rules.SectionRule.TheVariants.{OffsetType, LineMissing, LineType}
use Rattle.sourcemap_check_report.specs.declared.rules.SectionRule.TheVariants.{ColumnMissing, ColumnType}
use Rattle.sourcemap_check_report.specs.declared.rules.SectionRule.TheVariants.{MapMissing, MapType}

-- the offset of a section is an object that breaks a rule
abbrev pub in_offset : (Data → Bool) → Data → Bool
in_offset test s = option_map_or (λ o. passes Object o && test o) (get (codes "offset") s) false

-- a section breaks a rule. Of a section that is no object only this is said
abbrev pub breaks : SectionRule → Data → Bool
breaks SectionType s = not (passes Object s)
breaks OffsetMissing s = passes Object s && not (has (codes "offset") s)
breaks OffsetType s = fails Object (codes "offset") s
breaks LineMissing s = in_offset (λ o. not (has (codes "line") o)) s
breaks LineType s = in_offset (λ o. fails Position (codes "line") o) s
breaks ColumnMissing s = in_offset (λ o. not (has (codes "column") o)) s
breaks ColumnType s = in_offset (λ o. fails Position (codes "column") o) s
breaks MapMissing s = passes Object s && not (has (codes "map") s)
breaks MapType s = fails Object (codes "map") s
