-- The number of each rule. Its code is `SM` and this number plus 101.
use Rattle.std.specs.Prelude.{ℕ}
use Rattle.sourcemap_check_report.specs.declared.rules.MapRule.{MapRule}
use Rattle.sourcemap_check_report.specs.declared.rules.MapRule.TheVariants.{VersionMissing, VersionType, VersionValue}
use Rattle.sourcemap_check_report.specs.declared.rules.MapRule.TheVariants.{FileType}
use Rattle.sourcemap_check_report.specs.declared.rules.MapRule.TheVariants.{SourceRootType, SourcesMissing, SourcesType}
use Rattle.sourcemap_check_report.specs.declared.rules.MapRule.TheVariants.{SourcesContentType}
use Rattle.sourcemap_check_report.specs.declared.rules.MapRule.TheVariants.{NamesType, IgnoreListType}
use Rattle.sourcemap_check_report.specs.declared.rules.MapRule.TheVariants.{IgnoreListBelowZero, IgnoreListPastSources}
use Rattle.sourcemap_check_report.specs.declared.rules.MapRule.TheVariants.{MappingsMissing, MappingsType}
use Rattle.sourcemap_check_report.specs.declared.rules.MapRule.TheVariants.{MappingsInIndex, SectionsType}
use Rattle.sourcemap_check_report.specs.declared.rules.SectionRule.{SectionRule}
use Rattle.sourcemap_check_report.specs.declared.rules.SectionRule.TheVariants.{SectionType, OffsetMissing, OffsetType}
use Rattle.sourcemap_check_report.specs.declared.rules.SectionRule.TheVariants.{LineMissing}
use Rattle.sourcemap_check_report.specs.declared.rules.SectionRule.TheVariants.{LineType, ColumnMissing, ColumnType}
use Rattle.sourcemap_check_report.specs.declared.rules.SectionRule.TheVariants.{MapMissing}
use Rattle.sourcemap_check_report.specs.declared.rules.SectionRule.TheVariants.{MapType}
use Rattle.sourcemap_check_report.specs.declared.rules.SegmentRule.{SegmentRule}
use Rattle.sourcemap_check_report.specs.declared.rules.SegmentRule.TheVariants.{ForeignByte, CutNumber, FieldCount}
use Rattle.sourcemap_check_report.specs.declared.rules.SegmentRule.TheVariants.{LargeNumber}
use Rattle.sourcemap_check_report.specs.declared.rules.SegmentRule.TheVariants.{ColumnBelowZero, SourceBelowZero}
use Rattle.sourcemap_check_report.specs.declared.rules.SegmentRule.TheVariants.{LineBelowZero, SourceColumnBelowZero}
use Rattle.sourcemap_check_report.specs.declared.rules.SegmentRule.TheVariants.{NameBelowZero, SourcePastList}
use Rattle.sourcemap_check_report.specs.declared.rules.SegmentRule.TheVariants.{NamePastList}
use Rattle.sourcemap_check_report.specs.declared.rules.Rule.{Rule}
use Rattle.sourcemap_check_report.specs.declared.rules.Rule.TheVariants.{NotJson, NotObject, Map, OutOfOrder, Overlap}
use Rattle.sourcemap_check_report.specs.declared.rules.Rule.TheVariants.{Section, Segment}

abbrev pub map_number : MapRule → ℕ
map_number VersionMissing = 2
map_number VersionType = 3
map_number VersionValue = 4
map_number FileType = 5
map_number SourceRootType = 6
map_number SourcesMissing = 7
map_number SourcesType = 8
map_number SourcesContentType = 9
map_number NamesType = 10
map_number IgnoreListType = 11
map_number IgnoreListBelowZero = 12
map_number IgnoreListPastSources = 13
map_number MappingsMissing = 14
map_number MappingsType = 15
map_number MappingsInIndex = 16
map_number SectionsType = 17

abbrev pub section_number : SectionRule → ℕ
section_number SectionType = 20
section_number OffsetMissing = 21
section_number OffsetType = 22
section_number LineMissing = 23
section_number LineType = 24
section_number ColumnMissing = 25
section_number ColumnType = 26
section_number MapMissing = 27
section_number MapType = 28

abbrev pub segment_number : SegmentRule → ℕ
segment_number ForeignByte = 30
segment_number CutNumber = 31
segment_number FieldCount = 32
segment_number LargeNumber = 33
segment_number ColumnBelowZero = 34
segment_number SourceBelowZero = 35
segment_number LineBelowZero = 36
segment_number SourceColumnBelowZero = 37
segment_number NameBelowZero = 38
segment_number SourcePastList = 39
segment_number NamePastList = 40

abbrev pub number_of : Rule → ℕ
number_of NotJson = 0
number_of NotObject = 1
number_of (Map rule) = map_number rule
number_of OutOfOrder = 18
number_of Overlap = 19
number_of (Section rule) = section_number rule
number_of (Segment rule) = segment_number rule
