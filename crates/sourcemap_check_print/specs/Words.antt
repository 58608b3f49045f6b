-- The key and the sentence of each rule.
use Rattle.std.specs.Prelude.{ℕ, List, [], codes}
use Rattle.sourcemap_check_report.specs.declared.rules.MapRule.{MapRule}
use Rattle.sourcemap_check_report.specs.declared.rules.MapRule.TheVariants.{VersionMissing, VersionType}
use Rattle.sourcemap_check_report.specs.declared.rules.MapRule.TheVariants.{VersionValue, FileType}
use Rattle.sourcemap_check_report.specs.declared.rules.MapRule.TheVariants.{SourceRootType, SourcesMissing}
use Rattle.sourcemap_check_report.specs.declared.rules.MapRule.TheVariants.{SourcesType, SourcesContentType}
use Rattle.sourcemap_check_report.specs.declared.rules.MapRule.TheVariants.{NamesType, IgnoreListType}
use Rattle.sourcemap_check_report.specs.declared.rules.MapRule.TheVariants.{IgnoreListBelowZero}
use Rattle.sourcemap_check_report.specs.declared.rules.MapRule.TheVariants.{IgnoreListPastSources}
use Rattle.sourcemap_check_report.specs.declared.rules.MapRule.TheVariants.{MappingsMissing, MappingsType}
use Rattle.sourcemap_check_report.specs.declared.rules.MapRule.TheVariants.{MappingsInIndex, SectionsType}
use Rattle.sourcemap_check_report.specs.declared.rules.SectionRule.{SectionRule}
use Rattle.sourcemap_check_report.specs.declared.rules.SectionRule.TheVariants.{SectionType, OffsetMissing}
use Rattle.sourcemap_check_report.specs.declared.rules.SectionRule.TheVariants.{OffsetType, LineMissing}
use Rattle.sourcemap_check_report.specs.declared.rules.SectionRule.TheVariants.{LineType, ColumnMissing}
use Rattle.sourcemap_check_report.specs.declared.rules.SectionRule.TheVariants.{ColumnType, MapMissing, MapType}
use Rattle.sourcemap_check_report.specs.declared.rules.SegmentRule.{SegmentRule}
use Rattle.sourcemap_check_report.specs.declared.rules.SegmentRule.TheVariants.{ForeignByte, CutNumber}
use Rattle.sourcemap_check_report.specs.declared.rules.SegmentRule.TheVariants.{FieldCount, LargeNumber}
use Rattle.sourcemap_check_report.specs.declared.rules.SegmentRule.TheVariants.{ColumnBelowZero}
use Rattle.sourcemap_check_report.specs.declared.rules.SegmentRule.TheVariants.{SourceBelowZero, LineBelowZero}
use Rattle.sourcemap_check_report.specs.declared.rules.SegmentRule.TheVariants.{SourceColumnBelowZero}
use Rattle.sourcemap_check_report.specs.declared.rules.SegmentRule.TheVariants.{NameBelowZero, SourcePastList}
use Rattle.sourcemap_check_report.specs.declared.rules.SegmentRule.TheVariants.{NamePastList}
use Rattle.sourcemap_check_report.specs.declared.rules.Rule.{Rule}
use Rattle.sourcemap_check_report.specs.declared.rules.Rule.TheVariants.{NotJson, NotObject, Map, OutOfOrder, Overlap}
use Rattle.sourcemap_check_report.specs.declared.rules.Rule.TheVariants.{Section, Segment}

-- the key of a map that the rule is on
abbrev pub map_key : MapRule → List ℕ
map_key VersionMissing = codes "version"
map_key VersionType = codes "version"
map_key VersionValue = codes "version"
map_key FileType = codes "file"
map_key SourceRootType = codes "sourceRoot"
map_key SourcesMissing = codes "sources"
map_key SourcesType = codes "sources"
map_key SourcesContentType = codes "sourcesContent"
map_key NamesType = codes "names"
map_key IgnoreListType = codes "ignoreList"
map_key IgnoreListBelowZero = codes "ignoreList"
map_key IgnoreListPastSources = codes "ignoreList"
map_key MappingsMissing = codes "mappings"
map_key MappingsType = codes "mappings"
map_key MappingsInIndex = codes "mappings"
map_key SectionsType = codes "sections"

-- the key of a section that the rule is on, behind the section itself
abbrev pub section_key : SectionRule → List ℕ
section_key SectionType = []
section_key OffsetMissing = codes ".offset"
section_key OffsetType = codes ".offset"
section_key LineMissing = codes ".offset.line"
section_key LineType = codes ".offset.line"
section_key ColumnMissing = codes ".offset.column"
section_key ColumnType = codes ".offset.column"
section_key MapMissing = codes ".map"
section_key MapType = codes ".map"

-- how a rule on the keys of a map is broken
abbrev pub map_sentence : MapRule → List ℕ
map_sentence VersionMissing = codes "there is no version"
map_sentence VersionType = codes "version is no number"
map_sentence VersionValue = codes "version is a number, but not 3"
map_sentence FileType = codes "file is no text"
map_sentence SourceRootType = codes "sourceRoot is no text"
map_sentence SourcesMissing = codes "there is no sources"
map_sentence SourcesType = codes "sources is no list of texts and nulls"
map_sentence SourcesContentType = codes "sourcesContent is no list of texts and nulls"
map_sentence NamesType = codes "names is no list of texts"
map_sentence IgnoreListType = codes "ignoreList is no list of whole numbers"
map_sentence IgnoreListBelowZero = codes "ignoreList has a number below 0"
map_sentence IgnoreListPastSources = codes "ignoreList has a number that is not below the number of sources"
map_sentence MappingsMissing = codes "there is no mappings"
map_sentence MappingsType = codes "mappings is no text"
map_sentence MappingsInIndex = codes "an index map has mappings"
map_sentence SectionsType = codes "sections is no list"

-- how a rule on a section is broken
abbrev pub section_sentence : SectionRule → List ℕ
section_sentence SectionType = codes "the section is no object"
section_sentence OffsetMissing = codes "there is no offset"
section_sentence OffsetType = codes "offset is no object"
section_sentence LineMissing = codes "the offset has no line"
section_sentence LineType = codes "the line of the offset is no whole number, or below 0"
section_sentence ColumnMissing = codes "the offset has no column"
section_sentence ColumnType = codes "the column of the offset is no whole number, or below 0"
section_sentence MapMissing = codes "there is no map"
section_sentence MapType = codes "map is no object"

-- how a rule on a segment is broken
abbrev pub segment_sentence : SegmentRule → List ℕ
segment_sentence ForeignByte = codes "a byte is no digit of base64"
segment_sentence CutNumber = codes "the segment ends within a number"
segment_sentence FieldCount = codes "the segment does not have 1, 4 or 5 numbers"
segment_sentence LargeNumber = codes "a number does not fit 32 bits"
segment_sentence ColumnBelowZero = codes "the generated column is below 0"
segment_sentence SourceBelowZero = codes "the index of the source is below 0"
segment_sentence LineBelowZero = codes "the original line is below 0"
segment_sentence SourceColumnBelowZero = codes "the original column is below 0"
segment_sentence NameBelowZero = codes "the index of the name is below 0"
segment_sentence SourcePastList = codes "the map has no source with this index"
segment_sentence NamePastList = codes "the map has no name with this index"

-- how a rule is broken
abbrev pub sentence : Rule → List ℕ
sentence NotJson = codes "the bytes are no JSON text"
sentence NotObject = codes "the JSON value is no object"
sentence (Map rule) = map_sentence rule
sentence OutOfOrder = codes "the section starts before the one before it"
sentence Overlap = codes "the section overlaps the one before it"
sentence (Section rule) = section_sentence rule
sentence (Segment rule) = segment_sentence rule
