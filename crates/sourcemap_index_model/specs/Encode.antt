-- The record that a map is written as, and the parts of the map that are kept when the record is decoded again.
use Rattle.std.specs.Prelude.{◌≡◌, Some, None, option_map, Result, Ok, Err}
use Rattle.serde_json.specs.Data.{string}
use Rattle.sourcemap_errors.specs.declared.errors.Error.{Error}
use Rattle.sourcemap_records.specs.Jsontypes.{Fields, Tree, indexed, Sections, no_more, bare, mapped, IsFine}
use Rattle.sourcemap_map_regular.specs.Encode.{ReadsBack, IsRecordOf as IsRecordOfRegular, Restores as RestoresRegular, RecordAnswer as RecordAnswerRegular}
use Rattle.sourcemap_hermes.specs.Encode.{IsRecordOf as IsRecordOfHermes, Restores as RestoresHermes, RecordAnswer as RecordAnswerHermes}
use Rattle.sourcemap_index_model.specs.MapTree.{LeafMap, regular, hermes, IndexParts, MapTree, leaf, index, MapSections, no_sections, hollow, filled}
use Rattle.sourcemap_index_model.specs.Meaning.{MeansTheSame}
use Rattle.sourcemap_index_model.specs.WellFormed.{IsWellFormed}
use Rattle.sourcemap_index_model.specs.Decode.{TreeDecodes}

-- the keys of an index map's record except its sections
abbrev pub index_fields : IndexParts → Fields
index_fields parts = record {
  version = Some 3;
  file = option_map string parts.file;
  sources = None;
  source_root = None;
  sources_content = None;
  names = None;
  range_mappings = None;
  mappings = None;
  ignore_list = None;
  x_facebook_offsets = parts.x_facebook_offsets;
  x_metro_module_paths = parts.x_metro_module_paths;
  x_facebook_sources = None;
  debug_id = parts.debug_id;
}

-- the map is written as the record. A regular or Hermes map `l` is written as the record `r` if `IsOf l r` holds. An
-- index map is written as the keys `index_fields` and its sections in order. A section is written as its head and the
-- record of its map. A section without a map is written as its head
abbrev mutual
  pub IsWrittenBy : (LeafMap → Tree → Type 0) → MapTree → Tree → Type 0
  IsWrittenBy IsOf (leaf l) r = IsOf l r
  IsWrittenBy IsOf (index parts ss) r =
      (sections : Sections) × (r ≡ indexed (index_fields parts) sections) × AreWrittenBy IsOf ss sections

  pub AreWrittenBy : (LeafMap → Tree → Type 0) → MapSections → Sections → Type 0
  AreWrittenBy IsOf no_sections written = written ≡ no_more
  AreWrittenBy IsOf (hollow head rest) written =
      (more : Sections) × (written ≡ bare head more) × AreWrittenBy IsOf rest more
  AreWrittenBy IsOf (filled head t rest) written =
      (r : Tree) × (more : Sections) × (written ≡ mapped head r more) × IsWrittenBy IsOf t r
      × AreWrittenBy IsOf rest more

abbrev pub IsLeafRecord : LeafMap → Tree → Type 0
IsLeafRecord (regular m) r = IsRecordOfRegular m r
IsLeafRecord (hermes h) r = IsRecordOfHermes h r

abbrev pub IsRecordOf : MapTree → Tree → Type 0
IsRecordOf t r = IsWrittenBy IsLeafRecord t r

-- `back` is of the same kind as `l`, and restores `l`
abbrev pub RestoresLeaf : (l back : LeafMap) → Type 0
RestoresLeaf (regular m) (regular back) = RestoresRegular m back
RestoresLeaf (hermes h) (hermes back) = RestoresHermes h back
RestoresLeaf _ _ = ⊥

-- `back` and `t` are both index maps, or neither is. If neither is, `back` restores `t` (`RestoresLeaf`). If both are,
-- they have equal `IndexParts` and equally many sections. The n-th section of `back` and the n-th section of `t` have
-- equal heads (offset and URL). Either both sections have no map, or `KeepsParts` holds for their maps
abbrev mutual
  pub KeepsParts : (back t : MapTree) → Type 0
  KeepsParts (leaf back) (leaf l) = RestoresLeaf l back
  KeepsParts (index parts ss) (index parts' ss') = (parts ≡ parts') × KeepSections ss ss'
  KeepsParts _ _ = ⊥

  pub KeepSections : (back ss : MapSections) → Type 0
  KeepSections no_sections no_sections = Unit {0}
  KeepSections (hollow head rest) (hollow head' rest') = (head ≡ head') × KeepSections rest rest'
  KeepSections (filled head t rest) (filled head' t' rest') = (head ≡ head') × KeepsParts t t' × KeepSections rest rest'
  KeepSections _ _ = ⊥

-- `back` has the same meaning as `t` at every generated position, and keeps the parts of `t` (`KeepsParts`)
abbrev pub Restores : (t back : MapTree) → Type 0
Restores t back = MeansTheSame back t × KeepsParts back t

-- the result of encoding a map: its record. If the map is well-formed, the record decodes to a map that restores the
-- encoded map (`Restores`). This definition permits no error, but `IsAnswer` also permits `OutOfMemory`
abbrev pub RecordAnswer : MapTree → Result Tree Error → Type 0
RecordAnswer t (Ok r) = IsRecordOf t r × IsFine r × (IsWellFormed t → ReadsBack (TreeDecodes r) (Restores t))
RecordAnswer t (Err _) = ⊥

-- the record of a regular map or a Hermes map. If the map is well-formed, the record decodes to a map that restores the
-- encoded map
abbrev pub IsLeafAnswer : LeafMap → Tree → Type 0
IsLeafAnswer (regular m) r = RecordAnswerRegular m (Ok r)
IsLeafAnswer (hermes h) r = RecordAnswerHermes h (Ok r)
