-- A map of any kind as contracts see it: a regular map, a Hermes map, or an index map, whose sections
-- may have maps of any kind. Lines and columns count from 0, columns in UTF-16 units.
use Rattle.std.specs.Prelude.{ℕ, List, [], ◌∷◌, Option, Some, None}
use Rattle.sourcemap_records.specs.Jsontypes.{SectionHead}
use Rattle.sourcemap_map_regular.specs.Map.{MapValue}
use Rattle.sourcemap_hermes.specs.Map.{HermesValue}

-- a map without sections
pub data LeafMap : Type 0 where
  regular : MapValue → LeafMap
  hermes : HermesValue → LeafMap

-- for a regular map, the map itself; for a Hermes map, the regular map that the Hermes map contains
abbrev pub held : LeafMap → MapValue
held (regular m) = m
held (hermes h) = h.map

-- the parts of an index map besides its sections
pub record IndexParts : Type 0 where
  pub file : Option (List ℕ)
  pub debug_id : Option (List ℕ)
  pub x_facebook_offsets : Option (List (Option ℕ))
  pub x_metro_module_paths : Option (List (List ℕ))

mutual
  pub data MapTree : Type 0 where
    leaf : LeafMap → MapTree
    index : IndexParts → MapSections → MapTree

  -- the sections of an index map, one after the other; `hollow` is a section without a map
  pub data MapSections : Type 0 where
    no_sections : MapSections
    hollow : SectionHead → MapSections → MapSections
    filled : SectionHead → MapTree → MapSections → MapSections

-- the generated position at which a section starts
abbrev pub offset_of : SectionHead → ℕ × ℕ
offset_of head = (head.line, head.column)

-- one section
pub record MapSection : Type 0 where
  pub head : SectionHead
  pub map : Option MapTree

abbrev pub section_offset : MapSection → ℕ × ℕ
section_offset s = offset_of s.head

-- sections as a list
abbrev pub section_list : MapSections → List MapSection
section_list no_sections = []
section_list (hollow head rest) = record { head = head; map = None } ∷ section_list rest
section_list (filled head t rest) = record { head = head; map = Some t } ∷ section_list rest

abbrev pub section_with : SectionHead → Option MapTree → MapSections → MapSections
section_with head None rest = hollow head rest
section_with head (Some t) rest = filled head t rest

-- a list of sections as `MapSections`
abbrev pub sections_from : List MapSection → MapSections
sections_from [] = no_sections
sections_from (s ∷ ss) = section_with s.head s.map (sections_from ss)

-- an index map
pub record IndexValue : Type 0 where
  pub parts : IndexParts
  pub sections : List MapSection

abbrev pub index_tree : IndexValue → MapTree
index_tree i = index i.parts (sections_from i.sections)

-- `OfMap` holds for each map without sections, and `OfSections` holds for the sections of each index map. Both hold at
-- every depth
abbrev mutual
  pub AtEachLevel : (LeafMap → Type 0) → (MapSections → Type 0) → MapTree → Type 0
  AtEachLevel OfMap OfSections (leaf l) = OfMap l
  AtEachLevel OfMap OfSections (index parts ss) = OfSections ss × InEachSection OfMap OfSections ss

  pub InEachSection : (LeafMap → Type 0) → (MapSections → Type 0) → MapSections → Type 0
  InEachSection OfMap OfSections no_sections = Unit {0}
  InEachSection OfMap OfSections (hollow head rest) = InEachSection OfMap OfSections rest
  InEachSection OfMap OfSections (filled head t rest) =
      AtEachLevel OfMap OfSections t × InEachSection OfMap OfSections rest
