-- How a section is made and how a part of it is replaced. What a mutable borrow of its map changes.
use Rattle.std.specs.Prelude.{◌≡◌, ℕ, List, map, Option, Some}
use Rattle.std.specs.Option.{OnSome}
use Rattle.std.specs.Borrow.{LendsSo, MutBor, Fml}
use Rattle.sourcemap_index_model.specs.MapTree.{MapTree, MapSection}
use Rattle.sourcemap_index.specs.Family.{map_tree, section_value}
use Rattle.sourcemap_index.specs.contracts.family.DecodedMap.{the_row as map_row}
use Rattle.sourcemap_index.specs.contracts.family.SourceMapSection.{the_row as section_row}
use Rattle.sourcemap_index.specs.declared.family.DecodedMap.{DecodedMap}
use Rattle.sourcemap_index.specs.declared.family.SourceMapSection.{SourceMapSection}
use Rattle.sourcemap_index.specs.declared.section.SourceMapSectionIter.{SourceMapSectionIter}

-- a section of these parts
abbrev pub section_made : (offset : ℕ × ℕ) (url : Option (List ℕ)) (t : Option MapTree) → MapSection
section_made offset url t = record { head = record { line = offset.0; column = offset.1; url = url }; map = t }

abbrev pub with_url : MapSection → Option (List ℕ) → MapSection
with_url s url = record s { head = record s.head { url = url } }

abbrev pub with_map : MapSection → Option MapTree → MapSection
with_map s t = record s { map = t }

-- when the borrow ends, the map of the section has the value of the borrowed map, and all else is unchanged; without a
-- borrowed map, nothing is changed
abbrev pub LendsMap : MutBor SourceMapSection → Option (MutBor DecodedMap) → Fml
LendsMap self result = LendsSo section_row map_row self result
    (λ new m. OnSome result (section_value new ≡ with_map (section_value self.now) (Some (map_tree m))))
    (λ new. section_value new ≡ section_value self.now)

-- the sections that an iterator has still to return
abbrev pub sections_left : SourceMapSectionIter → List MapSection
sections_left it = map section_value it.sections.now
