-- Encoding of maps, sections and lists of sections as records. In a record, the version, the source ids on the ignore
-- list, the numbers in `x_facebook_offsets`, and the lines and columns of section offsets are below 2^32. A debug id
-- has 16 bytes.
use Rattle.std.specs.Prelude.{◌≡◌, None, Some, MatchOption, Result, Ok, Err}
use Rattle.sourcemap_errors.specs.declared.errors.Error.{Error}
use Rattle.sourcemap_records.specs.Jsontypes.{Tree, Section, Sections, IsInRange, AreSectionsInRange, IsSectionInRange}
use Rattle.sourcemap_index_model.specs.Encode.{IsLeafAnswer, IsWrittenBy, AreWrittenBy}
use Rattle.sourcemap_index_model.specs.MapTree.{MapTree, MapSections, MapSection}

-- the result of encoding a map: a record that the map is written as. `MapWrites` permits no error. In a contract,
-- `IsAnswer` also permits the error `OutOfMemory`
abbrev pub MapWrites : MapTree → Result Tree Error → Type 0
MapWrites t (Ok r) = IsWrittenBy IsLeafAnswer t r × IsInRange r
MapWrites t (Err _) = ⊥

abbrev pub SectionsWrite : MapSections → Result Sections Error → Type 0
SectionsWrite ss (Ok rs) = AreWrittenBy IsLeafAnswer ss rs × AreSectionsInRange rs
SectionsWrite ss (Err _) = ⊥

-- one section is written as this record
abbrev pub SectionIsWritten : MapSection → Section → Type 0
SectionIsWritten s r =
    (r.head ≡ s.head) × IsSectionInRange r
    × MatchOption s.map (r.map ≡ None) (λ t. (q : Tree) × (r.map ≡ Some q) × IsWrittenBy IsLeafAnswer t q)

abbrev pub SectionWrites : MapSection → Result Section Error → Type 0
SectionWrites s (Ok r) = SectionIsWritten s r
SectionWrites s (Err _) = ⊥
