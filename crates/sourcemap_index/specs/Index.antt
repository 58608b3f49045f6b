-- How an index map is made and how a part of it is replaced. What a mutable borrow of a section changes.
use Rattle.std.specs.Prelude.{◌≡◌, ℕ, List, slice_set, Option, None}
use Rattle.std.specs.Option.{OnSome}
use Rattle.std.specs.Borrow.{LendsSo, MutBor, Fml}
use Rattle.sourcemap_index_model.specs.MapTree.{MapSection, IndexValue}
use Rattle.sourcemap_index.specs.Family.{index_value, section_value}
use Rattle.sourcemap_index.specs.contracts.family.SourceMapIndex.{the_row as index_row}
use Rattle.sourcemap_index.specs.contracts.family.SourceMapSection.{the_row as section_row}
use Rattle.sourcemap_index.specs.declared.family.SourceMapIndex.{SourceMapIndex}
use Rattle.sourcemap_index.specs.declared.family.SourceMapSection.{SourceMapSection}

-- an index map of these parts, without a debug id
abbrev pub index_made : Option (List ℕ) → List MapSection → Option (List (Option ℕ)) → Option (List (List ℕ))
    → IndexValue
index_made file sections offsets paths = record {
  parts = record { file = file; debug_id = None; x_facebook_offsets = offsets; x_metro_module_paths = paths };
  sections = sections;
}

abbrev pub with_file : IndexValue → Option (List ℕ) → IndexValue
with_file i file = record i { parts = record i.parts { file = file } }

abbrev pub with_debug_id : IndexValue → Option (List ℕ) → IndexValue
with_debug_id i id = record i { parts = record i.parts { debug_id = id } }

-- the index map `i` with section `id` replaced by `s`; unchanged if `i` has no section `id`
abbrev pub with_section : IndexValue → ℕ → MapSection → IndexValue
with_section i id s = record i { sections = slice_set i.sections id s }

-- when the borrow ends, section `id` of the index map has the value of the borrowed section, and all else is unchanged;
-- without a borrowed section, nothing is changed
abbrev pub LendsSection : MutBor SourceMapIndex → ℕ → Option (MutBor SourceMapSection) → Fml
LendsSection self id result = LendsSo index_row section_row self result
    (λ new s. OnSome result (index_value new ≡ with_section (index_value self.now) id (section_value s)))
    (λ new. index_value new ≡ index_value self.now)
