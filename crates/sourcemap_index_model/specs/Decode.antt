-- The map of any kind that a record decodes to.
use Rattle.std.specs.Prelude.{◌≡◌, ◌⊎◌, ℕ, ◌+◌, List, [], ◌∷◌, Option, Some, None, option_map, nat_lt, Result, Ok, Err, IsErrAnd}
use Rattle.std.specs.Bool.{MatchBool}
use Rattle.sourcemap_errors.specs.declared.errors.Error.{Error}
use Rattle.sourcemap_errors.specs.declared.errors.Error.TheVariants.{IncompatibleSourceMap}
use Rattle.sourcemap_tokens.specs.Tokens.{sorted_by, position_cmp}
use Rattle.sourcemap_records.specs.Jsontypes.{Fields, Tree, plain, indexed, Sections, no_more, bare, mapped}
use Rattle.sourcemap_map_conversions.specs.FromRecord.{file_read}
use Rattle.sourcemap_map_regular.specs.Decode.{RecordDecodes}
use Rattle.sourcemap_hermes_scopes.specs.ScopeLists.{ScopeEntry}
use Rattle.sourcemap_hermes.specs.Decode.{EntriesDecode}
use Rattle.sourcemap_index_model.specs.MapTree.{regular, hermes, IndexParts, MapTree, leaf, index, MapSection, section_offset, sections_from}

-- the result of the step `First` and then the step `Next`. If `First` gives `Ok x`, `Next x` gives the result. If
-- `First` gives an error, the result is the same error
abbrev pub Then : {X Y : Type 0} → (Result X Error → Type 0) → (X → Result Y Error → Type 0) → Result Y Error → Type 0
Then First Next answer = ((x : _) × First (Ok x) × Next x answer) ⊎ IsErrAnd answer (λ e. First (Err e))

-- the result of decoding a record without sections. A record with scopes (`Some`) decodes to a Hermes map or an error
-- (`EntriesDecode`). A record without scopes (`None`) decodes to a regular map or an error (`RecordDecodes`)
abbrev pub LeafDecodes : Fields → Option (List ScopeEntry) → Result MapTree Error → Type 0
LeafDecodes fields None answer = Then (RecordDecodes fields) (λ m a. a ≡ Ok (leaf (regular m))) answer
LeafDecodes fields (Some entries) answer =
    Then (EntriesDecode fields entries) (λ h a. a ≡ Ok (leaf (hermes h))) answer

-- the `IndexParts` decoded from the keys of a record. Keys without a field in `IndexParts` are ignored
abbrev pub index_parts : Fields → IndexParts
index_parts fields = record {
  file = option_map file_read fields.file;
  debug_id = fields.debug_id;
  x_facebook_offsets = fields.x_facebook_offsets;
  x_metro_module_paths = fields.x_metro_module_paths;
}

abbrev pub count : Sections → ℕ
count no_more = 0
count (bare _ rest) = 1 + count rest
count (mapped _ _ rest) = 1 + count rest

-- the sections, sorted stably by offset
abbrev pub by_offset : List MapSection → List MapSection
by_offset ss = sorted_by {K = ℕ × ℕ} section_offset position_cmp ss

abbrev pub index_of : Fields → List MapSection → MapTree
index_of fields ss = index (index_parts fields) (sections_from (by_offset ss))

-- the map that a record decodes to, or the error. A record with more than 2^32 - 1 sections gives
-- `IncompatibleSourceMap`, and its sections are not decoded. Otherwise the sections are decoded in their order in the
-- record, and the first error is returned
abbrev mutual
  pub TreeDecodes : Tree → Result MapTree Error → Type 0
  TreeDecodes (plain fields) answer = LeafDecodes fields fields.x_facebook_sources answer
  TreeDecodes (indexed fields sections) answer =
      MatchBool (nat_lt 4294967295 (count sections))
      (answer ≡ Err IncompatibleSourceMap)
      (Then (λ a. SectionsDecode sections a) (λ ss a. a ≡ Ok (index_of fields ss)) answer)

  pub SectionsDecode : Sections → Result (List MapSection) Error → Type 0
  SectionsDecode no_more answer = answer ≡ Ok []
  SectionsDecode (bare head rest) answer =
      Then (λ a. SectionsDecode rest a) (λ ss a. a ≡ Ok (record { head = head; map = None } ∷ ss)) answer
  SectionsDecode (mapped head t rest) answer =
      Then (λ a. TreeDecodes t a)
      (λ m a. Then (λ b. SectionsDecode rest b) (λ ss b. b ≡ Ok (record { head = head; map = Some m } ∷ ss)) a)
      answer
