-- No error of mappings, of a record or of JSON is `InvalidDataUrl`. Only texts that are no data
-- URL have that error.
use Rattle.std.proofs.Common.{◌≡◌, inl, inr, ℕ, ◌+◌, List, [], ◌∷◌, ◌++◌, Bool, true, false, Option, Some, None, if◌then◌else◌, nat_lt, Result, Ok, Err, IfErr, MatchOption, subst}
use Rattle.std.specs.Bool.{MatchBool}
use Rattle.serde_json.specs.Data.{Data}
use Rattle.sourcemap_errors.specs.declared.errors.Error.{Error}
use Rattle.sourcemap_errors.specs.declared.errors.Error.TheVariants.{BadSegmentSize, BadSourceReference, BadNameReference, InvalidDataUrl}
use Rattle.sourcemap_errors.specs.Answer.{UnlessMemory, IsAnswer}
use Rattle.sourcemap_mappings.specs.Segment.{Counts, Segment, segment_error, parts_of}
use Rattle.sourcemap_mappings.specs.Read.{PartError, PartsError, LineText, LineError, LinesError, MappingsAnswer}
use Rattle.sourcemap_headers.specs.Header.{after_header}
use Rattle.sourcemap_records.specs.Bytes.{HoldNoJson}
use Rattle.sourcemap_records.specs.Jsontypes.{Fields, Tree, plain, indexed, Sections, no_more, bare, mapped, record_of}
use Rattle.sourcemap_map_conversions.specs.FromRecord.{list_or_empty}
use Rattle.sourcemap_map_regular.specs.Decode.{RecordDecodes}
use Rattle.sourcemap_hermes_scopes.specs.ScopeLists.{ScopeEntry}
use Rattle.sourcemap_hermes.specs.Decode.{EntriesDecode}
use Rattle.sourcemap_index_model.specs.MapTree.{regular, hermes, leaf}
use Rattle.sourcemap_index_model.specs.Decode.{Then, LeafDecodes, TreeDecodes, SectionsDecode, count, index_of}
use Rattle.sourcemap_index.specs.Family.{map_tree}
use Rattle.sourcemap_index.specs.Decode.{ValueDecodes, BytesDecode, UrlDecodes, IsNoUrl}
use Rattle.sourcemap_index.specs.declared.family.DecodedMap.{DecodedMap}

-- A `MatchBool` or a `MatchOption` is false if both of its alternatives are false.

no_match_bool : (known : Bool) {P Q : Type 0} → ¬ P → ¬ Q → ¬ MatchBool known P Q
no_match_bool true p q h = p h
no_match_bool false p q h = q h

no_match_option : {X : Type 0} (known : Option X) {P : Type 0} {Q : X → Type 0} → ¬ P → ((x : X) → ¬ Q x)
    → ¬ MatchOption known P Q
no_match_option None p q h = p h
no_match_option (Some x) p q h = q x h

-- Mappings.

no_choice : (size source name : Bool) (n i j : ℕ) → ¬ (
    (if size then Some (BadSegmentSize n) else if source then Some (BadSourceReference i) else if name
    then Some (BadNameReference j) else None)
    ≡ Some InvalidDataUrl)
no_choice true source name n i j h = cc
no_choice false true name n i j h = cc
no_choice false false true n i j h = cc
no_choice false false false n i j h = cc

no_segment_error : (counts : Counts) (all : List Segment) (s : Segment)
    → ¬ (segment_error counts all s ≡ Some InvalidDataUrl)
no_segment_error counts all s h = no_choice _ _ _ _ _ _ h

no_part_error : (counts : Counts) (index : ℕ) (before : List Segment) (part : List ℕ)
    → ¬ PartError counts index before part InvalidDataUrl
no_part_error counts index before part (inl (rest, sound, more, error)) = error
no_part_error counts index before part (inr (s, at, reads, h)) = no_segment_error counts (before ++ s ∷ []) s h

no_parts_error : (counts : Counts) (index : ℕ) (before : List Segment) (parts : List (List ℕ))
    → ¬ PartsError counts index before parts InvalidDataUrl
no_parts_error counts index before [] h = h
no_parts_error counts index before ([] ∷ parts) h = no_parts_error counts (index + 1) before parts h
no_parts_error counts index before ((c ∷ cs) ∷ parts) (inl h) = no_part_error counts index before (c ∷ cs) h
no_parts_error counts index before ((c ∷ cs) ∷ parts) (inr (s, read, h)) =
    no_parts_error counts (index + 1) (before ++ s ∷ []) parts h

no_line_error : (counts : Counts) (n : ℕ) (before : List Segment) (text : LineText)
    → ¬ LineError counts n before text InvalidDataUrl
no_line_error counts n before ([], bits) h = h
no_line_error counts n before ((c ∷ cs), bits) (inl (far, h)) = cc
no_line_error counts n before ((c ∷ cs), bits) (inr (inl (near, (b, foreign, h)))) = cc
no_line_error counts n before ((c ∷ cs), bits) (inr (inr (near, bits_are, h))) =
    no_parts_error counts 0 before (parts_of (c ∷ cs)) h

no_lines_error : (counts : Counts) (n : ℕ) (before : List Segment) (texts : List LineText)
    → ¬ LinesError counts n before texts InvalidDataUrl
no_lines_error counts n before [] h = h
no_lines_error counts n before (text ∷ texts) (inl h) = no_line_error counts n before text h
no_lines_error counts n before (text ∷ texts) (inr (line, read, h)) =
    no_lines_error counts (n + 1) (before ++ line.segments) texts h

no_mappings_error : (mappings ranges : List ℕ) (counts : Counts)
    → ¬ MappingsAnswer mappings ranges counts (Err InvalidDataUrl)
no_mappings_error mappings ranges counts h = no_lines_error counts 0 [] _ h

-- Records.

no_record_error : (r : Fields) → ¬ RecordDecodes r (Err InvalidDataUrl)
no_record_error r (inl (long, h)) = cc
no_record_error r (inr (capacity, h)) =
    no_mappings_error (list_or_empty r.mappings) (list_or_empty r.range_mappings) _ h

no_entries_error : (r : Fields) (entries : List ScopeEntry) → ¬ EntriesDecode r entries (Err InvalidDataUrl)
no_entries_error r entries (inl (many, h)) = cc
no_entries_error r entries (inr (few, h)) = no_record_error r h

no_then : {X Y : Type 0} (First : Result X Error → Type 0) (Next : X → Result Y Error → Type 0)
    → ¬ First (Err InvalidDataUrl) → ((x : X) → ¬ Next x (Err InvalidDataUrl)) → ¬ Then First Next (Err InvalidDataUrl)
no_then First Next first next (inl (x, f, n)) = next x n
no_then First Next first next (inr h) = first h

no_leaf_error : (r : Fields) (scopes : Option (List ScopeEntry)) → ¬ LeafDecodes r scopes (Err InvalidDataUrl)
no_leaf_error r None h = no_then (RecordDecodes r) (λ m a. a ≡ Ok (leaf (regular m))) (no_record_error r) (λ m is. cc) h
no_leaf_error r (Some entries) h =
    no_then (EntriesDecode r entries) (λ m a. a ≡ Ok (leaf (hermes m))) (no_entries_error r entries) (λ m is. cc) h

mutual
  no_tree_error : (t : Tree) → ¬ TreeDecodes t (Err InvalidDataUrl)
  no_tree_error (plain fields) h = no_leaf_error fields fields.x_facebook_sources h
  no_tree_error (indexed fields sections) h =
      no_match_bool (nat_lt 4294967295 (count sections)) (λ is. cc)
      (no_then (λ a. SectionsDecode sections a) (λ ss a. a ≡ Ok (index_of fields ss)) (no_sections_error sections)
      (λ ss is. cc)) h

  no_sections_error : (ss : Sections) → ¬ SectionsDecode ss (Err InvalidDataUrl)
  no_sections_error no_more h = cc
  no_sections_error (bare head rest) h =
      no_then (λ a. SectionsDecode rest a) (λ ss a. a ≡ Ok (record { head = head; map = None } ∷ ss))
      (no_sections_error rest) (λ ss is. cc) h
  no_sections_error (mapped head t rest) h =
      no_then (λ a. TreeDecodes t a)
      (λ m a. Then (λ b. SectionsDecode rest b) (λ ss b. b ≡ Ok (record { head = head; map = Some m } ∷ ss)) a)
      (no_tree_error t)
      (λ m. no_then (λ b. SectionsDecode rest b) (λ ss b. b ≡ Ok (record { head = head; map = Some m } ∷ ss))
      (no_sections_error rest) (λ ss is. cc))
      h

-- Values and bytes.

no_json_error : (bytes : List ℕ) → ¬ HoldNoJson bytes InvalidDataUrl
no_json_error bytes h = no_match_option (after_header bytes) (λ error. cc) (λ text error. cc) h

pub no_value_error : (d : Data) → ¬ ValueDecodes d (Err InvalidDataUrl)
no_value_error d h = no_match_option (record_of d) (λ is. cc) no_tree_error h

pub no_bytes_error : (bytes : List ℕ) → ¬ BytesDecode bytes (Err InvalidDataUrl)
no_bytes_error bytes (inl (d, holds, h)) = no_value_error d h
no_bytes_error bytes (inr h) = no_json_error bytes h

-- Data URLs.

pub error_of_no_url : (url : List ℕ) → UrlDecodes url (Err InvalidDataUrl) → IsNoUrl url
error_of_no_url url (inl (bytes, holds, h)) = absurd (no_bytes_error bytes h)
error_of_no_url url (inr (is, none)) = none

-- if decoding `url` gives the error `InvalidDataUrl`, `url` is no data URL
pub refused_as_no_url : (url : List ℕ) (r : Result DecodedMap Error) → IsAnswer map_tree (UrlDecodes url) r
    → IfErr r (λ e. e ≡ InvalidDataUrl → IsNoUrl url)
refused_as_no_url url (Ok m) h = tt
refused_as_no_url url (Err e) h = λ is. error_of_no_url url (subst (λ f. UnlessMemory f (UrlDecodes url (Err f))) is h)
