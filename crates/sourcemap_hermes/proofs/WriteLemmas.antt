-- The record of a Hermes map has few levels, and no number in it has a fraction. The text of the record has no junk
-- header. So if the map is well-formed, the text reads back.
use Rattle.std.proofs.Common.{◌≡◌, inl, ℕ, ◌≤◌, List, [], ◌∷◌, codes, Option, Some, Ok, ap, ◌∙◌, sym, subst, arith}
use Rattle.serde_json.specs.Data.{Data, depth, string}
use Rattle.serde_json.specs.Read.{max_depth}
use Rattle.sourcemap_records.specs.Bytes.{HoldJson, BytesHaveResult}
use Rattle.sourcemap_records.specs.Field.{written_list, written_or_null}
use Rattle.sourcemap_records.specs.Jsontypes.{Fields, Scopes, Tree, plain, flat, entries, written, written_fields}
use Rattle.sourcemap_records.specs.Jsontypes.{written_scopes, IsFine}
use Rattle.sourcemap_records.proofs.BytesLemmas.{value_of_record}
use Rattle.sourcemap_records.proofs.ReadBackLemmas.{record-back}
use Rattle.sourcemap_map_regular.specs.Encode.{ReadsBack, record_with}
use Rattle.sourcemap_map_regular.specs.Write.{IsText, IsEncoded}
use Rattle.sourcemap_map_regular.proofs.WriteLemmas.{IsLow, EntriesAreLow, low_object, low_list, low_or_null}
use Rattle.sourcemap_map_regular.proofs.WriteLemmas.{low_string, low_entries, entries_low, no_header}
use Rattle.sourcemap_hermes_scopes.specs.ScopeLists.{ScopeEntry}
use Rattle.sourcemap_hermes.specs.Decode.{HermesDecodes, RecordDecodesAsHermes}
use Rattle.sourcemap_hermes.specs.Encode.{IsRecordOf, IsCompactTextOf, RecordAnswer, Restores, with_scopes, scoped}
use Rattle.sourcemap_hermes.specs.Map.{HermesValue, IsWellFormed}

-- the fields of the record of `h`, with `mappings` as the field `mappings` and `ranges` as the field `rangeMappings`
abbrev fields_with : HermesValue → List ℕ → Option (List ℕ) → Fields
fields_with h mappings ranges = with_scopes (record_with h.map mappings ranges) h.scopes.entries

low_scopes : (s : Scopes) → IsLow 2 (written_scopes s)
low_scopes s =
    let entries : List (List ℕ × Option Data) =
    (codes "names", Some (written_list string s.names)) ∷ (codes "mappings", Some (string s.mappings)) ∷ [] in
    let low : EntriesAreLow 1 entries = (low_list 0 string (low_string 0) s.names, (low_string 1 s.mappings, tt)) in
    low_object 1 entries low

low_lists : (lists : List ScopeEntry) → IsLow 4 (written_list (written_or_null (written_list written_scopes)) lists)
low_lists = low_list 3 (written_or_null (written_list written_scopes)) (low_or_null 3 (written_list written_scopes)
    (low_list 2 written_scopes low_scopes))

low_written : (h : HermesValue) (mappings : List ℕ) (ranges : Option (List ℕ))
    → IsLow 5 (written (plain (fields_with h mappings ranges)))
low_written h mappings ranges =
    low_object 4 (entries (fields_with h mappings ranges))
    (let (
      version,
      (
        file,
        (
          sources,
          (
            root,
            (contents, (names, (of_ranges, (of_mappings, (ignored, (offsets, (paths, (none, (debug_id, end))))))))),
          ),
        ),
      ),
    ) =
    low_entries 1 3 (entries (record_with h.map mappings ranges)) (entries_low h.map mappings ranges) in (
      version,
      (
        file,
        (
          sources,
          (
            root,
            (
              contents,
              (
                names,
                (
                  of_ranges,
                  (of_mappings, (ignored, (offsets, (paths, (low_lists h.scopes.entries, (debug_id, end)))))),
                ),
              ),
            ),
          ),
        ),
      ),
    ))

-- each record of `h` is a plain record: `fields_with h mappings ranges` for some texts `mappings` and `ranges`
record_plain : (h : HermesValue) (t : Tree) → IsRecordOf h t
    → (mappings : List ℕ) × (ranges : Option (List ℕ)) × (t ≡ plain (fields_with h mappings ranges))
record_plain h t (r, (mappings, ranges, of_mappings, of_ranges, plain_is), is) =
    (mappings, ranges, is ∙ ap (λ r. scoped r h.scopes.entries) plain_is)

-- the record of a map has at most five levels, and no number in it has a fraction
pub record-low : (h : HermesValue) (t : Tree) → IsRecordOf h t → IsLow 5 (written t)
record-low h t is =
    let (mappings, ranges, same) = record_plain h t is in
    subst (λ (t : Tree). IsLow 5 (written t)) (sym same) (low_written h mappings ranges)

pub encoded-compact : (h : HermesValue) (text : List ℕ) → IsEncoded (RecordAnswer h) text → IsCompactTextOf h text
encoded-compact h text (t, (is, fine, back), of_text) = (t, is, of_text.compact (record-low h t is).1)

pub encoded-back : (h : HermesValue) (text : List ℕ) → IsEncoded (RecordAnswer h) text → IsWellFormed h
    → ReadsBack (BytesHaveResult RecordDecodesAsHermes text) (Restores h)
encoded-back h text (t, (is, fine, back), of_text) well =
    let (mappings, ranges, same) = record_plain h t is in
    text_back mappings ranges (subst IsFine same fine)
    (subst (λ (t : Tree). ReadsBack (HermesDecodes (flat t)) (Restores h)) same (back well))
    (subst (λ (t : Tree). IsText t text) same of_text)
  where
    text_back : (mappings : List ℕ) (ranges : Option (List ℕ)) → IsFine (plain (fields_with h mappings ranges))
        → ReadsBack (HermesDecodes (fields_with h mappings ranges)) (Restores h)
        → IsText (plain (fields_with h mappings ranges)) text
        → ReadsBack (BytesHaveResult RecordDecodesAsHermes text) (Restores h)
    text_back mappings ranges fine back is =
        let t : Tree = plain (fields_with h mappings ranges) in
        let low : IsLow 5 (written t) = low_written h mappings ranges in
        let shallow : depth (written t) ≤ max_depth = let p = low.0 in omega arith in
        let bare = no_header text (written_fields (fields_with h mappings ranges)) (is.compact low.1) in
        let holds : HoldJson text (written t) = (text, bare, is.reads_back shallow) in (
          back.0,
          inl (
            written t,
            holds,
            value_of_record RecordDecodesAsHermes (written t) t (record-back t fine.0 fine.1) (Ok back.0) back.1,
          ),
          back.2,
        )
