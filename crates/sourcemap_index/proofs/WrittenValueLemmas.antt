-- A map of any kind is written as at most one JSON value. No number in this value has a fraction. If index maps are not
-- nested deep, the value has few levels.
use Rattle.std.proofs.Common.{◌≡◌, ◌∙◌, ◌+◌, ◌*◌, ◌≤◌, ◌++◌, refl, sym, ap, subst, arith, ℕ, List, [], ◌∷◌, codes, Option, Some, false}
use Rattle.std.proofs.lemmas.Bool.{or_from}
use Rattle.serde_json.specs.Data.{Data, null, string, array, object, Members, no_members, Items, item, depth, items_depth}
use Rattle.serde_json.specs.Read.{max_depth}
use Rattle.serde_json.specs.Written.{compact_text, has_float, items_have_float}
use Rattle.sourcemap_headers.specs.DebugId.{debug_id_text}
use Rattle.sourcemap_records.specs.Field.{written_number, written_or_null, written_list, put_if, put_all}
use Rattle.sourcemap_records.specs.Jsontypes.{Tree, Sections, SectionHead, entries, written, written_fields, written_sections, written_section, written_offset}
use Rattle.sourcemap_map_regular.proofs.WriteLemmas.{IsLow, EntriesAreLow, low_object, low_list, low_or_null, low_if, low_number, low_string, low_entries, record-low as regular-low}
use Rattle.sourcemap_hermes.proofs.WriteLemmas.{record-low as hermes-low}
use Rattle.sourcemap_index_model.specs.Encode.{index_fields, AreWrittenBy, IsLeafRecord, IsRecordOf}
use Rattle.sourcemap_index_model.specs.MapTree.{LeafMap, regular, hermes, IndexParts, MapTree, leaf, index, MapSections, no_sections, hollow, filled}
use Rattle.sourcemap_index_model.proofs.EncodeLemmas.{tree_written_once}
use Rattle.sourcemap_index.specs.DecodedMap.{levels, deepest, IsShallow, IsValueOf, IsTextOf}

-- a bound on the levels may be raised
low_more : (n m : ℕ) (d : Data) → n ≤ m → IsLow n d → IsLow m d
low_more n m d upto low = ((let a = low.0 in omega (arith, upto)), low.1)

-- One more entry at the end of a list of entries: the last step of `put_all` puts this entry. If `EntriesAreLow n`
-- holds for the list and for this entry, it also holds for the longer list.

put_all-push : (es : List (List ℕ × Option Data)) (e : List ℕ × Option Data) (ms : Members)
    → put_all (es ++ e ∷ []) ms ≡ put_if e.0 e.1 (put_all es ms)
put_all-push [] e ms = refl
put_all-push (x ∷ es) e ms = put_all-push es e (put_if x.0 x.1 ms)

low-push : (n : ℕ) (es : List (List ℕ × Option Data)) (e : List ℕ × Option Data) → EntriesAreLow n es
    → EntriesAreLow n (e ∷ []) → EntriesAreLow n (es ++ e ∷ [])
low-push n [] e all last = last
low-push n (x ∷ es) e all last = (all.0, low-push n es e all.1 last)

-- Bounds on the levels of the JSON values that offsets, sections and maps of each kind are written as. None of these
-- values contains a floating-point number.

index_low : (parts : IndexParts) → EntriesAreLow 1 (entries (index_fields parts))
index_low parts = (
  low_number 1 3,
  (
    low_if 1 string (low_string 1) parts.file,
    (
      (omega arith, refl),
      (
        tt,
        (
          tt,
          (
            tt,
            (
              tt,
              (
                tt,
                (
                  tt,
                  (
                    low_if 1 (written_list (written_or_null written_number))
                        (low_list 0 (written_or_null written_number) (low_or_null 0 written_number (low_number 0)))
                        parts.x_facebook_offsets,
                    (
                      low_if 1 (written_list string) (low_list 0 string (low_string 0)) parts.x_metro_module_paths,
                      (
                        tt,
                        (
                          low_if 1 (λ id. string (debug_id_text id)) (λ id. low_string 1 (debug_id_text id))
                              parts.debug_id,
                          tt,
                        ),
                      ),
                    ),
                  ),
                ),
              ),
            ),
          ),
        ),
      ),
    ),
  ),
)

low_offset : (line column : ℕ) → IsLow 1 (written_offset (record { line = line; column = column }))
low_offset line column =
    low_object 0 (
    (codes "line", Some (written_number line)) ∷
    (codes "column", Some (written_number column)) ∷ [])
    (low_number 0 line, (low_number 0 column, tt))

low_section : (n : ℕ) (head : SectionHead) (d : Data) → 1 ≤ n → IsLow n d → IsLow (n + 1) (written_section head d)
low_section n head d some low =
    low_object n (
    (codes "map", Some d) ∷
    (codes "offset", Some (written_offset (record { line = head.line; column = head.column }))) ∷
    (codes "url", Some (written_or_null string head.url)) ∷ []) (
      low,
      (
        low_more 1 n (written_offset (record { line = head.line; column = head.column })) some
            (low_offset head.line head.column),
        (low_or_null n string (low_string n) head.url, tt),
      ),
    )

low_leaf : (l : LeafMap) (r : Tree) → IsLeafRecord l r → IsLow 5 (written r)
low_leaf (regular m) r is = low_more 2 5 (written r) (omega arith) (regular-low m r is)
low_leaf (hermes h) r is = hermes-low h r is

-- let the sections of an index map be written with at most `n` levels and without floating-point numbers. Then the
-- index map is written with at most `n + 2` levels and without floating-point numbers
low_index : (n : ℕ) (parts : IndexParts) (xs : Sections) → items_depth (written_sections xs) ≤ n
    → items_have_float (written_sections xs) ≡ false
    → IsLow (n + 2)
    (object (put_if (codes "sections") (Some (array (written_sections xs))) (written_fields (index_fields parts))))
low_index n parts xs few whole =
    let last : List ℕ × Option Data = (codes "sections", Some (array (written_sections xs))) in
    let keys : EntriesAreLow (n + 1) (entries (index_fields parts)) =
    subst (λ k. EntriesAreLow k (entries (index_fields parts))) (omega arith)
    (low_entries 1 n (entries (index_fields parts)) (index_low parts)) in
    let low = low_object (n + 1) (entries (index_fields parts) ++ last ∷ [])
    (low-push (n + 1) (entries (index_fields parts)) last keys (((omega (arith, few)), whole), tt)) in
    let same = put_all-push (entries (index_fields parts)) last no_members in
    subst (λ ms. IsLow (n + 2) (object ms)) same
    (low_more (n + 1 + 1) (n + 2) (object (put_all (entries (index_fields parts) ++ last ∷ []) no_members))
    (omega arith) low)

abbrev AreLowItems : ℕ → Items → Type 0
AreLowItems n ds = (items_depth ds ≤ 3 * n + 6) × (items_have_float ds ≡ false)

low_item : (n : ℕ) (d : Data) (ys : Sections) → IsLow (3 * n + 5 + 1) d → AreLowItems n (written_sections ys)
    → AreLowItems n (item d (written_sections ys))
low_item n d ys here rest = (
  (let a = here.0 in let b = rest.0 in omega arith),
  or_from (has_float d) (items_have_float (written_sections ys)) here.1 rest.1,
)

mutual
  -- the record `r` has at most `3 * levels t + 5` levels. An index map adds three levels: its object, the list of its
  -- sections, and the object of a section
  low_tree : (t : MapTree) (r : Tree) → IsRecordOf t r → IsLow (3 * levels t + 5) (written r)
  low_tree (leaf l) r is = low_more 5 (3 * levels (leaf l) + 5) (written r) (omega arith) (low_leaf l r is)
  low_tree (index parts ss) r (xs, is, all) =
      let low = low_sections ss xs all (deepest ss) (omega arith) in
      subst (λ r. IsLow (3 * levels (index parts ss) + 5) (written r)) (sym is)
      (low_more (3 * deepest ss + 6 + 2) (3 * levels (index parts ss) + 5)
      (object (put_if (codes "sections") (Some (array (written_sections xs)))
      (written_fields (index_fields parts)))) (omega arith)
      (low_index (3 * deepest ss + 6) parts xs low.0 low.1))

  low_sections : (ss : MapSections) (xs : Sections) → AreWrittenBy IsLeafRecord ss xs → (n : ℕ) → deepest ss ≤ n
      → AreLowItems n (written_sections xs)
  low_sections no_sections xs is n upto = subst (AreLowItems n) (sym (ap written_sections is)) (omega arith, refl)
  low_sections (hollow head rest) xs (ys, is, all) n upto =
      let here = low_section (3 * n + 5) head null (omega arith) (omega arith, refl) in
      subst (AreLowItems n) (sym (ap written_sections is))
      (low_item n (written_section head null) ys here (low_sections rest ys all n upto))
  low_sections (filled head t rest) xs (r, ys, is, of, all) n upto =
      let inner = low_more (3 * levels t + 5) (3 * n + 5) (written r) (omega (arith, upto)) (low_tree t r of) in
      let here = low_section (3 * n + 5) head (written r) (omega arith) inner in
      subst (AreLowItems n) (sym (ap written_sections is))
      (low_item n (written_section head (written r)) ys here (low_sections rest ys all n (omega (arith, upto))))

-- the JSON value `d` of a map contains no floating-point number
pub whole_value : (t : MapTree) (d : Data) → IsValueOf t d → has_float d ≡ false
whole_value t d (r, is, same) = ap has_float same ∙ (low_tree t r is).1

-- a map with indexes nested at most 40 deep is written with at most 127 levels
pub shallow_within : (t : MapTree) → levels t ≤ 40 → IsShallow t
shallow_within t few d (r, is, same) =
    subst (λ d. depth d ≤ max_depth) (sym same) (let low = (low_tree t r is).0 in omega (arith, few))

value_once : (t : MapTree) (d e : Data) → IsValueOf t d → IsValueOf t e → d ≡ e
value_once t d e (r, is, same) (r', is', same') = same ∙ ap written (tree_written_once t r r' is is') ∙ sym same'

-- a map is written as at most one text
pub written_text_once : (t : MapTree) (a b : List ℕ) → IsTextOf t a → IsTextOf t b → a ≡ b
written_text_once t a b (d, of_d, is) (e, of_e, is') = is ∙ ap compact_text (value_once t d e of_d of_e) ∙ sym is'
