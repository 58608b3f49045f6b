-- A map has at most one record. This record has at most two levels and no fraction, and its text has no junk header. If
-- the record is fine (`IsFine`) and decoding the record restores the map, decoding the text restores the map.
use Rattle.std.proofs.Common.{◌≡◌, inl, ℕ, ◌+◌, length, ◌≤◌, List, [], ◌∷◌, map, Option, Some, None, option_map, map-id}
use Rattle.std.proofs.Common.{false, Ok, refl, sym, ap, ◌∙◌, subst, arith}
use Rattle.std.specs.Ordering.{nat_cmp, match_ordering}
use Rattle.std.specs.Cmp.Lexicographic.{slice_cmp}
use Rattle.std.specs.declared.cmp.Ordering.{Ordering}
use Rattle.std.specs.declared.cmp.Ordering.TheVariants.{Less, Equal, Greater}
use Rattle.std.proofs.lemmas.Bool.{or_from, or_parts}
use Rattle.serde_json.specs.Data.{Data, string, array, object, Members, no_members, member, put, depth, items_depth}
use Rattle.serde_json.specs.Data.{members_depth}
use Rattle.serde_json.specs.Read.{max_depth}
use Rattle.serde_json.specs.View.{items_of}
use Rattle.serde_json.specs.Written.{compact_text, has_float, items_have_float, members_have_float}
use Rattle.sourcemap_headers.specs.Header.{after_header}
use Rattle.sourcemap_headers.specs.DataUrl.{Holds}
use Rattle.sourcemap_headers.specs.DebugId.{debug_id_text}
use Rattle.sourcemap_mappings.proofs.WriteLaws.{IsWritten-same, IsRangeText-same}
use Rattle.sourcemap_records.specs.Field.{written_number, written_or_null, written_list, put_if, put_all}
use Rattle.sourcemap_records.specs.Jsontypes.{Tree, plain, flat, entries, written, written_fields, IsFine}
use Rattle.sourcemap_records.proofs.ReadBackLemmas.{record-back}
use Rattle.sourcemap_map_regular.specs.Map.{MapValue, IsWellFormed}
use Rattle.sourcemap_map_regular.specs.Encode.{IsRecordOf, RecordAnswer, ReadsBack, Restores, record_with}
use Rattle.sourcemap_map_regular.specs.Encode.{written_contents, written_ids}
use Rattle.sourcemap_records.specs.Bytes.{HoldJson, BytesHaveResult, UrlHasResult}
use Rattle.sourcemap_map_regular.specs.Decode.{RecordDecodes, RegularDecodes}
use Rattle.sourcemap_map_regular.specs.Write.{IsText, IsEncoded, IsCompactTextOf}
use Rattle.sourcemap_records.proofs.BytesLemmas.{value_of_record}

-- at most `n` levels, and no floating-point number
abbrev pub IsLow : ℕ → Data → Type 0
IsLow n d = (depth d ≤ n) × (has_float d ≡ false)

abbrev AreLow : ℕ → Members → Type 0
AreLow n ms = (members_depth ms ≤ n) × (members_have_float ms ≡ false)

abbrev IsLowIf : ℕ → Option Data → Type 0
IsLowIf n None = Unit {0}
IsLowIf n (Some d) = IsLow n d

abbrev pub EntriesAreLow : ℕ → List (List ℕ × Option Data) → Type 0
EntriesAreLow n [] = Unit {0}
EntriesAreLow n (e ∷ es) = IsLowIf n e.1 × EntriesAreLow n es

module _ (n : ℕ) where
  low_member : (k : List ℕ) (d : Data) (ms : Members) → IsLow n d → AreLow n ms → AreLow n (member k d ms)
  low_member k d ms p q =
      ((let a = p.0 in let b = q.0 in omega arith), or_from (has_float d) (members_have_float ms) p.1 q.1)

  low_head : (k : List ℕ) (d : Data) (ms : Members) → AreLow n (member k d ms) → IsLow n d
  low_head k d ms p = ((let a = p.0 in omega arith), (or_parts (has_float d) (members_have_float ms) p.1).0)

  low_tail : (k : List ℕ) (d : Data) (ms : Members) → AreLow n (member k d ms) → AreLow n ms
  low_tail k d ms p = ((let a = p.0 in omega arith), (or_parts (has_float d) (members_have_float ms) p.1).1)

  low_none : AreLow n no_members
  low_none = (omega arith, refl)

  low_order : (o : Ordering) (a b c : Members) → AreLow n a → AreLow n b → AreLow n c
      → AreLow n (match_ordering o a b c)
  low_order Less a b c p q r = p
  low_order Equal a b c p q r = q
  low_order Greater a b c p q r = r

  low_put : (k : List ℕ) (d : Data) (ms : Members) → IsLow n d → AreLow n ms → AreLow n (put k d ms)
  low_put k d no_members p q = low_member k d no_members p q
  low_put k d (member l e ms) p q =
      let rest = low_tail l e ms q in
      low_order (slice_cmp nat_cmp k l) (member k d (member l e ms)) (member l d ms) (member l e (put k d ms))
      (low_member k d (member l e ms) p q) (low_member l d ms p rest)
      (low_member l e (put k d ms) (low_head l e ms q) (low_put k d ms p rest))

  low_put_if : (k : List ℕ) (o : Option Data) (ms : Members) → IsLowIf n o → AreLow n ms → AreLow n (put_if k o ms)
  low_put_if k None ms p q = q
  low_put_if k (Some d) ms p q = low_put k d ms p q

  low_put_all : (es : List (List ℕ × Option Data)) (ms : Members) → EntriesAreLow n es → AreLow n ms
      → AreLow n (put_all es ms)
  low_put_all [] ms p q = q
  low_put_all (e ∷ es) ms p q = low_put_all es (put_if e.0 e.1 ms) p.1 (low_put_if e.0 e.1 ms p.0 q)

  -- an object has at most one level more than its members
  pub low_object : (es : List (List ℕ × Option Data)) → EntriesAreLow n es
      → IsLow (n + 1) (object (put_all es no_members))
  low_object es all = let p = low_put_all es no_members all low_none in ((let a = p.0 in omega arith), p.1)

  low_items : {X : Type 0} (write : X → Data) → ((x : X) → IsLow n (write x)) → (xs : List X)
      → (items_depth (items_of (map write xs)) ≤ n) × (items_have_float (items_of (map write xs)) ≡ false)
  low_items write each [] = (omega arith, refl)
  low_items write each (x ∷ xs) =
      let p = each x in let q = low_items write each xs in (
        (let a = p.0 in let b = q.0 in omega arith),
        or_from (has_float (write x)) (items_have_float (items_of (map write xs))) p.1 q.1,
      )

  -- a list has at most one level more than its items
  pub low_list : {X : Type 0} (write : X → Data) → ((x : X) → IsLow n (write x)) → (xs : List X)
      → IsLow (n + 1) (written_list write xs)
  low_list write each xs = let p = low_items write each xs in ((let a = p.0 in omega arith), p.1)

  pub low_or_null : {X : Type 0} (write : X → Data) → ((x : X) → IsLow n (write x)) → (o : Option X)
      → IsLow n (written_or_null write o)
  low_or_null write each None = (omega arith, refl)
  low_or_null write each (Some x) = each x

  pub low_if : {X : Type 0} (write : X → Data) → ((x : X) → IsLow n (write x)) → (o : Option X)
      → IsLowIf n (option_map write o)
  low_if write each None = tt
  low_if write each (Some x) = each x

  -- the bound on the levels may be raised
  pub low_entries : (more : ℕ) (es : List (List ℕ × Option Data)) → EntriesAreLow n es → EntriesAreLow (n + more) es
  low_entries more [] all = tt
  low_entries more (e ∷ es) all = (by_case e.1 all.0, low_entries more es all.1)
    where
      by_case : (o : Option Data) → IsLowIf n o → IsLowIf (n + more) o
      by_case None p = tt
      by_case (Some d) p = ((let a = p.0 in omega arith), p.1)

  pub low_string : (s : List ℕ) → IsLow n (string s)
  low_string s = (omega arith, refl)

  pub low_number : (k : ℕ) → IsLow n (written_number k)
  low_number k = (omega arith, refl)

-- each member of the record of a map has at most one level, and no floating-point number
pub entries_low : (m : MapValue) (mappings : List ℕ) (ranges : Option (List ℕ))
    → EntriesAreLow 1 (entries (record_with m mappings ranges))
entries_low m mappings ranges = (
  low_number 1 3,
  (
    low_if 1 string (low_string 1) m.file,
    (
      texts (map Some m.sources),
      (
        low_if 1 string (low_string 1) m.root,
        (
          low_if 1 (written_list (written_or_null string)) texts (written_contents (length m.sources) m.contents),
          (
            names m.names,
            (
              low_if 1 string (low_string 1) ranges,
              (
                low_string 1 mappings,
                (
                  low_if 1 (written_list written_number) (low_list 0 written_number (low_number 0))
                      (written_ids m.ignored),
                  (
                    tt,
                    (
                      tt,
                      (
                        tt,
                        (
                          low_if 1 (λ id. string (debug_id_text id)) (λ id. low_string 1 (debug_id_text id)) m.debug_id,
                          tt,
                        ),
                      ),
                    ),
                  ),
                ),
              ),
            ),
          ),
        ),
      ),
    ),
  ),
)
  where
    texts : (xs : List (Option (List ℕ))) → IsLow 1 (written_list (written_or_null string) xs)
    texts = low_list 0 (written_or_null string) (low_or_null 0 string (low_string 0))

    names : (xs : List (List ℕ)) → IsLow 1 (written_list (λ d. d) (map string xs))
    names xs =
        subst (λ ds. IsLow 1 (array (items_of ds))) (sym (map-id (map string xs))) (low_list 0 string (low_string 0) xs)

low_written : (m : MapValue) (mappings : List ℕ) (ranges : Option (List ℕ))
    → IsLow 2 (written (plain (record_with m mappings ranges)))
low_written m mappings ranges = low_object 1 (entries (record_with m mappings ranges)) (entries_low m mappings ranges)

shallow : (m : MapValue) (mappings : List ℕ) (ranges : Option (List ℕ))
    → depth (written (plain (record_with m mappings ranges))) ≤ max_depth
shallow m mappings ranges = let p = (low_written m mappings ranges).0 in omega arith

no_fraction : (m : MapValue) (mappings : List ℕ) (ranges : Option (List ℕ))
    → has_float (written (plain (record_with m mappings ranges))) ≡ false
no_fraction m mappings ranges = (low_written m mappings ranges).1

-- a map has at most one record
pub record_once : (m : MapValue) (a b : Tree) → IsRecordOf m a → IsRecordOf m b → a ≡ b
record_once m a b (mappings, ranges, of_mappings, of_ranges, is) (mappings', ranges', of_mappings', of_ranges', is') =
    let one : mappings ≡ mappings' =
    IsWritten-same (length m.names) m.tokens mappings mappings' of_mappings of_mappings' in
    let range : ranges ≡ ranges' = IsRangeText-same m.tokens ranges ranges' of_ranges of_ranges' in
    is ∙ ap (λ r. plain (record_with m r ranges)) one ∙ ap (λ r. plain (record_with m mappings' r)) range ∙ sym is'

-- the value of the record has at most two levels, and no fraction
pub record-low : (m : MapValue) (t : Tree) → IsRecordOf m t → IsLow 2 (written t)
record-low m t (mappings, ranges, of_mappings, of_ranges, is) =
    subst (λ t. IsLow 2 (written t)) (sym is) (low_written m mappings ranges)

-- no number of the record has a fraction
pub record-whole : (m : MapValue) (t : Tree) → IsRecordOf m t → has_float (written t) ≡ false
record-whole m t (mappings, ranges, of_mappings, of_ranges, is) =
    ap (λ t. has_float (written t)) is ∙ no_fraction m mappings ranges

-- a text that encodes `m` is compact, since the record of `m` has no fraction
pub encoded-compact : (m : MapValue) (text : List ℕ) → IsEncoded (RecordAnswer m) text → IsCompactTextOf m text
encoded-compact m text h = (h.0, h.1.0, h.2.compact (record-whole m h.0 h.1.0))

-- the compact text of an object begins with a brace, so it has no junk header
pub no_header : (text : List ℕ) (ms : Members) → text ≡ compact_text (object ms) → after_header text ≡ Some text
no_header text ms is = ap after_header is ∙ ap Some (sym is)

-- if the record is fine (`IsFine`) and decoding the record restores `m`, decoding the text of the record restores `m`
text_back : (m : MapValue) (mappings : List ℕ) (ranges : Option (List ℕ)) (text : List ℕ)
    → IsFine (plain (record_with m mappings ranges))
    → ReadsBack (RecordDecodes (record_with m mappings ranges)) (Restores m)
    → IsText (plain (record_with m mappings ranges)) text → ReadsBack (BytesHaveResult RegularDecodes text) (Restores m)
text_back m mappings ranges text fine back is =
    let t : Tree = plain (record_with m mappings ranges) in
    let bare =
    no_header text (written_fields (record_with m mappings ranges)) (is.compact (no_fraction m mappings ranges)) in
    let holds : HoldJson text (written t) = (text, bare, is.reads_back (shallow m mappings ranges)) in (
      back.0,
      inl (
        written t,
        holds,
        value_of_record RegularDecodes (written t) t (record-back t fine.0 fine.1) (Ok back.0) back.1,
      ),
      back.2,
    )

-- decoding the text of a well-formed map `m` restores `m`
pub encoded-back : (m : MapValue) (text : List ℕ) → IsEncoded (RecordAnswer m) text → IsWellFormed m
    → ReadsBack (BytesHaveResult RegularDecodes text) (Restores m)
encoded-back m text h well = by h.0 h.1.0 h.1.1 (h.1.2 well) h.2
  where
    by : (t : Tree) → IsRecordOf m t → IsFine t → ReadsBack (RecordDecodes (flat t)) (Restores m) → IsText t text
        → ReadsBack (BytesHaveResult RegularDecodes text) (Restores m)
    by t r fine back is =
        text_back m r.0 r.1 text (subst IsFine r.4 fine)
        (subst (λ (t : Tree). ReadsBack (RecordDecodes (flat t)) (Restores m)) r.4 back)
        (subst (λ (t : Tree). IsText t text) r.4 is)

-- if decoding `text` restores `m`, decoding a data URL that holds `text` restores `m`
pub url-back : (m : MapValue) (url text : List ℕ) → Holds url text
    → ReadsBack (BytesHaveResult RegularDecodes text) (Restores m)
    → ReadsBack (UrlHasResult RegularDecodes url) (Restores m)
url-back m url text holds back = (back.0, inl (text, holds, back.1), back.2)
