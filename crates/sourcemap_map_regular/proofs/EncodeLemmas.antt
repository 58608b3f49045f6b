-- A map, its record, and the map that the record decodes to.
use Rattle.std.proofs.Common.{◌≡◌, ℕ, zero, suc, ◌≤◌, ◌==◌, List, [], ◌∷◌, ◌++◌, length, map, fold, Option, Some, None}
use Rattle.std.proofs.Common.{option_map, option_and_then, is_some, true, false, Result, Ok, Err, IfOk, refl, sym, ap}
use Rattle.std.proofs.Common.{subst, ◌∙◌, arith, inl, inr, slice_get, nat_lt, if◌then◌else◌, append_assoc, append-nil}
use Rattle.std.proofs.lemmas.Bool.{cases_Bool}
use Rattle.std.proofs.lemmas.Bool.Decides.{nat_tests}
use Rattle.std.specs.declared.cmp.Ordering.TheVariants.{Less, Greater}
use Rattle.std.specs.List.{list_any, AllByRecursion}
use Rattle.std.specs.List.Sorted.{IsStrictlySortedBy}
use Rattle.std.specs.Ordering.{nat_cmp}
use Rattle.std.specs.BTreeSet.{insert_key}
use Rattle.std.proofs.lemmas.List.{length-map}
use Rattle.std.proofs.lemmas.Option.{slice_get_past}
use Rattle.serde_json.specs.Data.{string}
use Rattle.sourcemap_errors.specs.Answer.{IsAnswer}
use Rattle.sourcemap_errors.specs.declared.errors.Error.{Error}
use Rattle.sourcemap_tokens.specs.declared.tokens.RawToken.{RawToken}
use Rattle.sourcemap_tokens.specs.Search.{closest_item}
use Rattle.sourcemap_tokens.specs.Tokens.{destination, position_cmp, with_valid_name, reduced}
use Rattle.sourcemap_mappings.specs.Read.{MappingsAnswer}
use Rattle.sourcemap_tokens.proofs.TokensLemmas.{closest_item-reduced}
use Rattle.sourcemap_records.specs.Jsontypes.{Fields, Tree, flat, tree}
use Rattle.sourcemap_records.specs.declared.jsontypes.RawSourceMap.{RawSourceMap}
use Rattle.sourcemap_map_parts.specs.Contents.{fitted}
use Rattle.sourcemap_map_parts.specs.Sources.{resolved}
use Rattle.sourcemap_map_conversions.specs.ToRecord.{RecordAnswer as PartsAnswer}
use Rattle.sourcemap_map_parts.proofs.ContentsLemmas.{slice_get-fitted, length-fitted}
use Rattle.sourcemap_map_regular.specs.Map.{MapValue, IsWellFormed, meaning_of, MeansTheSame, distance, column_after}
use Rattle.sourcemap_map_regular.specs.MapStored.{parts_in}
use Rattle.sourcemap_map_regular.specs.Decode.{list_or_empty, name_read, source_read, file_read, rising, HasFewItems}
use Rattle.sourcemap_map_regular.specs.Decode.{TokensAnswer, map_of, RecordDecodes}
use Rattle.sourcemap_map_regular.proofs.MapLemmas.{of_item, meaning-item}
use Rattle.sourcemap_map_regular.specs.Encode.{KeepsParts, ReadsBack, Restores, RecordAnswer, record_with, written_ids}
use Rattle.sourcemap_map_regular.specs.Write.{IsEncoded}

-- Sorting strictly sorted ids changes nothing.

flipped : (x k : ℕ) → nat_cmp x k ≡ Less → nat_cmp k x ≡ Greater
flipped x k e = grind (arith, nat_tests)

insert_key-last : (pre : List ℕ) (k : ℕ) → AllByRecursion (λ x. nat_cmp x k ≡ Less) pre
    → insert_key nat_cmp pre k ≡ pre ++ k ∷ []
insert_key-last [] k below = refl
insert_key-last (x ∷ xs) k below = rw (flipped x k below.0) (ap (λ ys. x ∷ ys) (insert_key-last xs k below.1))

rising-onto : (pre ks : List ℕ) → AllByRecursion (λ x. AllByRecursion (λ y. nat_cmp x y ≡ Less) ks) pre
    → IsStrictlySortedBy nat_cmp ks → fold (insert_key nat_cmp) pre ks ≡ pre ++ ks
unfolding IsStrictlySortedBy
rising-onto pre [] below up = sym (append-nil pre)
rising-onto pre (k ∷ ks) below up =
    rw (insert_key-last pre k (heads pre below))
    (rising-onto (pre ++ k ∷ []) ks (and_last pre (tails pre below) up.0) up.1 ∙ append_assoc pre (k ∷ []) ks)
  where
    heads : (pre : List ℕ) → AllByRecursion (λ x. AllByRecursion (λ y. nat_cmp x y ≡ Less) (k ∷ ks)) pre
        → AllByRecursion (λ x. nat_cmp x k ≡ Less) pre
    heads [] h = tt
    heads (x ∷ xs) h = (h.0.0, heads xs h.1)

    tails : (pre : List ℕ) → AllByRecursion (λ x. AllByRecursion (λ y. nat_cmp x y ≡ Less) (k ∷ ks)) pre
        → AllByRecursion (λ x. AllByRecursion (λ y. nat_cmp x y ≡ Less) ks) pre
    tails [] h = tt
    tails (x ∷ xs) h = (h.0.1, tails xs h.1)

    and_last : (pre : List ℕ) → AllByRecursion (λ x. AllByRecursion (λ y. nat_cmp x y ≡ Less) ks) pre
        → AllByRecursion (λ y. nat_cmp k y ≡ Less) ks
        → AllByRecursion (λ x. AllByRecursion (λ y. nat_cmp x y ≡ Less) ks) (pre ++ k ∷ [])
    and_last [] h last = (last, tt)
    and_last (x ∷ xs) h last = (h.0, and_last xs h.1 last)

pub rising-sorted : (ids : List ℕ) → IsStrictlySortedBy nat_cmp ids → rising ids ≡ ids
rising-sorted ids up = rising-onto [] ids tt up

-- Decoding the record.

map-read_names : (names : List (List ℕ)) → map name_read (map string names) ≡ names
map-read_names [] = refl
map-read_names (n ∷ ns) = ap (λ rest. n ∷ rest) (map-read_names ns)

map-read_sources : (sources : List (List ℕ)) → map source_read (map Some sources) ≡ sources
map-read_sources [] = refl
map-read_sources (s ∷ ss) = ap (λ rest. s ∷ rest) (map-read_sources ss)

pub read_file : (file : Option (List ℕ)) → option_map file_read (option_map string file) ≡ file
read_file None = refl
read_file (Some f) = refl

read_ids : (ids : List ℕ) → list_or_empty (written_ids ids) ≡ ids
read_ids [] = refl
read_ids (x ∷ xs) = let more : (suc (length xs) == 0) ≡ false = grind (arith, nat_tests) in rw more

-- if no item of a list is `Some`, there are no contents at any index
none_in : (contents : List (Option (List ℕ))) (i : ℕ) → list_any is_some contents ≡ false
    → option_and_then (λ x. x) (slice_get contents i) ≡ None
none_in [] i e = refl
none_in (Some x ∷ cs) i e = cc
none_in (None ∷ cs) zero e = refl
none_in (None ∷ cs) (suc i) e = none_in cs i e

read_contents : (contents : List (Option (List ℕ))) (i : ℕ)
    → option_and_then (λ x. x) (slice_get (list_or_empty (if list_any is_some contents then Some contents else None)) i)
    ≡ option_and_then (λ x. x) (slice_get contents i)
read_contents contents i =
    elim (cases_Bool (list_any is_some contents)) [
      | inl some ↦ rw some
      | inr none ↦ rw none (sym (none_in contents i none))
    ]

few_read : (contents : List (Option (List ℕ)))
    → length (list_or_empty (if list_any is_some contents then Some contents else None)) ≤ length contents
few_read contents = elim (list_any is_some contents) as (λ b. length (list_or_empty (if b then Some contents else None))
    ≤ length contents) [ true ↦ omega arith | false ↦ omega arith ]

-- let there be at most 4294967295 names, and let no name have the index `id`. If 4294967295 replaces `id`, there is
-- still no name
sound_name : (names : List (List ℕ)) (id : ℕ) → length names ≤ 4294967295
    → slice_get names (if nat_lt id (length names) then id else 4294967295) ≡ slice_get names id
sound_name names id few =
    elim (cases_Bool (nat_lt id (length names))) [
      | inl below ↦ rw below
      | inr above ↦
          let past : length names ≤ id = grind (arith, nat_tests) in
          rw above (slice_get_past names 4294967295 few ∙ sym (slice_get_past names id past))
    ]

-- Meaning.

pub means_the_same : (back m : MapValue) → length m.names ≤ 4294967295 → KeepsParts back m → MeansTheSame back m
unfolding of_item
means_the_same back m few kept p =
    let tokens : closest_item destination position_cmp back.tokens p
    ≡ option_map (with_valid_name (length m.names)) (closest_item destination position_cmp m.tokens p) =
    ap (λ ts. closest_item destination position_cmp ts p) kept.tokens
    ∙ closest_item-reduced (length m.names) m.tokens p in
    meaning-item back p ∙ ap (of_item back p) tokens ∙ each (closest_item destination position_cmp m.tokens p)
    ∙ sym (meaning-item m p)
  where
    one : (t : RawToken)
        → meaning_of back (with_valid_name (length m.names) t) (distance t p) ≡ meaning_of m t (distance t p)
    one t = λ i. record {
      source = slice_get (map (resolved (kept.root i)) (kept.sources i)) t.src_id;
      line = t.src_line;
      column = column_after t.src_col (distance t p);
      name =
          (ap
          (λ names. slice_get names (if nat_lt t.name_id (length m.names) then t.name_id else 4294967295)) kept.names
          ∙ sound_name m.names t.name_id few) i;
      is_range = t.is_range;
    }

    each : (o : Option RawToken) → of_item back p (option_map (with_valid_name (length m.names)) o) ≡ of_item m p o
    each None = refl
    each (Some t) = ap Some (one t)

-- let `m` have at most 4294967295 names and at most 4294967295 sources, and strictly sorted ignored ids. If `mappings`
-- and `ranges` decode to the reduced tokens of `m`, decoding the record with these two texts restores `m`
pub reads_back : (m : MapValue) (mappings : List ℕ) (ranges : Option (List ℕ))
    → length m.names ≤ 4294967295 → length m.sources ≤ 4294967295 → IsStrictlySortedBy nat_cmp m.ignored
    → MappingsAnswer mappings (list_or_empty ranges) (record { sources = length m.sources; names = length m.names })
    (Ok (reduced (length m.names) m.tokens))
    → ReadsBack (RecordDecodes (record_with m mappings ranges)) (Restores m)
reads_back m mappings ranges few_names few_sources up answer =
    let r : Fields = record_with m mappings ranges in
    let back : MapValue = map_of r (reduced (length m.names) m.tokens) in
    let below_max : HasFewItems r = record {
      sources = rw length-map few_sources;
      names = rw length-map few_names;
      contents = (let few = few_read (fitted (length m.sources) m.contents) in let many =
          length-fitted m.contents (length m.sources) in omega arith);
    } in
    let tokens : TokensAnswer r (Ok back.tokens) = rw (length-map, length-map) answer in
    let kept : KeepsParts back m = record {
      tokens = refl;
      file = read_file m.file;
      root = refl;
      names = map-read_names m.names;
      sources = map-read_sources m.sources;
      contents = λ id below. read_contents (fitted (length m.sources) m.contents) id
          ∙ ap (option_and_then (λ x. x)) (slice_get-fitted m.contents (length m.sources) id below);
      ignored = rw (read_ids m.ignored) (rising-sorted m.ignored up);
      debug_id = refl;
    } in
    (back, (below_max, tokens, refl), (means_the_same back m few_names kept, kept))

-- Let a map have at most 4294967295 names, at most 4294967295 sources, and strictly sorted ignored ids. A record
-- written from the parts of this map then encodes this map (`RecordAnswer`).

pub answered : (m : MapValue) → length m.names ≤ 4294967295 → length m.sources ≤ 4294967295
    → IsStrictlySortedBy nat_cmp m.ignored
    → (t : Tree) → PartsAnswer (parts_in m) (Ok t) → RecordAnswer m (Ok t)
answered m few_names few_sources up t ((mappings, ranges, texts, is), fine) = (
  (mappings, ranges, texts.text, texts.bits, is),
  fine,
  λ well. subst (λ r. ReadsBack (RecordDecodes r) (Restores m)) (sym (ap flat is))
      (reads_back m mappings ranges few_names few_sources up (texts.back (length m.sources) (omega arith) well)),
)

pub encoded-map : (m : MapValue) → length m.names ≤ 4294967295 → length m.sources ≤ 4294967295
    → IsStrictlySortedBy nat_cmp m.ignored
    → (text : List ℕ) → IsEncoded (PartsAnswer (parts_in m)) text → IsEncoded (RecordAnswer m) text
encoded-map m few_names few_sources up text (t, answer, is) = (t, answered m few_names few_sources up t answer, is)

pub answered-if : (m : MapValue) → length m.names ≤ 4294967295 → length m.sources ≤ 4294967295
    → IsStrictlySortedBy nat_cmp m.ignored
    → (result : Result RawSourceMap Error) → IsAnswer tree (PartsAnswer (parts_in m)) result
    → IsAnswer tree (RecordAnswer m) result
answered-if m few_names few_sources up (Ok r) h = answered m few_names few_sources up (tree r) h
answered-if m few_names few_sources up (Err e) h = h

-- if encoding a well-formed map `m` returns a record, decoding this record restores `m`
pub back-if : (m : MapValue) (result : Result RawSourceMap Error) → IsAnswer tree (RecordAnswer m) result
    → IfOk result (λ r. IsWellFormed m → ReadsBack (RecordDecodes (flat (tree r))) (Restores m))
back-if m (Ok r) h = h.2
back-if m (Err e) h = tt
