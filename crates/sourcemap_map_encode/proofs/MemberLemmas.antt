-- The members of a map's record are sorted by key. If each value is plain, the text of the members, between `{` and
-- `}`, is the JSON text of the record (`IsText`).
use Rattle.std.proofs.Common.{◌≡◌, if◌then◌else◌, ◌==◌, ℕ, ◌<◌, ◌^◌, List, [], ◌∷◌, ◌++◌, length, map, Bool, true}
use Rattle.std.proofs.Common.{map-id}
use Rattle.std.proofs.Common.{false, ◌||◌, ◌&&◌, codes, is_some, Option, Some, None, option_map, refl, sym, ap, subst}
use Rattle.std.proofs.Common.{◌∙◌, append_assoc, append-nil, arith}
use Rattle.std.specs.List.{AllByRecursion, list_any}
use Rattle.std.specs.Str.{IsUtf8}
use Rattle.std.specs.Ordering.{nat_cmp}
use Rattle.std.specs.Cmp.Lexicographic.{slice_cmp}
use Rattle.std.specs.declared.cmp.Ordering.{Ordering}
use Rattle.std.specs.declared.cmp.Ordering.TheVariants.{Less, Equal, Greater}
use Rattle.std.proofs.lemmas.Bool.{and_parts}
use Rattle.json.specs.Print.{quoted}
use Rattle.json.proofs.Printed.Utf8.{are_ascii, IsUtf8-are_ascii}
use Rattle.sourcemap_headers.specs.DebugId.{debug_id_text}
use Rattle.serde_json.specs.Data.{Data, null, string, number, unsigned, array, object, Members, no_members, member, put}
use Rattle.serde_json.specs.Read.{read}
use Rattle.serde_json.specs.View.{items_of}
use Rattle.serde_json.specs.Written.{comma_if, compact_text, members_text}
use Rattle.sourcemap_json_write.specs.Writing.{IsPlainValue, ArePlainItems}
use Rattle.sourcemap_json_write.proofs.WritingLemmas.{IsPlainRest, plain_unsigned, plain_no_members, plain_member}
use Rattle.sourcemap_json_write.proofs.WritingLemmas.{plain_object, plain_array, plain_item, plain_no_items}
use Rattle.sourcemap_json_write.proofs.WritingLemmas.{plain_string, plain_reads_back}
use Rattle.sourcemap_records.specs.Field.{put_if, written_list, written_number, written_or_null}
use Rattle.sourcemap_records.specs.Jsontypes.{FitsU32, plain, written, written_fields}
use Rattle.sourcemap_map_parts.specs.Contents.{fitted}
use Rattle.sourcemap_map_conversions.specs.Parts.{PartsValue}
use Rattle.sourcemap_map_conversions.specs.ToRecord.{record_with, written_contents, written_ids}
use Rattle.sourcemap_map_encode.specs.Encoded.{IsText}
use Rattle.sourcemap_map_encode.specs.Members.{Entry, key_text, part, parts_text, later_after, IsPlainEntry}
use Rattle.sourcemap_map_encode.specs.Members.{debug_id_entry, file_entry, ids_entry, mappings_entry}
use Rattle.sourcemap_map_encode.specs.Members.{names_entry, ranges_entry, root_entry, contents_entry, version_entry}
use Rattle.sourcemap_map_encode.specs.Members.{leading_entries, token_entries, source_entries}

-- Members.

-- all members of the record
abbrev pub map_entries : PartsValue → List ℕ → Option (List ℕ) → List Entry
map_entries m mappings ranges =
    leading_entries m.metadata
    ++ (token_entries m.names mappings ranges ++ (source_entries m.sources m.contents ++ version_entry ∷ []))

abbrev pub member_if : List ℕ → Option Data → Members → Members
member_if key None ms = ms
member_if key (Some d) ms = member key d ms

abbrev pub chain : List Entry → Members
chain [] = no_members
chain (e ∷ es) = member_if e.0 e.1 (chain es)

-- `Past key e`: `key` is greater than the key of `e`. `Before key e`: `key` is less than the key of `e`
abbrev Past : List ℕ → Entry → Type 0
Past key e = slice_cmp nat_cmp key e.0 ≡ Greater

abbrev Before : List ℕ → Entry → Type 0
Before key e = slice_cmp nat_cmp key e.0 ≡ Less

first_put : (key : List ℕ) (d : Data) (es : List Entry) → AllByRecursion (Before key) es
    → put key d (chain es) ≡ member key d (chain es)
first_put key d [] before = refl
first_put key d ((l, None) ∷ es) before = first_put key d es before.1
first_put key d ((l, Some e) ∷ es) before = rw before.0 refl

first : (key : List ℕ) (o : Option Data) (es : List Entry) → AllByRecursion (Before key) es
    → put_if key o (chain es) ≡ chain ((key, o) ∷ es)
first key None es before = refl
first key (Some d) es before = first_put key d es before

skip : (key l : List ℕ) (o p : Option Data) (ms : Members) → slice_cmp nat_cmp key l ≡ Greater
    → put_if key o (member_if l p ms) ≡ member_if l p (put_if key o ms)
skip key l None p ms past = refl
skip key l (Some d) None ms past = refl
skip key l (Some d) (Some e) ms past = rw past refl

-- an entry is inserted after the entries with lesser keys and before the entries with greater keys
between : (key : List ℕ) (o : Option Data) (left right : List Entry) → AllByRecursion (Past key) left
    → AllByRecursion (Before key) right
    → put_if key o (chain (left ++ right)) ≡ chain (left ++ (key, o) ∷ right)
between key o [] right past before = first key o right before
between key o (e ∷ left) right past before =
    skip key e.0 o e.1 (chain (left ++ right)) past.0 ∙ ap (member_if e.0 e.1) (between key o left right past.1 before)

last : (key : List ℕ) (o : Option Data) (done : List Entry) → AllByRecursion (Past key) done
    → put_if key o (chain done) ≡ chain (done ++ (key, o) ∷ [])
last key o done past =
    ap (λ (es : List Entry). put_if key o (chain es)) (sym (append-nil done)) ∙ between key o done [] past tt

-- inserting the members of a map's record in the order of `written_fields` (`version` first, `debugId` last) gives the
-- members sorted by key. Any member may be missing
sorted : (v f s r c n g m i d : Option Data)
    → put_if (codes "debugId") d (put_if (codes "ignoreList") i
    (put_if (codes "mappings") m (put_if (codes "rangeMappings") g (put_if (codes "names") n
    (put_if (codes "sourcesContent") c (put_if (codes "sourceRoot") r
    (put_if (codes "sources") s (put_if (codes "file") f (put_if (codes "version") v no_members)))))))))
    ≡ chain ((codes "debugId", d) ∷ (
      codes "file",
      f,
    ) ∷ (codes "ignoreList", i) ∷ (codes "mappings", m) ∷ (codes "names", n) ∷ (codes "rangeMappings", g)
    ∷ (codes "sourceRoot", r) ∷ (codes "sources", s) ∷ (codes "sourcesContent", c) ∷ (codes "version", v) ∷ [])
sorted v f s r c n g m i d =
    let V : Entry = (codes "version", v) in
    let F : Entry = (codes "file", f) in
    let S : Entry = (codes "sources", s) in
    let R : Entry = (codes "sourceRoot", r) in
    let C : Entry = (codes "sourcesContent", c) in
    let N : Entry = (codes "names", n) in
    let G : Entry = (codes "rangeMappings", g) in
    let M : Entry = (codes "mappings", m) in
    let I : Entry = (codes "ignoreList", i) in
    let with_version = first (codes "version") v [] tt in
    let with_file = ap (put_if (codes "file") f) with_version ∙ between (codes "file") f [] (V ∷ []) tt (refl, tt) in
    let with_sources =
    ap (put_if (codes "sources") s) with_file ∙ between (codes "sources") s (F ∷ []) (V ∷ []) (refl, tt) (refl, tt) in
    let with_root = ap (put_if (codes "sourceRoot") r) with_sources ∙ between (codes "sourceRoot") r (F ∷ []) (S ∷ V
    ∷ []) (refl, tt) (refl, (refl, tt)) in
    let with_contents = ap (put_if (codes "sourcesContent") c) with_root ∙ between (codes "sourcesContent") c (F ∷ R ∷ S
    ∷ []) (V ∷ []) (refl, (refl, (refl, tt))) (refl, tt) in
    let with_names = ap (put_if (codes "names") n) with_contents
    ∙ between (codes "names") n (F ∷ []) (R ∷ S ∷ C ∷ V ∷ []) (refl, tt) (refl, (refl, (refl, (refl, tt)))) in
    let with_ranges = ap (put_if (codes "rangeMappings") g) with_names
    ∙ between (codes "rangeMappings") g (F ∷ N ∷ []) (R ∷ S ∷ C ∷ V ∷ []) (
      refl,
      (refl, tt),
    ) (refl, (refl, (refl, (refl, tt)))) in
    let with_mappings = ap (put_if (codes "mappings") m) with_ranges
    ∙ between (codes "mappings") m (F ∷ []) (N ∷ G ∷ R ∷ S ∷ C ∷ V ∷ []) (
      refl,
      tt,
    ) (refl, (refl, (refl, (refl, (refl, (refl, tt)))))) in
    let with_ids = ap (put_if (codes "ignoreList") i) with_mappings
    ∙ between (codes "ignoreList") i (F ∷ []) (M ∷ N ∷ G ∷ R ∷ S ∷ C ∷ V ∷ []) (
      refl,
      tt,
    ) (refl, (refl, (refl, (refl, (refl, (refl, (refl, tt))))))) in
    ap (put_if (codes "debugId") d) with_ids
    ∙ between (codes "debugId") d [] (F ∷ I ∷ M ∷ N ∷ G ∷ R ∷ S ∷ C ∷ V ∷ []) tt (
      refl,
      (refl, (refl, (refl, (refl, (refl, (refl, (refl, (refl, tt)))))))),
    )

same_sources : (xs : List (List ℕ)) → map (written_or_null string) (map Some xs) ≡ map string xs
same_sources [] = refl
same_sources (x ∷ xs) = ap (λ rest. string x ∷ rest) (same_sources xs)

pub members_are : (m : PartsValue) (mappings : List ℕ) (ranges : Option (List ℕ))
    → written_fields (record_with m mappings ranges) ≡ chain (map_entries m mappings ranges)
members_are m mappings ranges =
    sorted (Some (written_number 3)) (option_map string m.metadata.file)
    (Some (written_list (written_or_null string) (map Some m.sources.texts))) (option_map string m.sources.root)
    (option_map (written_list (written_or_null string)) (written_contents (length m.sources.texts) m.contents))
    (Some (written_list (λ d. d) (map string m.names)))
    (option_map string ranges) (Some (string mappings)) (option_map (written_list written_number)
    (written_ids m.metadata.ignored)) (option_map (λ id. string (debug_id_text id)) m.metadata.debug_id)
    ∙ ap (λ (ds : List Data). chain (debug_id_entry m.metadata.debug_id ∷ file_entry m.metadata.file
    ∷ ids_entry m.metadata.ignored
    ∷ mappings_entry mappings ∷ (codes "names", Some (array (items_of ds)))
    ∷ ranges_entry ranges ∷ root_entry m.sources.root ∷ (
      codes "sources",
      Some (written_list (written_or_null string) (map Some m.sources.texts)),
    ) ∷ contents_entry (length m.sources.texts) m.contents
    ∷ version_entry ∷ [])) (map-id (map string m.names))
    ∙ ap (λ (ds : List Data). chain (debug_id_entry m.metadata.debug_id ∷ file_entry m.metadata.file
    ∷ ids_entry m.metadata.ignored
    ∷ mappings_entry mappings ∷ names_entry m.names ∷ ranges_entry ranges
    ∷ root_entry m.sources.root ∷ (
      codes "sources",
      Some (array (items_of ds)),
    ) ∷ contents_entry (length m.sources.texts) m.contents ∷ version_entry ∷ [])) (same_sources m.sources.texts)

-- Texts.

regrouped : (a b c t e : List ℕ) → a ++ (b ++ 58 ∷ (c ++ (t ++ e))) ≡ (((a ++ (b ++ 58 ∷ [])) ++ c) ++ t) ++ e
regrouped a b c t e = sym (
    append_assoc ((a ++ (b ++ 58 ∷ [])) ++ c) t e
    ∙ append_assoc (a ++ (b ++ 58 ∷ [])) c (t ++ e)
    ∙ append_assoc a (b ++ 58 ∷ []) (c ++ (t ++ e))
    ∙ ap (λ r. a ++ r) (append_assoc b (58 ∷ []) (c ++ (t ++ e))))

or_false : (b : Bool) → b ≡ b || false
or_false true = refl
or_false false = refl

or_true : (b : Bool) → true ≡ b || true
or_true true = refl
or_true false = refl

chain_text : (later : Bool) (es : List Entry) → members_text later (chain es) ≡ parts_text later es ++ 125 ∷ []
chain_text later [] = refl
chain_text later ((key, None) ∷ es) = chain_text later es ∙ ap (λ b. parts_text b es ++ 125 ∷ []) (or_false later)
chain_text later ((key, Some d) ∷ es) =
    ap (λ t. comma_if later ++ (quoted key ++ 58 ∷ (compact_text d ++ t))) (chain_text true es)
    ∙ regrouped (comma_if later) (quoted key) (compact_text d) (parts_text true es) (125 ∷ [])
    ∙ ap (λ b. ((key_text later key ++ compact_text d) ++ parts_text b es) ++ 125 ∷ []) (or_true later)

parts_append : (later : Bool) (xs ys : List Entry)
    → parts_text later xs ++ parts_text (later_after later xs) ys ≡ parts_text later (xs ++ ys)
parts_append later [] ys = refl
parts_append later (x ∷ xs) ys =
    append_assoc (part later x) (parts_text (later || is_some x.1) xs)
    (parts_text (later_after (later || is_some x.1) xs) ys)
    ∙ ap (λ t. part later x ++ t) (parts_append (later || is_some x.1) xs ys)

later_after_tokens : (later : Bool) (names : List (List ℕ)) (mappings : List ℕ) (ranges : Option (List ℕ))
    → later_after later (token_entries names mappings ranges) ≡ true
later_after_tokens true names mappings ranges = refl
later_after_tokens false names mappings ranges = refl

-- the texts of the leading, token and source entries and of `version`, concatenated, are the text of all entries.
-- `later` is true exactly if a leading entry has a value
pub parts_joined : (later : Bool) (m : PartsValue) (mappings : List ℕ) (ranges : Option (List ℕ))
    → later ≡ later_after false (leading_entries m.metadata)
    → parts_text false (leading_entries m.metadata) ++ (parts_text later (token_entries m.names mappings ranges)
    ++ (parts_text true (source_entries m.sources m.contents) ++ part true version_entry))
    ≡ parts_text false (map_entries m mappings ranges)
parts_joined later m mappings ranges is =
    let leading = leading_entries m.metadata in
    let tokens = token_entries m.names mappings ranges in
    let sources = source_entries m.sources m.contents in
    let end : List Entry = version_entry ∷ [] in
    let with_sources = ap (λ t. parts_text true sources ++ t) (sym (append-nil (part true version_entry)))
    ∙ parts_append true sources end in
    let with_tokens = ap (λ t. parts_text later tokens ++ t) with_sources
    ∙ ap (λ b. parts_text later tokens ++ parts_text b (sources ++ end))
    (sym (later_after_tokens later m.names mappings ranges))
    ∙ parts_append later tokens (sources ++ end) in
    ap (λ t. parts_text false leading ++ t) with_tokens
    ∙ ap (λ b. parts_text false leading ++ parts_text b (tokens ++ (sources ++ end))) is
    ∙ parts_append false leading (tokens ++ (sources ++ end))

-- Values that read back.

plain_items_of : {X : Type 0} (write : X → Data) (P : X → Type 0) → ((x : X) → P x → IsPlainValue (write x))
    → (xs : List X) → AllByRecursion P xs → ArePlainItems (items_of (map write xs))
plain_items_of write P each [] all = plain_no_items
plain_items_of write P each (x ∷ xs) all =
    plain_item (write x) (items_of (map write xs)) (each x all.0) (plain_items_of write P each xs all.1)

plain_list : {X : Type 0} (write : X → Data) (P : X → Type 0) → ((x : X) → P x → IsPlainValue (write x)) → (xs : List X)
    → AllByRecursion P xs → IsPlainValue (written_list write xs)
plain_list write P each xs all = plain_array (items_of (map write xs)) (plain_items_of write P each xs all)

pub plain_texts : (xs : List (List ℕ)) → AllByRecursion IsUtf8 xs → IsPlainValue (written_list string xs)
plain_texts = plain_list string IsUtf8 plain_string

pub plain_number : (n : ℕ) → n < 2 ^ 64 → IsPlainValue (written_number n)
plain_number n small = (let p = plain_unsigned (unsigned n) n refl small in (p.0, ap (option_map number) p.1, p.2))

pub plain_numbers : (ns : List ℕ) → AllByRecursion FitsU32 ns → IsPlainValue (written_list written_number ns)
plain_numbers = plain_list written_number FitsU32 (λ n small. plain_number n (omega arith))

-- the JSON value of the contents of a source, or `null` for missing contents, is plain (`IsPlainValue`): the text of
-- this value reads back as the same value
abbrev pub IsPlainContent : Option (List ℕ) → Type 0
IsPlainContent c = IsPlainValue (written_or_null string c)

pub plain_contents : (cs : List (Option (List ℕ))) → AllByRecursion IsPlainContent cs
    → IsPlainValue (written_list (written_or_null string) cs)
plain_contents = plain_list (written_or_null string) IsPlainContent (λ c fine. fine)

pub plain_null : IsPlainValue null
plain_null = (tt, refl, IsUtf8-are_ascii _ refl)

-- Members that read back.

abbrev is_greater : Ordering → Bool
is_greater Less = false
is_greater Equal = false
is_greater Greater = true

abbrev above : List ℕ → List Entry → Bool
above key [] = true
above key (e ∷ es) = is_greater (slice_cmp nat_cmp key e.0) && above key es

abbrev ascending : List Entry → List Entry → Bool
ascending done [] = true
ascending done (e ∷ es) = above e.0 done && ascending (done ++ e ∷ []) es

abbrev are_plain_keys : List Entry → Bool
are_plain_keys [] = true
are_plain_keys (e ∷ es) = are_ascii e.0 && are_plain_keys es

greater : (o : Ordering) → is_greater o ≡ true → o ≡ Greater
greater Less e = absurd cc
greater Equal e = absurd cc
greater Greater e = refl

above_past : (key : List ℕ) (es : List Entry) → above key es ≡ true → AllByRecursion (Past key) es
above_past key [] e = tt
above_past key (x ∷ xs) e =
    let each = and_parts (is_greater (slice_cmp nat_cmp key x.0)) (above key xs) e in
    (greater (slice_cmp nat_cmp key x.0) each.0, above_past key xs each.1)

plain_if : (key : List ℕ) (o : Option Data) (before rest all : Members) → IsUtf8 key → IsPlainEntry (key, o)
    → IsPlainRest (put_if key o before) rest all → IsPlainRest before (member_if key o rest) all
plain_if key None before rest all utf8 fine more = more
plain_if key (Some d) before rest all utf8 fine more = plain_member key d before rest all utf8 fine more

plain_chain : (done es : List Entry) → ascending done es ≡ true → are_plain_keys es ≡ true
    → AllByRecursion IsPlainEntry es → IsPlainRest (chain done) (chain es) (chain (done ++ es))
plain_chain done [] up ascii fine = subst (λ (xs : List Entry). IsPlainRest (chain done) no_members (chain xs)) (sym
    (append-nil done)) (plain_no_members (chain done))
plain_chain done (e ∷ es) up ascii fine =
    let keys = and_parts (are_ascii e.0) (are_plain_keys es) ascii in
    let each = and_parts (above e.0 done) (ascending (done ++ e ∷ []) es) up in
    let rest = plain_chain (done ++ e ∷ []) es each.1 keys.1 fine.1 in
    plain_if e.0 e.1 (chain done) (chain es) (chain (done ++ e ∷ es)) (IsUtf8-are_ascii e.0 keys.0) fine.0
    (subst (λ (xs : List Entry). IsPlainRest (put_if e.0 e.1 (chain done)) (chain es) (chain xs))
    (append_assoc done (e ∷ []) es)
    (subst (λ (before : Members). IsPlainRest before (chain es) (chain ((done ++ e ∷ []) ++ es)))
    (sym (last e.0 e.1 done (above_past e.0 done each.0))) rest))

plain_written : (m : PartsValue) (mappings : List ℕ) (ranges : Option (List ℕ))
    → AllByRecursion IsPlainEntry (map_entries m mappings ranges)
    → IsPlainValue (written (plain (record_with m mappings ranges)))
plain_written m mappings ranges fine =
    subst (λ (ms : Members). IsPlainValue (object ms)) (sym (members_are m mappings ranges))
    (plain_object (chain (map_entries m mappings ranges))
    (plain_chain [] (map_entries m mappings ranges) refl refl fine))

-- if each entry is plain, the texts of the entries between `{` and `}` are the JSON text of the record
pub text_is : (m : PartsValue) (mappings : List ℕ) (ranges : Option (List ℕ)) (text : List ℕ)
    → AllByRecursion IsPlainEntry (map_entries m mappings ranges)
    → text ≡ 123 ∷ (parts_text false (map_entries m mappings ranges) ++ 125 ∷ [])
    → IsText (plain (record_with m mappings ranges)) text
text_is m mappings ranges text fine is =
    let d = written (plain (record_with m mappings ranges)) in
    let of_value = plain_written m mappings ranges fine in
    let compact : text ≡ compact_text d = is
    ∙ ap (λ t. 123 ∷ t) (sym (chain_text false (map_entries m mappings ranges)))
    ∙ ap (λ (ms : Members). 123 ∷ members_text false ms) (sym (members_are m mappings ranges)) in
    record {
      compact = λ _. compact;
      reads_back = λ shallow. (
        subst (λ (t : List ℕ). IsUtf8 t) (sym compact) of_value.2,
        ap read compact ∙ plain_reads_back d of_value shallow,
      );
    }

-- contents are written if a source has some
pub some_contents : (count : ℕ) (contents : List (Option (List ℕ))) → list_any is_some (fitted count contents) ≡ true
    → contents_entry count contents
    ≡ (codes "sourcesContent", Some (written_list (written_or_null string) (fitted count contents)))
some_contents count contents some = ap (λ b. (
  codes "sourcesContent",
  option_map (written_list (written_or_null string)) (if b then Some (fitted count contents) else None),
)) some

-- ids are written if there are some
pub some_ids : (ids : List ℕ) → (length ids == 0) ≡ false
    → ids_entry ids ≡ (codes "ignoreList", Some (written_list written_number ids))
some_ids ids some =
    ap (λ b. (codes "ignoreList", option_map (written_list written_number) (if b then None else Some ids))) some
