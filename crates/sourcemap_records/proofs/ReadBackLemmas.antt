-- What was written is read back, if it is in range and no `file` is a JSON null.
use Rattle.std.proofs.Common.{◌≡◌, ◌≢◌, ℕ, zero, suc, Result, Ok, Err, IfOk, OnOk, ◌<◌, ◌^◌, ◌||◌, ◌==◌, List, [], ◌∷◌, Option, Some, None, option_map, map, length, Bool, true, false, if◌then◌else◌, nat_lt, IfSome, All, codes, inl, true≢false, refl, sym, ap, ◌∙◌, arith}
use Rattle.sourcemap_records.proofs.FieldLemmas.{ok_injective}
use Rattle.std.proofs.lemmas.Bool.Decides.{nat_tests}
use Rattle.std.specs.List.{AllByRecursion}
use Rattle.std.specs.Option.{option_or}
use Rattle.std.specs.Str.{bytes_eq}
use Rattle.std.proofs.lemmas.Slice.Eq.{bytes_eq-Decides}
use Rattle.serde_json.specs.Data.{Data, null, boolean, number, string, array, object, Members, no_members, put}
use Rattle.serde_json.specs.Find.{get_member}
use Rattle.serde_json.specs.View.{items_of, view}
use Rattle.serde_json.specs.declared.value.Value.{Value}
use Rattle.sourcemap_errors.specs.declared.errors.Error.{Error}
use Rattle.serde_json.proofs.Views.{get_member-put, get_member-put_other}
use Rattle.uuid.specs.Text.{parsed, lower}
use Rattle.uuid.proofs.TextLemmas.{by_index_length}
use Rattle.uuid.proofs.RoundTrips.{parses_hyphenated}
use Rattle.sourcemap_headers.specs.DebugId.{IsId, debug_id_of, debug_id_text}
use Rattle.sourcemap_records.specs.Field.{Makes, KeepsOthers, found, at, any, text, small, small_number, or_null, or_null_of, list, items_read, written_number, written_or_null, written_list, put_if, put_all}
use Rattle.sourcemap_records.specs.Jsontypes.{FitsU32, Fields, Scopes, Tree, plain, indexed, Sections, no_more, bare, mapped, AreInRange, IsInRange, AreSectionsInRange, HasNoNullFile, HaveNoNullFile, scopes, debug_id, debug_id_in, fields_in, sections_read, record_of, written, written_fields, written_scopes, written_sections, entries}
use Rattle.sourcemap_records.proofs.FromJsonLemmas.{sections_in-at, fields_kept}

-- ---- the value at a key after entries were put

abbrev if_key : Bool → Option Data → Option Data → Option Data
if_key b d o = if b then option_or d o else o

abbrev looked : List (List ℕ × Option Data) → List ℕ → Option Data → Option Data
looked [] q o = o
looked (e ∷ es) q o = looked es q (if_key (bytes_eq q e.0) e.1 o)

no_entry : (b : Bool) (o : Option Data) → o ≡ if_key b None o
no_entry true o = refl
no_entry false o = refl

get-put : (b : Bool) (q k : List ℕ) (d : Data) (ms : Members) → bytes_eq q k ≡ b
    → get_member q (put k d ms) ≡ if_key b (Some d) (get_member q ms)
get-put true q k d ms is = ap (λ q. get_member q (put k d ms)) ((bytes_eq-Decides q k).0 is) ∙ get_member-put k d ms
get-put false q k d ms is = get_member-put_other q k d ms (λ h. true≢false (sym ((bytes_eq-Decides q k).1 h) ∙ is))

get-put_if : (q k : List ℕ) (d : Option Data) (ms : Members)
    → get_member q (put_if k d ms) ≡ if_key (bytes_eq q k) d (get_member q ms)
get-put_if q k None ms = no_entry (bytes_eq q k) (get_member q ms)
get-put_if q k (Some d) ms = get-put (bytes_eq q k) q k d ms refl

get-put_all : (es : List (List ℕ × Option Data)) (q : List ℕ) (ms : Members)
    → get_member q (put_all es ms) ≡ looked es q (get_member q ms)
get-put_all [] q ms = refl
get-put_all (e ∷ es) q ms = get-put_all es q (put_if e.0 e.1 ms) ∙ ap (looked es q) (get-put_if q e.0 e.1 ms)

-- ---- one field

small-back : (n : ℕ) → n < 2 ^ 32 → small n ≡ Some n
small-back n h = let is : nat_lt n (2 ^ 32) ≡ true = grind (arith, nat_tests) in rw is refl

list-back : {X : Type 0} (read : Data → Option X) (write : X → Data) (xs : List X)
    → AllByRecursion (λ x. read (write x) ≡ Some x) xs → items_read read (items_of (map write xs)) ≡ Some xs
list-back read write [] h = refl
list-back read write (x ∷ xs) h = rw (h.0, list-back read write xs h.1) refl

every : {X : Type 0} (P : X → Type 0) → ((x : X) → P x) → (xs : List X) → AllByRecursion P xs
every P h [] = tt
every P h (x ∷ xs) = (h x, every P h xs)

each : {X : Type 0} (P Q : X → Type 0) → ((x : X) → P x → Q x) → (xs : List X) → AllByRecursion P xs
    → AllByRecursion Q xs
each P Q h [] all = tt
each P Q h (x ∷ xs) all = (h x all.0, each P Q h xs all.1)

-- `o` is written at a key. If `o` is `None`, the key is left out and reads back as `None`. If the value in `o` reads
-- back, the key reads back as `o`
back : {X : Type 0} (read : Data → Option X) (write : X → Data) (o : Option X)
    → IfSome o (λ x. or_null read (write x) ≡ Some (Some x))
    → found read (option_or (option_map write o) None) ≡ Some o
back read write None h = refl
back read write (Some x) h = h

-- `o` is written, with null for `None`. If the value in `o` reads back, the written JSON reads back as `o`
back_null : {X : Type 0} (read : Data → Option X) (write : X → Data) (o : Option X)
    → IfSome o (λ x. or_null read (write x) ≡ Some (Some x))
    → or_null read (written_or_null write o) ≡ Some o
back_null read write None h = refl
back_null read write (Some x) h = h

for_some : {X : Type 0} (P : X → Type 0) → ((x : X) → P x) → (o : Option X) → IfSome o P
for_some P h None = tt
for_some P h (Some x) = h x

some_then : {X : Type 0} (P Q : X → Type 0) → ((x : X) → P x → Q x) → (o : Option X) → IfSome o P → IfSome o Q
some_then P Q h None p = tt
some_then P Q h (Some x) p = h x p

number-back : (n : ℕ) → FitsU32 n → or_null small_number (written_number n) ≡ Some (Some n)
number-back n h = ap (option_map Some) (small-back n h)

texts-back : (xs : List (Option (List ℕ)))
    → or_null (list (or_null text)) (written_list (written_or_null string) xs) ≡ Some (Some xs)
texts-back xs = ap (option_map Some) (list-back (or_null text) (written_or_null string) xs
    (every _ (λ x. back_null text string x (for_some _ (λ s. refl) x)) xs))

plain_texts : (xs : List (List ℕ)) → items_read text (items_of (map string xs)) ≡ Some xs
plain_texts xs = list-back text string xs (every _ (λ x. refl) xs)

values-back : (xs : List Data) → or_null (list any) (written_list (λ d. d) xs) ≡ Some (Some xs)
values-back xs = ap (option_map Some) (list-back any (λ d. d) xs (every _ (λ x. refl) xs))

numbers-back : (xs : List ℕ) → AllByRecursion FitsU32 xs
    → or_null (list small_number) (written_list written_number xs) ≡ Some (Some xs)
numbers-back xs h = ap (option_map Some) (list-back small_number written_number xs (each FitsU32 _ small-back xs h))

offsets-back : (xs : List (Option ℕ)) → AllByRecursion (λ n. IfSome n FitsU32) xs
    → or_null (list (or_null small_number)) (written_list (written_or_null written_number) xs) ≡ Some (Some xs)
offsets-back xs h =
    ap (option_map Some) (list-back (or_null small_number) (written_or_null written_number) xs
    (each (λ n. IfSome n FitsU32) _
    (λ x p. back_null small_number written_number x (some_then FitsU32 _ number-back x p)) xs h))

scopes-back : (s : Scopes) → scopes (written_scopes s) ≡ Some s
scopes-back s = rw (plain_texts s.names) refl

all_scopes : (xs : List (Option (List Scopes)))
    → or_null (list (or_null (list scopes))) (written_list (written_or_null (written_list written_scopes)) xs)
    ≡ Some (Some xs)
all_scopes xs =
    ap (option_map Some) (list-back (or_null (list scopes)) (written_or_null (written_list written_scopes)) xs
    (every _ (λ x. back_null (list scopes) (written_list written_scopes) x
    (for_some _ (λ ss. ap (option_map Some) (list-back scopes written_scopes ss (every _ scopes-back ss))) x)) xs))

all-of : (xs : List ℕ) → AllByRecursion (λ b. b < 256) xs → All (λ b. b < 256) xs
all-of [] h k d within = absurd (omega arith)
all-of (x ∷ xs) h zero d within = h.0
all-of (x ∷ xs) h (suc k) d within = all-of xs h.1 k d (omega arith)

long_id : (text : List ℕ) → length text ≡ 36 → debug_id_of text ≡ parsed text
long_id text long = ap (λ n. if (n == 32) || (n == 36) then parsed text else None) long

id-back : (id : List ℕ) → IsId id → or_null debug_id (string (debug_id_text id)) ≡ Some (Some id)
id-back id is =
    let read : parsed (debug_id_text id) ≡ Some id =
    sym (parses_hyphenated lower id (inl refl) is.0 (all-of id is.1)) in
    let long : length (debug_id_text id) ≡ 36 = by_index_length 36 _ in
    ap (option_map Some) (long_id (debug_id_text id) long ∙ read)

file-back : (d : Option Data) → d ≢ Some null → found any (option_or d None) ≡ Some d
file-back None h = refl
file-back (Some null) h = absurd (h refl)
file-back (Some (boolean b)) h = refl
file-back (Some (number n)) h = refl
file-back (Some (string s)) h = refl
file-back (Some (array ds)) h = refl
file-back (Some (object ms)) h = refl

or_none : {X : Type 0} (o : Option X) → Some (option_or o None) ≡ Some o
or_none None = refl
or_none (Some x) = refl

-- ---- all fields

at_key : {X : Type 0} (read : Data → Option X) (key : List ℕ) (f : Fields) (x : Option X)
    → found read (looked (entries f) key None) ≡ Some x → at key read (written_fields f) ≡ Some x
at_key read key f x h = ap (found read) (get-put_all (entries f) key no_members) ∙ h

pub fields-back : (f : Fields) → AreInRange f → f.file ≢ Some null → fields_in (written_fields f) ≡ Some f
fields-back f fine no_null =
    let id : debug_id_in (written_fields f) ≡ Some f.debug_id =
    rw (
      at_key debug_id (codes "debugId") f f.debug_id
          (back debug_id (λ id. string (debug_id_text id)) f.debug_id
          (some_then IsId _ id-back f.debug_id fine.debug_id)),
      at_key debug_id (codes "debug_id") f None refl,
    ) (or_none f.debug_id) in
    rw (
      id,
      at_key small_number (codes "version") f f.version
          (back_null small_number written_number f.version (some_then FitsU32 _ number-back f.version fine.version)),
      at_key any (codes "file") f f.file (file-back f.file no_null),
      at_key (list (or_null text)) (codes "sources") f f.sources
          (back_null (list (or_null text)) (written_list (written_or_null string)) f.sources
          (for_some _ texts-back f.sources)),
      at_key text (codes "sourceRoot") f f.source_root
          (back text string f.source_root (for_some _ (λ s. refl) f.source_root)),
      at_key (list (or_null text)) (codes "sourcesContent") f f.sources_content
          (back (list (or_null text)) (written_list (written_or_null string)) f.sources_content
          (for_some _ texts-back f.sources_content)),
      at_key (list any) (codes "names") f f.names
          (back (list any) (written_list (λ d. d)) f.names (for_some _ values-back f.names)),
      at_key text (codes "rangeMappings") f f.range_mappings
          (back text string f.range_mappings (for_some _ (λ s. refl) f.range_mappings)),
      at_key text (codes "mappings") f f.mappings (back text string f.mappings (for_some _ (λ s. refl) f.mappings)),
      at_key (list small_number) (codes "ignoreList") f f.ignore_list
          (back (list small_number) (written_list written_number) f.ignore_list
          (some_then (AllByRecursion FitsU32) _ numbers-back f.ignore_list fine.ignore_list)),
      at_key (list (or_null small_number)) (codes "x_facebook_offsets") f f.x_facebook_offsets
          (back (list (or_null small_number)) (written_list (written_or_null written_number)) f.x_facebook_offsets
          (some_then (AllByRecursion (λ n. IfSome n FitsU32)) _ offsets-back f.x_facebook_offsets
          fine.x_facebook_offsets)),
      at_key (list text) (codes "x_metro_module_paths") f f.x_metro_module_paths
          (back (list text) (written_list string) f.x_metro_module_paths
          (for_some _ (λ xs. ap (option_map Some) (plain_texts xs)) f.x_metro_module_paths)),
      at_key (list (or_null (list scopes))) (codes "x_facebook_sources") f f.x_facebook_sources
          (back (list (or_null (list scopes))) (written_list (written_or_null (written_list written_scopes)))
          f.x_facebook_sources (for_some _ all_scopes f.x_facebook_sources)),
    )
    refl

-- ---- sections, and the record

kept-put : (key : List ℕ) (d : Data) (ms : Members) → KeepsOthers key ms (put key d ms)
kept-put key d ms other apart = get-put false other key d ms apart

nullable : (t : Tree) (x : Option Tree) → or_null_of (written t) x ≡ option_map Some x
nullable (plain f) x = refl
nullable (indexed f ss) x = refl

mutual
  pub record-back : (t : Tree) → IsInRange t → HasNoNullFile t → record_of (written t) ≡ Some t
  record-back (plain f) fine no_null =
      rw (
        sections_in-at (written_fields f),
        get-put_all (entries f) (codes "sections") no_members,
        fields-back f fine no_null,
      ) refl
  record-back (indexed f ss) fine no_null =
      rw (
        sections_in-at (put (codes "sections") (array (written_sections ss)) (written_fields f)),
        get_member-put (codes "sections") (array (written_sections ss)) (written_fields f),
        sections-back ss fine.1 no_null.1,
        fields_kept (written_fields f) (put (codes "sections") (array (written_sections ss)) (written_fields f))
            (kept-put (codes "sections") (array (written_sections ss)) (written_fields f)),
        fields-back f fine.0 no_null.0,
      ) refl

  sections-back : (ss : Sections) → AreSectionsInRange ss → HaveNoNullFile ss
      → sections_read (written_sections ss) ≡ Some ss
  sections-back no_more fine no_null = refl
  sections-back (bare p rest) fine no_null =
      rw (
        small-back p.line fine.0.0,
        small-back p.column fine.0.1,
        back_null text string p.url (for_some _ (λ s. refl) p.url),
        sections-back rest fine.1 no_null,
      ) refl
  sections-back (mapped p t rest) fine no_null =
      rw (
        nullable t (record_of (written t)),
        record-back t fine.1 no_null.0,
        small-back p.line fine.0.0,
        small-back p.column fine.0.1,
        back_null text string p.url (for_some _ (λ s. refl) p.url),
        sections-back rest fine.2 no_null.1,
      ) refl

pub read_back : (r : Result Value Error) (t : Tree) → Makes view r (written t) → OnOk r (IsInRange t)
    → IfOk r (λ v. HasNoNullFile t → record_of (view v) ≡ Some t)
read_back (Ok v) t is fine = λ no_null. ap record_of (sym (ok_injective is)) ∙ record-back t fine no_null
read_back (Err e) t is fine = tt
