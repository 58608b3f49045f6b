-- A record is read from the members that are kept: if the other members are removed first, the same record is read, and
-- the same values are detected as maps.
use Rattle.std.proofs.Common.{◌≡◌, ◌↔◌, ℕ, List, ◌∷◌, Bool, false, IsTrue, Option, Some, None, option_map, option_and_then, Ordering, Less, Equal, Greater, Result, MatchResult, nat_cmp, codes, refl, sym, ap, subst, ◌∙◌}
use Rattle.std.specs.Cmp.Lexicographic.{slice_cmp}
use Rattle.std.specs.Option.{option_map_or}
use Rattle.std.specs.Ordering.{match_ordering}
use Rattle.serde_json.specs.Data.{Data, null, boolean, number, string, array, object, Items, no_items, item, Members, no_members, member}
use Rattle.serde_json.specs.Find.{get_member}
use Rattle.sourcemap_errors.specs.declared.errors.Error.{Error}
use Rattle.sourcemap_errors.specs.Answer.{UnlessMemory, Gives}
use Rattle.sourcemap_headers.specs.DebugId.{debug_id_of}
use Rattle.sourcemap_records.specs.Bytes.{HoldRecord, HoldNoRecord}
use Rattle.sourcemap_records.specs.Detection.{AreMap, has_map_keys, is_map}
use Rattle.sourcemap_records.specs.Field.{due, with, any, text, small_number, or_null, items_read, list, found, at, required}
use Rattle.sourcemap_records.specs.Jsontypes.{Tree, scopes, scopes_in, offset, offset_in, debug_id, fields_in, section_head_in, record_of, sections_of, sections_read, section_of, sections_in, map_in, section_at, section_with, tree_with, is_there, minimal_of}
use Rattle.sourcemap_json_read.specs.Kept.{at_key, all_items, kept, kept_items, kept_list, kept_members}
use Rattle.sourcemap_records.specs.Levels.{HoldKept, inner_level}
use Rattle.sourcemap_records.specs.declared.levels.RecordLevel.{RecordLevel}
use Rattle.sourcemap_records.specs.declared.levels.RecordLevel.TheVariants.{Whole, Scalar, Scalars, Record, Sections, Section, Offset, AllScopes, SourceScopes, Scopes, Minimal}
use Rattle.sourcemap_json_read.proofs.KeptLemmas.{get_member-kept, kept-whole}
use Rattle.sourcemap_records.proofs.BytesLemmas.{json_once, record_of_json}
use Rattle.sourcemap_records.proofs.FromJsonLemmas.{sections_in-at, map_in-at}

-- the value at a key that is kept
get-kept : (level l : RecordLevel) (key : List ℕ) (ms : Members) → inner_level level (at_key key) ≡ Some l
    → get_member key (kept_members inner_level level ms) ≡ option_map (kept inner_level l) (get_member key ms)
get-kept level l key ms is =
    get_member-kept inner_level level key ms
    ∙ ap (option_and_then (λ l. option_map (kept inner_level l) (get_member key ms))) is

-- ---- readings that give the same result for what is kept of a value

-- `read` gives the same result for a value as for what is kept of it at level `l`
abbrev IsReadFrom : {X : Type 0} → RecordLevel → (Data → Option X) → Type 0
IsReadFrom l read = (d : Data) → read (kept inner_level l d) ≡ read d

any-kept : (d : Data) → any (kept inner_level Whole d) ≡ any d
any-kept d = ap Some (kept-whole inner_level Whole (λ k. refl) refl d)

text-kept : (l : RecordLevel) (d : Data) → text (kept inner_level l d) ≡ text d
text-kept l null = refl
text-kept l _ = refl

number-kept : (l : RecordLevel) (d : Data) → small_number (kept inner_level l d) ≡ small_number d
number-kept l null = refl
number-kept l _ = refl

debug_id-kept : (l : RecordLevel) (d : Data) → debug_id (kept inner_level l d) ≡ debug_id d
debug_id-kept l d = ap (λ s. with s debug_id_of) (text-kept l d)

or_null-kept_of : {X : Type 0} (read : Data → Option X) (l : RecordLevel) (d : Data) → read (kept inner_level l d) ≡ read d
    → or_null read (kept inner_level l d) ≡ or_null read d
or_null-kept_of read l null is = refl
or_null-kept_of read l (boolean b) is = refl
or_null-kept_of read l (number n) is = refl
or_null-kept_of read l (string s) is = refl
or_null-kept_of read l (array ds) is = ap (option_map Some) is
or_null-kept_of read l (object ms) is = ap (option_map Some) is

or_null-kept : {X : Type 0} (read : Data → Option X) (l : RecordLevel) → IsReadFrom l read
    → (d : Data) → or_null read (kept inner_level l d) ≡ or_null read d
or_null-kept read l same d = or_null-kept_of read l d (same d)

items-kept : {X : Type 0} (read : Data → Option X) (l : RecordLevel) → IsReadFrom l read
    → (ds : Items) → items_read read (kept_items inner_level l ds) ≡ items_read read ds
items-kept read l same no_items = refl
items-kept read l same (item d ds) =
    ap (λ o. with o (λ x. with (items_read read (kept_items inner_level l ds)) (λ xs. Some (x ∷ xs)))) (same d)
    ∙ ap (λ o. with (read d) (λ x. with o (λ xs. Some (x ∷ xs)))) (items-kept read l same ds)

-- a list at level `level`, whose items have level `l`
list-kept : {X : Type 0} (read : Data → Option X) (level l : RecordLevel) → inner_level level all_items ≡ Some l
    → IsReadFrom l read → IsReadFrom level (list read)
list-kept read level l is same (array ds) =
    ap (λ o. items_read read (kept_list inner_level o ds)) is ∙ items-kept read l same ds
list-kept read level l is same _ = refl

found-kept : {X : Type 0} (read : Data → Option X) (l : RecordLevel) → IsReadFrom l read
    → (o : Option Data) → found read (option_map (kept inner_level l) o) ≡ found read o
found-kept read l same None = refl
found-kept read l same (Some d) = or_null-kept read l same d

at-kept : {X : Type 0} (read : Data → Option X) (level l : RecordLevel) (key : List ℕ) (ms : Members)
    → inner_level level (at_key key) ≡ Some l → IsReadFrom l read
    → at key read (kept_members inner_level level ms) ≡ at key read ms
at-kept read level l key ms is same =
    ap (found read) (get-kept level l key ms is) ∙ found-kept read l same (get_member key ms)

with-kept : {X : Type 0} (read : Data → Option X) (l : RecordLevel) → IsReadFrom l read
    → (o : Option Data) → with (option_map (kept inner_level l) o) read ≡ with o read
with-kept read l same None = refl
with-kept read l same (Some d) = same d

required-kept : {X : Type 0} (read : Data → Option X) (level l : RecordLevel) (key : List ℕ) (ms : Members)
    → inner_level level (at_key key) ≡ Some l → IsReadFrom l read
    → required key read (kept_members inner_level level ms) ≡ required key read ms
required-kept read level l key ms is same =
    ap (λ o. with o read) (get-kept level l key ms is) ∙ with-kept read l same (get_member key ms)

list_of_texts-kept : IsReadFrom Scalars (list text)
list_of_texts-kept = list-kept text Scalars Scalar refl (text-kept Scalar)

texts-kept : IsReadFrom Scalars (list (or_null text))
texts-kept = list-kept (or_null text) Scalars Scalar refl (or_null-kept text Scalar (text-kept Scalar))

numbers-kept : IsReadFrom Scalars (list small_number)
numbers-kept = list-kept small_number Scalars Scalar refl (number-kept Scalar)

offsets-kept : IsReadFrom Scalars (list (or_null small_number))
offsets-kept = list-kept (or_null small_number) Scalars Scalar refl (or_null-kept small_number Scalar (number-kept Scalar))

-- ---- objects without sections

scopes_in-kept : (ms : Members) → scopes_in (kept_members inner_level Scopes ms) ≡ scopes_in ms
scopes_in-kept ms =
    rw (
      required-kept (list text) Scopes Scalars (codes "names") ms refl list_of_texts-kept,
      required-kept text Scopes Scalar (codes "mappings") ms refl (text-kept Scalar),
    ) refl

scopes-kept : (d : Data) → scopes (kept inner_level Scopes d) ≡ scopes d
scopes-kept (object ms) = scopes_in-kept ms
scopes-kept _ = refl

offset_in-kept : (ms : Members) → offset_in (kept_members inner_level Offset ms) ≡ offset_in ms
offset_in-kept ms =
    rw (
      required-kept small_number Offset Scalar (codes "line") ms refl (number-kept Scalar),
      required-kept small_number Offset Scalar (codes "column") ms refl (number-kept Scalar),
    ) refl

offset-kept : (d : Data) → offset (kept inner_level Offset d) ≡ offset d
offset-kept (object ms) = offset_in-kept ms
offset-kept _ = refl

section_head-kept : (ms : Members) → section_head_in (kept_members inner_level Section ms) ≡ section_head_in ms
section_head-kept ms =
    rw (
      required-kept offset Section Offset (codes "offset") ms refl offset-kept,
      at-kept text Section Scalar (codes "url") ms refl (text-kept Scalar),
    ) refl

all_scopes-kept : IsReadFrom AllScopes (list (or_null (list scopes)))
all_scopes-kept =
    list-kept (or_null (list scopes)) AllScopes SourceScopes refl
    (or_null-kept (list scopes) SourceScopes (list-kept scopes SourceScopes Scopes refl scopes-kept))

fields-kept : (ms : Members) → fields_in (kept_members inner_level Record ms) ≡ fields_in ms
fields-kept ms =
    rw (
      at-kept debug_id Record Scalar (codes "debugId") ms refl (debug_id-kept Scalar),
      at-kept debug_id Record Scalar (codes "debug_id") ms refl (debug_id-kept Scalar),
      at-kept small_number Record Scalar (codes "version") ms refl (number-kept Scalar),
      at-kept any Record Whole (codes "file") ms refl any-kept,
      at-kept (list (or_null text)) Record Scalars (codes "sources") ms refl texts-kept,
      at-kept text Record Scalar (codes "sourceRoot") ms refl (text-kept Scalar),
      at-kept (list (or_null text)) Record Scalars (codes "sourcesContent") ms refl texts-kept,
      at-kept (list any) Record Whole (codes "names") ms refl (list-kept any Whole Whole refl any-kept),
      at-kept text Record Scalar (codes "rangeMappings") ms refl (text-kept Scalar),
      at-kept text Record Scalar (codes "mappings") ms refl (text-kept Scalar),
      at-kept (list small_number) Record Scalars (codes "ignoreList") ms refl numbers-kept,
      at-kept (list (or_null small_number)) Record Scalars (codes "x_facebook_offsets") ms refl offsets-kept,
      at-kept (list text) Record Scalars (codes "x_metro_module_paths") ms refl list_of_texts-kept,
      at-kept (list (or_null (list scopes))) Record AllScopes (codes "x_facebook_sources") ms refl all_scopes-kept,
    ) refl

-- ---- records with sections

-- one more member: its value `d`, or the value `o` that was found so far
nested-kept : {X : Type 0} (read : Data → Option X) (l : RecordLevel) (order : Ordering) (o : Option Data) (d : Data)
    → found read (option_map (kept inner_level l) o) ≡ found read o → read (kept inner_level l d) ≡ read d
    → found read (option_map (kept inner_level l) (match_ordering order o (Some d) o))
    ≡ found read (match_ordering order o (Some d) o)
nested-kept read l Less o d before here = before
nested-kept read l Equal o d before here = or_null-kept_of read l d here
nested-kept read l Greater o d before here = before

sections_in-kept : (ms : Members)
    → found sections_of (option_map (kept inner_level Sections) (get_member (codes "sections") ms))
    ≡ found sections_of (get_member (codes "sections") ms)
    → sections_in (kept_members inner_level Record ms) ≡ sections_in ms
sections_in-kept ms is =
    sections_in-at (kept_members inner_level Record ms)
    ∙ ap (found sections_of) (get-kept Record Sections (codes "sections") ms refl)
    ∙ is
    ∙ sym (sections_in-at ms)

map_in-kept : (ms : Members)
    → found record_of (option_map (kept inner_level Record) (get_member (codes "map") ms))
    ≡ found record_of (get_member (codes "map") ms)
    → map_in (kept_members inner_level Section ms) ≡ map_in ms
map_in-kept ms is =
    map_in-at (kept_members inner_level Section ms)
    ∙ ap (found record_of) (get-kept Section Record (codes "map") ms refl)
    ∙ is
    ∙ sym (map_in-at ms)

mutual
  pub record-kept : (d : Data) → record_of (kept inner_level Record d) ≡ record_of d
  record-kept (object ms) =
      ap (λ s. with s (λ sections.
      with (fields_in (kept_members inner_level Record ms)) (λ fields. Some (tree_with fields sections))))
      (sections_in-kept ms (sections_at-kept ms))
      ∙ ap (λ f. with (sections_in ms) (λ sections. with f (λ fields. Some (tree_with fields sections))))
      (fields-kept ms)
  record-kept _ = refl

  sections-kept : (d : Data) → sections_of (kept inner_level Sections d) ≡ sections_of d
  sections-kept (array ds) = sections_read-kept ds
  sections-kept _ = refl

  sections_read-kept : (ds : Items) → sections_read (kept_items inner_level Section ds) ≡ sections_read ds
  sections_read-kept no_items = refl
  sections_read-kept (item d ds) =
      ap (λ s. with s (λ s. with (sections_read (kept_items inner_level Section ds))
      (λ rest. Some (section_with s.head s.map rest)))) (section-kept d)
      ∙ ap (λ r. with (section_of d) (λ s. with r (λ rest. Some (section_with s.head s.map rest))))
      (sections_read-kept ds)

  section-kept : (d : Data) → section_of (kept inner_level Section d) ≡ section_of d
  section-kept (object ms) =
      ap (λ t. with t (λ t.
      with (section_head_in (kept_members inner_level Section ms)) (λ head. Some (section_at head t))))
      (map_in-kept ms (map_at-kept ms))
      ∙ ap (λ h. with (map_in ms) (λ t. with h (λ head. Some (section_at head t)))) (section_head-kept ms)
  section-kept _ = refl

  sections_at-kept : (ms : Members)
      → found sections_of (option_map (kept inner_level Sections) (get_member (codes "sections") ms))
      ≡ found sections_of (get_member (codes "sections") ms)
  sections_at-kept no_members = refl
  sections_at-kept (member key d ms) =
      nested-kept sections_of Sections (slice_cmp nat_cmp (codes "sections") key) (get_member (codes "sections") ms) d
      (sections_at-kept ms) (sections-kept d)

  map_at-kept : (ms : Members)
      → found record_of (option_map (kept inner_level Record) (get_member (codes "map") ms))
      ≡ found record_of (get_member (codes "map") ms)
  map_at-kept no_members = refl
  map_at-kept (member key d ms) =
      nested-kept record_of Record (slice_cmp nat_cmp (codes "map") key) (get_member (codes "map") ms) d
      (map_at-kept ms) (record-kept d)

-- ---- detection

there-kept : (l : RecordLevel) (o : Option Data) → is_there (option_map (kept inner_level l) o) ≡ is_there o
there-kept l None = refl
there-kept l (Some null) = refl
there-kept l (Some _) = refl

has-kept : (key : List ℕ) (ms : Members) → inner_level Minimal (at_key key) ≡ Some Scalar
    → is_there (get_member key (kept_members inner_level Minimal ms)) ≡ is_there (get_member key ms)
has-kept key ms is = ap is_there (get-kept Minimal Scalar key ms is) ∙ there-kept Scalar (get_member key ms)

pub minimal-kept : (d : Data) → minimal_of (kept inner_level Minimal d) ≡ minimal_of d
minimal-kept (object ms) =
    rw (
      at-kept small_number Minimal Scalar (codes "version") ms refl (number-kept Scalar),
      has-kept (codes "file") ms refl,
      has-kept (codes "sources") ms refl,
      has-kept (codes "sourceRoot") ms refl,
      has-kept (codes "sourcesContent") ms refl,
      has-kept (codes "sections") ms refl,
      has-kept (codes "names") ms refl,
      has-kept (codes "mappings") ms refl,
    ) refl
minimal-kept _ = refl

-- ---- from what is kept to the record and the detection of the whole

pub gives_record : {X : Type 0} (tree : X → Tree) (r : Result X Error) (v d : Data) → v ≡ kept inner_level Record d
    → Gives tree r (due (record_of v)) → Gives tree r (due (record_of d))
gives_record tree r v d is gave = subst (λ t. Gives tree r (due t)) (ap record_of is ∙ record-kept d) gave

pub record_of_kept : {X : Type 0} (tree : X → Tree) (r : Result X Error) (bytes : List ℕ) (v : Data)
    → HoldKept Record bytes v → Gives tree r (due (record_of v))
    → MatchResult r (λ x. HoldRecord bytes (tree x)) (λ e. UnlessMemory e (HoldNoRecord bytes e))
record_of_kept tree r bytes v holds gave =
    record_of_json bytes holds.0 holds.1 tree r (gives_record tree r v holds.0 holds.2 gave)

pub map_of_kept : (is : Bool) (bytes : List ℕ) (v : Data) → HoldKept Minimal bytes v → is ≡ is_map v
    → IsTrue is ↔ AreMap bytes
map_of_kept is bytes v holds same =
    let whole : is ≡ is_map holds.0 =
    same ∙ ap (λ m. option_map_or has_map_keys m false) (ap minimal_of holds.2 ∙ minimal-kept holds.0) in (
      λ t. (holds.0, holds.1, subst IsTrue whole t),
      λ are. subst IsTrue (ap is_map (json_once bytes are.0 holds.0 are.1 holds.1) ∙ sym whole) are.2,
    )
