-- The fields of a record are read in four steps: the debug id, then three groups of keys (`FileKeys`, `ContentKeys`,
-- `ExtraKeys`). The result equals `fields_in` of the whole object, even if each step reads an object without the keys
-- of the earlier steps.
use Rattle.std.proofs.Common.{◌≡◌, ℕ, List, [], ◌∷◌, Option, Some, None, codes, false, refl, sym, ap, ◌∙◌}
use Rattle.std.specs.List.{list_any}
use Rattle.std.specs.Str.{bytes_eq}
use Rattle.serde_json.specs.Data.{Data, Members}
use Rattle.serde_json.specs.Find.{get_member}
use Rattle.sourcemap_records.specs.Field.{with, at, any, text, small_number, or_null, list}
use Rattle.sourcemap_records.specs.Keys.{KeepsBut, FileKeys, ContentKeys, ExtraKeys, file_keys_in, file_key_names, content_keys_in, content_key_names, extra_keys_in, fields_from}
use Rattle.sourcemap_records.specs.Jsontypes.{Scopes, scopes, debug_id_in, fields_in}
use Rattle.sourcemap_records.proofs.FieldLemmas.{kept_but_two}

four : {A B C D X Y : Type 0} (a : Option A) (b : Option B) (c : Option C) (d : Option D) (make : A → B → C → D → X)
    (k : X → Option Y)
    → with (with a (λ a. with b (λ b. with c (λ c. with d (λ d. Some (make a b c d)))))) k
    ≡ with a (λ a. with b (λ b. with c (λ c. with d (λ d. k (make a b c d)))))
four None b c d make k = refl
four (Some a) None c d make k = refl
four (Some a) (Some b) None d make k = refl
four (Some a) (Some b) (Some c) None make k = refl
four (Some a) (Some b) (Some c) (Some d) make k = refl

abbrev file_keys_made : Option ℕ → Option Data → Option (List (Option (List ℕ))) → Option (List ℕ) → FileKeys
file_keys_made version file sources source_root =
    record { version = version; file = file; sources = sources; source_root = source_root }

abbrev content_made : Option (List (Option (List ℕ))) → Option (List Data) → Option (List ℕ) → Option (List ℕ)
    → ContentKeys
content_made sources_content names range_mappings mappings =
    record { sources_content = sources_content; names = names; range_mappings = range_mappings; mappings = mappings }

abbrev extras_made : Option (List ℕ) → Option (List (Option ℕ)) → Option (List (List ℕ))
    → Option (List (Option (List Scopes))) → ExtraKeys
extras_made ignore_list x_facebook_offsets x_metro_module_paths x_facebook_sources =
    record {
      ignore_list = ignore_list;
      x_facebook_offsets = x_facebook_offsets;
      x_metro_module_paths = x_metro_module_paths;
      x_facebook_sources = x_facebook_sources;
    }

pub fields_grouped : (ms : Members)
    → with (debug_id_in ms) (λ id. with (file_keys_in ms)
    (λ h. with (content_keys_in ms) (λ c. with (extra_keys_in ms) (λ x. Some (fields_from h c x id)))))
    ≡ fields_in ms
fields_grouped ms =
    λ i. with (debug_id_in ms) (λ id.
    four (at (codes "version") small_number ms) (at (codes "file") any ms)
    (at (codes "sources") (list (or_null text)) ms) (at (codes "sourceRoot") text ms) file_keys_made
    (λ h. four (at (codes "sourcesContent") (list (or_null text)) ms) (at (codes "names") (list any) ms)
    (at (codes "rangeMappings") text ms) (at (codes "mappings") text ms) content_made
    (λ c. four (at (codes "ignoreList") (list small_number) ms)
    (at (codes "x_facebook_offsets") (list (or_null small_number)) ms)
    (at (codes "x_metro_module_paths") (list text) ms)
    (at (codes "x_facebook_sources") (list (or_null (list scopes))) ms) extras_made
    (λ x. Some (fields_from h c x id)) i) i) i)

-- ---- a group does not depend on the removed keys of other groups

abbrev pub TakesIds : Members → Members → Type 0
TakesIds a b = (other : List ℕ) → bytes_eq other (codes "debugId") ≡ false → bytes_eq other (codes "debug_id") ≡ false
    → get_member other b ≡ get_member other a

abbrev id_names : List (List ℕ)
id_names = codes "debugId" ∷ codes "debug_id" ∷ []

ids_kept : (a b : Members) → TakesIds a b → KeepsBut id_names a b
ids_kept a b ids = kept_but_two (codes "debugId") (codes "debug_id") a b ids

pub file_keys_kept : (a b : Members) → KeepsBut id_names a b → file_keys_in b ≡ file_keys_in a
file_keys_kept a b kept = rw (
  kept (codes "version") refl,
  kept (codes "file") refl,
  kept (codes "sources") refl,
  kept (codes "sourceRoot") refl,
) refl

pub content_kept : (names : List (List ℕ)) (a b : Members) → KeepsBut names a b
    → list_any (bytes_eq (codes "sourcesContent")) names ≡ false
    → list_any (bytes_eq (codes "names")) names ≡ false
    → list_any (bytes_eq (codes "rangeMappings")) names ≡ false
    → list_any (bytes_eq (codes "mappings")) names ≡ false
    → content_keys_in b ≡ content_keys_in a
content_kept names a b kept h0 h1 h2 h3 =
    rw (
      kept (codes "sourcesContent") h0,
      kept (codes "names") h1,
      kept (codes "rangeMappings") h2,
      kept (codes "mappings") h3,
    ) refl

pub extras_kept : (names : List (List ℕ)) (a b : Members) → KeepsBut names a b
    → list_any (bytes_eq (codes "ignoreList")) names ≡ false
    → list_any (bytes_eq (codes "x_facebook_offsets")) names ≡ false
    → list_any (bytes_eq (codes "x_metro_module_paths")) names ≡ false
    → list_any (bytes_eq (codes "x_facebook_sources")) names ≡ false
    → extra_keys_in b ≡ extra_keys_in a
extras_kept names a b kept h0 h1 h2 h3 =
    rw (
      kept (codes "ignoreList") h0,
      kept (codes "x_facebook_offsets") h1,
      kept (codes "x_metro_module_paths") h2,
      kept (codes "x_facebook_sources") h3,
    ) refl

-- ---- the fields do not change if each group is read after the keys of the earlier groups were removed

pub from_file_keys : (ms m1 : Members) (id : Option (List ℕ)) → debug_id_in ms ≡ Some id → TakesIds ms m1
    → fields_in ms ≡ with (file_keys_in m1)
    (λ h. with (content_keys_in ms) (λ c. with (extra_keys_in ms) (λ x. Some (fields_from h c x id))))
from_file_keys ms m1 id has_id ids =
    sym (fields_grouped ms)
    ∙ ap (λ o. with o (λ id. with (file_keys_in ms)
    (λ h. with (content_keys_in ms) (λ c. with (extra_keys_in ms) (λ x. Some (fields_from h c x id)))))) has_id
    ∙ ap (λ o.
    with o (λ h. with (content_keys_in ms) (λ c. with (extra_keys_in ms) (λ x. Some (fields_from h c x id)))))
    (sym (file_keys_kept ms m1 (ids_kept ms m1 ids)))

pub from_content : (ms m1 m2 : Members) (id : Option (List ℕ)) (h : FileKeys) → debug_id_in ms ≡ Some id
    → TakesIds ms m1
    → file_keys_in m1 ≡ Some h → KeepsBut file_key_names m1 m2
    → fields_in ms ≡ with (content_keys_in m2) (λ c. with (extra_keys_in ms) (λ x. Some (fields_from h c x id)))
from_content ms m1 m2 id h has_id ids has_file_keys file_keys =
    from_file_keys ms m1 id has_id ids
    ∙ ap (λ o. with o (λ h.
    with (content_keys_in ms) (λ c. with (extra_keys_in ms) (λ x. Some (fields_from h c x id))))) has_file_keys
    ∙ ap (λ o. with o (λ c. with (extra_keys_in ms) (λ x. Some (fields_from h c x id))))
    (sym (content_kept file_key_names m1 m2 file_keys refl refl refl refl
    ∙ content_kept id_names ms m1 (ids_kept ms m1 ids) refl refl refl refl))

pub from_extras : (ms m1 m2 m3 : Members) (id : Option (List ℕ)) (h : FileKeys) (c : ContentKeys)
    → debug_id_in ms ≡ Some id → TakesIds ms m1
    → file_keys_in m1 ≡ Some h → KeepsBut file_key_names m1 m2
    → content_keys_in m2 ≡ Some c → KeepsBut content_key_names m2 m3
    → fields_in ms ≡ with (extra_keys_in m3) (λ x. Some (fields_from h c x id))
from_extras ms m1 m2 m3 id h c has_id ids has_file_keys file_keys has_content contents =
    from_content ms m1 m2 id h has_id ids has_file_keys file_keys
    ∙ ap (λ o. with o (λ c. with (extra_keys_in ms) (λ x. Some (fields_from h c x id)))) has_content
    ∙ ap (λ o. with o (λ x. Some (fields_from h c x id)))
    (sym (extras_kept content_key_names m2 m3 contents refl refl refl refl
    ∙ extras_kept file_key_names m1 m2 file_keys refl refl refl refl
    ∙ extras_kept id_names ms m1 (ids_kept ms m1 ids) refl refl refl refl))
