-- Removing the key `sections` from an object does not change the fields of its record. Removing the key `map` does not
-- change the head of a section. The values of these two keys hold records.
use Rattle.std.proofs.Common.{◌≡◌, ℕ, ◌<◌, arith, String, Global, BTreeMap, option_map, List, [], ◌∷◌, ◌++◌, Option, Some, None, Ordering, Less, Equal, Greater, nat_cmp, codes, refl, sym, ap, ◌∙◌}
use Rattle.std.specs.Cmp.Lexicographic.{slice_cmp}
use Rattle.std.specs.Ordering.{match_ordering}
use Rattle.serde_json.specs.View.{view, members_view}
use Rattle.serde_json.specs.declared.value.Value.{Value, Object}
use Rattle.serde_json.proofs.Views.{view-Object}
use Rattle.sourcemap_records.proofs.DepthLemmas.{depth_in, depth_of_taken}
use Rattle.serde_json.specs.Data.{Data, depth, Items, item, Members, no_members, member}
use Rattle.serde_json.specs.Find.{get_member}
use Rattle.sourcemap_records.specs.Field.{KeepsOthers, with, found, at, or_null}
use Rattle.sourcemap_records.specs.Jsontypes.{tree_with, section_at, Section, Sections, no_more, section_with, sections_from, sections_in, sections_of, sections_read, section_of, map_in, record_of, fields_in, section_head_in}

abbrev Map : Type 0
Map = BTreeMap (String Global) Value

found_either : {X : Type 0} (read : Data → Option X) (o : Ordering) (r : Option Data) (d : Data)
    → found read (match_ordering o r (Some d) r) ≡ match_ordering o (found read r) (or_null read d) (found read r)
found_either read Less r d = refl
found_either read Equal r d = refl
found_either read Greater r d = refl

pub sections_in-at : (ms : Members) → sections_in ms ≡ at (codes "sections") sections_of ms
sections_in-at no_members = refl
sections_in-at (member key d ms) =
    let o = slice_cmp nat_cmp (codes "sections") key in
    ap (λ r. match_ordering o r (or_null sections_of d) r) (sections_in-at ms)
    ∙ sym (found_either sections_of o (get_member (codes "sections") ms) d)

pub map_in-at : (ms : Members) → map_in ms ≡ at (codes "map") record_of ms
map_in-at no_members = refl
map_in-at (member key d ms) =
    let o = slice_cmp nat_cmp (codes "map") key in
    ap (λ r. match_ordering o r (or_null record_of d) r) (map_in-at ms)
    ∙ sym (found_either record_of o (get_member (codes "map") ms) d)

pub fields_kept : (a b : Members) → KeepsOthers (codes "sections") a b → fields_in b ≡ fields_in a
fields_kept a b kept =
    rw (
      kept (codes "debugId") refl,
      kept (codes "debug_id") refl,
      kept (codes "version") refl,
      kept (codes "file") refl,
      kept (codes "sources") refl,
      kept (codes "sourceRoot") refl,
      kept (codes "sourcesContent") refl,
      kept (codes "names") refl,
      kept (codes "rangeMappings") refl,
      kept (codes "mappings") refl,
      kept (codes "ignoreList") refl,
      kept (codes "x_facebook_offsets") refl,
      kept (codes "x_metro_module_paths") refl,
      kept (codes "x_facebook_sources") refl,
    )

pub section_head_kept : (a b : Members) → KeepsOthers (codes "map") a b → section_head_in b ≡ section_head_in a
section_head_kept a b kept = rw (kept (codes "offset") refl, kept (codes "url") refl)

-- sections in front of others
abbrev pub before : List Section → Sections → Sections
before [] more = more
before (s ∷ ss) more = section_with s.head s.map (before ss more)

pub before-append : (ss : List Section) (s : Section) (more : Sections)
    → before (ss ++ s ∷ []) more ≡ before ss (section_with s.head s.map more)
before-append [] s more = refl
before-append (x ∷ ss) s more = ap (section_with x.head x.map) (before-append ss s more)

pub before-none : (ss : List Section) → before ss no_more ≡ sections_from ss
before-none [] = refl
before-none (s ∷ ss) = ap (section_with s.head s.map) (before-none ss)

-- one more section is read
pub sections_read-item : (done : List Section) (s : Section) (d : Data) (rest : Items) → section_of d ≡ Some s
    → with (sections_read (item d rest)) (λ more. Some (before done more))
    ≡ with (sections_read rest) (λ more. Some (before (done ++ s ∷ []) more))
sections_read-item done s d rest is = rw is (of_rest (sections_read rest))
  where
    of_rest : (r : Option Sections) → with (with r (λ more. Some (section_with s.head s.map more)))
        (λ more. Some (before done more)) ≡ with r (λ more. Some (before (done ++ s ∷ []) more))
    of_rest None = refl
    of_rest (Some more) = ap Some (sym (before-append done s more))

pub none_read : (done : List Section) (d : Data) (rest : Items) → section_of d ≡ None
    → with (sections_read (item d rest)) (λ more. Some (before done more)) ≡ None
none_read done d rest is = rw is refl

-- let `v` be the value at the key `sections` in the object `m`, or `None` if `m` has no such key. Let `left` agree with
-- `m` at every other key. Reading `m` as a record gives the same result as reading the sections from `v` and the fields
-- from `left`
pub map_split : (value : Value) (m : Map) (left : Members) (v : Option Data) → value ≡ Object m
    → v ≡ get_member (codes "sections") (members_view m.entries)
    → KeepsOthers (codes "sections") (members_view m.entries) left
    → record_of (view value)
    ≡ with (found sections_of v) (λ sections. with (fields_in left) (λ fields. Some (tree_with fields sections)))
map_split value m left v is taken kept =
    let ms = members_view m.entries in
    ap (λ v. record_of (view v)) is ∙ ap record_of (view-Object m)
    ∙ ap (λ s. with s (λ sections. with (fields_in ms) (λ fields. Some (tree_with fields sections))))
    (sections_in-at ms ∙ ap (found sections_of) (sym taken))
    ∙ ap (λ f. with (found sections_of v) (λ sections. with f (λ fields. Some (tree_with fields sections))))
    (sym (fields_kept ms left kept))

-- let `v` be the value at the key `map` in the object `m`, or `None` if `m` has no such key. Let `left` agree with `m`
-- at every other key. Reading `m` as a section gives the same result as reading the map from `v` and the head from
-- `left`
pub section_split : (value : Value) (m : Map) (left : Members) (v : Option Data) → value ≡ Object m
    → v ≡ get_member (codes "map") (members_view m.entries)
    → KeepsOthers (codes "map") (members_view m.entries) left
    → section_of (view value)
    ≡ with (found record_of v) (λ t. with (section_head_in left) (λ head. Some (section_at head t)))
section_split value m left v is taken kept =
    let ms = members_view m.entries in
    ap (λ v. section_of (view v)) is ∙ ap section_of (view-Object m)
    ∙ ap (λ t. with t (λ t. with (section_head_in ms) (λ head. Some (section_at head t))))
    (map_in-at ms ∙ ap (found record_of) (sym taken))
    ∙ ap (λ p. with (found record_of v) (λ t. with p (λ head. Some (section_at head t))))
    (sym (section_head_kept ms left kept))

pub depth_split : (value : Value) (m : Map) (key : List ℕ) (v : Option Value) → value ≡ Object m
    → option_map view v ≡ get_member key (members_view m.entries)
    → depth_in (option_map view v) < depth (view value)
depth_split value m key v is taken =
    let deep = depth_of_taken v key (members_view m.entries) taken in
    let whole = ap (λ v. depth (view v)) is ∙ ap depth (view-Object m) in
    omega (arith, deep, whole)
