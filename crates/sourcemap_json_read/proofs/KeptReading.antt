-- What is kept while items and members are read one after another, at a level or without one.
use Rattle.std.proofs.Common.{◌≡◌, ℕ, true, false, List, [], ◌∷◌, ◌++◌, Option, Some, None, is_some, IsTrue, map}
use Rattle.std.proofs.Common.{option_and_then, Vec, BTreeMap, String, Global, refl, sym, ap, ◌∙◌}
use Rattle.std.proofs.lemmas.Bool.{true≢false, false≢true}
use Rattle.std.proofs.lemmas.List.{map_push}
use Rattle.std.specs.Option.{option_map_or}
use Rattle.serde_json.specs.Data.{Data, array, object, Items, no_items, item, Members, no_members, put}
use Rattle.serde_json.specs.View.{view, items_of, items_view, members_view}
use Rattle.serde_json.specs.declared.value.Value.{Value, Array, Object}
use Rattle.serde_json.proofs.Views.{view-Array, view-Object}
use Rattle.sourcemap_json_read.specs.Kept.{Part, at_key, all_items, kept, kept_list, IsKept, AreKeptMembers}
use Rattle.sourcemap_json_read.proofs.KeptLemmas.{AreOrdered, kept-put, dropped-put, kept-items_of}

-- the values `front`, as items, followed by the items `ds`
abbrev pub in_front : List Data → Items → Items
in_front [] ds = ds
in_front (d ∷ front) ds = item d (in_front front ds)

pub in_front-no_items : (front : List Data) → in_front front no_items ≡ items_of front
in_front-no_items [] = refl
in_front-no_items (d ∷ front) = ap (item d) (in_front-no_items front)

pub in_front-item : (front : List Data) (d : Data) (ds : Items)
    → in_front front (item d ds) ≡ in_front (front ++ d ∷ []) ds
in_front-item [] d ds = refl
in_front-item (e ∷ front) d ds = ap (item e) (in_front-item front d ds)

module _ {L : Type 0} (inside : L → Part → Option L) where
  -- the level keeps all of `d`
  pub kept_whole : (level : Option L) (d v : Data) → ((l : L) → kept inside l d ≡ d) → (IsTrue (is_some level) → v ≡ d)
      → IsKept inside level d v
  kept_whole None d v whole is = tt
  kept_whole (Some l) d v whole is = is refl ∙ sym (whole l)

  pub kept_array : (level inner : Option L) (ds : Items) (v : Vec Value Global)
      → inner ≡ option_and_then (λ l. inside l all_items) level → items_view v.items ≡ kept_list inside inner ds
      → IsKept inside level (array ds) (view (Array v))
  kept_array None inner ds v at h = tt
  kept_array (Some l) inner ds v at h = view-Array v ∙ ap array (h ∙ ap (λ o. kept_list inside o ds) at)

  pub kept_object : (level : Option L) (ms : Members) (m : BTreeMap (String Global) Value)
      → AreKeptMembers inside level ms (members_view m.entries) → IsKept inside level (object ms) (view (Object m))
  kept_object None ms m h = tt
  kept_object (Some l) ms m h = view-Object m ∙ ap object h

  -- ---- items

  -- `vs` are what is kept of the values `front`
  abbrev pub KeepsFront : Option L → List Data → List Value → Type 0
  KeepsFront level front vs = map view vs ≡ option_map_or (λ l. map (kept inside l) front) level []

  pub no_front : (level : Option L) → KeepsFront level [] []
  no_front None = refl
  no_front (Some l) = refl

  pub kept_front : (level : Option L) (front : List Data) (vs : List Value) → KeepsFront level front vs
      → items_view vs ≡ kept_list inside level (items_of front)
  kept_front None front vs h = ap items_of h
  kept_front (Some l) front vs h = ap items_of h ∙ sym (kept-items_of inside l front)

  pub kept_item : (level : Option L) (front : List Data) (vs : List Value) (d : Data) (v : Value)
      → KeepsFront level front vs → IsKept inside level d (view v) → is_some level ≡ true
      → KeepsFront level (front ++ d ∷ []) (vs ++ v ∷ [])
  kept_item None front vs d v h is keeps = absurd (false≢true keeps)
  kept_item (Some l) front vs d v h is keeps =
      map_push view vs v ∙ ap (λ seen. seen ++ view v ∷ []) h ∙ ap (λ x. map (kept inside l) front ++ x ∷ []) is
      ∙ sym (map_push (kept inside l) front d)

  pub skipped_item : (level : Option L) (front : List Data) (vs : List Value) (d : Data) → KeepsFront level front vs
      → is_some level ≡ false → KeepsFront level (front ++ d ∷ []) vs
  skipped_item None front vs d h none = h
  skipped_item (Some l) front vs d h none = absurd (true≢false none)

  -- ---- members

  pub no_members_kept : (level : Option L) → AreKeptMembers inside level no_members no_members
  no_members_kept None = tt
  no_members_kept (Some l) = refl

  pub kept_member : (level inner : Option L) (k s : List ℕ) (d v : Data) (before seen : Members)
      → inner ≡ option_and_then (λ l. inside l (at_key s)) level → (IsTrue (is_some level) → k ≡ s)
      → AreOrdered before → AreKeptMembers inside level before seen → IsKept inside inner d v → is_some inner ≡ true
      → AreKeptMembers inside level (put k d before) (put s v seen)
  kept_member None inner k s d v before seen at same ordered h is keeps = tt
  kept_member (Some l) None k s d v before seen at same ordered h is keeps = absurd (false≢true keeps)
  kept_member (Some l) (Some i) k s d v before seen at same ordered h is keeps =
      let there : inside l (at_key k) ≡ Some i = ap (λ key. inside l (at_key key)) (same refl) ∙ sym at in
      ap (λ name. put name v seen) (sym (same refl)) ∙ ap (λ x. put k x seen) is ∙ ap (put k (kept inside i d)) h
      ∙ sym (kept-put inside l i k d before there ordered)

  pub skipped_member : (level inner : Option L) (k s : List ℕ) (d : Data) (before seen : Members)
      → inner ≡ option_and_then (λ l. inside l (at_key s)) level → (IsTrue (is_some level) → k ≡ s)
      → AreKeptMembers inside level before seen → is_some inner ≡ false
      → AreKeptMembers inside level (put k d before) seen
  skipped_member None inner k s d before seen at same h none = tt
  skipped_member (Some l) (Some i) k s d before seen at same h none = absurd (true≢false none)
  skipped_member (Some l) None k s d before seen at same h none =
      let there : inside l (at_key k) ≡ None = ap (λ key. inside l (at_key key)) (same refl) ∙ sym at in
      h ∙ sym (dropped-put inside l k d before there)
