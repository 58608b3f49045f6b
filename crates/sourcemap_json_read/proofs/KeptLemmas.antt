-- What is kept of a value: of a put member, of the member of a key, of nested levels.
use Rattle.std.proofs.Common.{◌≡◌, ℕ, ◌≤◌, List, [], ◌∷◌, ◌++◌, Option, Some, None, option_map, option_and_then, max}
use Rattle.std.proofs.Common.{Ordering, Less, Equal, Greater, nat_cmp, is_eq, string_bytes, string_cmp}
use Rattle.std.proofs.Common.{map, refl, sym, ap, ap₂, ◌∙◌, arith}
use Rattle.std.proofs.lemmas.Cmp.{nat_list_cmp_total}
use Rattle.std.proofs.lemmas.Map.Text.{is_eq-slice_cmp}
use Rattle.std.proofs.lemmas.Slice.Eq.{bytes_eq-Decides}
use Rattle.std.specs.Prelude.{⊤}
use Rattle.std.specs.Cmp.Lexicographic.{slice_cmp}
use Rattle.std.specs.List.{AllByRecursion}
use Rattle.std.specs.List.Sorted.{IsStrictlySortedBy}
use Rattle.std.specs.Map.{keys_of}
use Rattle.std.specs.Option.{option_map_or}
use Rattle.std.specs.Ordering.{match_ordering, ordering_reverse}
use Rattle.serde_json.specs.Data.{Data, null, boolean, number, string, array, object, Items, no_items, item}
use Rattle.serde_json.specs.Data.{Members, no_members, member, put, depth, items_depth, members_depth}
use Rattle.serde_json.specs.Find.{get_member}
use Rattle.serde_json.specs.Read.{max_depth}
use Rattle.serde_json.specs.View.{view, items_of, items_view, members_view}
use Rattle.serde_json.specs.declared.value.Value.{Value}
use Rattle.serde_json.proofs.Nesting.{depth-read}
use Rattle.serde_json.proofs.Views.{Entry, put_last}
use Rattle.sourcemap_json_read.specs.Kept.{Part, at_key, all_items, kept, kept_items, kept_list, kept_members, HoldsKept}

same_key : (k l : List ℕ) → slice_cmp nat_cmp k l ≡ Equal → k ≡ l
same_key k l is = (bytes_eq-Decides k l).0 (sym (is_eq-slice_cmp k l) ∙ ap is_eq is)

-- ---- members in the order of their keys, each key once

-- the key is before all keys of the members
abbrev IsFirst : List ℕ → Members → Type 0
IsFirst k no_members = ⊤
IsFirst k (member l d ms) = (slice_cmp nat_cmp k l ≡ Less) × IsFirst k ms

abbrev pub AreOrdered : Members → Type 0
AreOrdered no_members = ⊤
AreOrdered (member k d ms) = IsFirst k ms × AreOrdered ms

IsFirst-before : (j k : List ℕ) (ms : Members) → slice_cmp nat_cmp j k ≡ Less → IsFirst k ms → IsFirst j ms
IsFirst-before j k no_members before h = tt
IsFirst-before j k (member l d ms) before h =
    (nat_list_cmp_total.trans j k l before h.0, IsFirst-before j k ms before h.1)

IsFirst-put_at : (o : Ordering) (j k l : List ℕ) (d e : Data) (ms : Members) → slice_cmp nat_cmp j k ≡ Less
    → IsFirst j (member l e ms) → IsFirst j (put k d ms)
    → IsFirst j (match_ordering o (member k d (member l e ms)) (member l d ms) (member l e (put k d ms)))
IsFirst-put_at Less j k l d e ms before h later = (before, h)
IsFirst-put_at Equal j k l d e ms before h later = h
IsFirst-put_at Greater j k l d e ms before h later = (h.0, later)

IsFirst-put : (j k : List ℕ) (d : Data) (ms : Members) → slice_cmp nat_cmp j k ≡ Less → IsFirst j ms
    → IsFirst j (put k d ms)
IsFirst-put j k d no_members before h = (before, tt)
IsFirst-put j k d (member l e ms) before h =
    IsFirst-put_at (slice_cmp nat_cmp k l) j k l d e ms before h (IsFirst-put j k d ms before h.1)

AreOrdered-put_at : (o : Ordering) (k l : List ℕ) (d e : Data) (ms : Members) → slice_cmp nat_cmp k l ≡ o
    → AreOrdered (member l e ms) → AreOrdered (put k d ms)
    → AreOrdered (match_ordering o (member k d (member l e ms)) (member l d ms) (member l e (put k d ms)))
AreOrdered-put_at Less k l d e ms is h later = ((is, IsFirst-before k l ms is h.0), h)
AreOrdered-put_at Equal k l d e ms is h later = h
AreOrdered-put_at Greater k l d e ms is h later =
    (IsFirst-put l k d ms (nat_list_cmp_total.antisymm l k ∙ ap ordering_reverse is) h.0, later)

pub AreOrdered-put : (k : List ℕ) (d : Data) (ms : Members) → AreOrdered ms → AreOrdered (put k d ms)
AreOrdered-put k d no_members h = (tt, tt)
AreOrdered-put k d (member l e ms) h =
    AreOrdered-put_at (slice_cmp nat_cmp k l) k l d e ms refl h (AreOrdered-put k d ms h.1)

IsFirst-front : (first : Entry) (done more : List Entry)
    → AllByRecursion (λ k. string_cmp first.0 k ≡ Less) (keys_of (done ++ more))
    → IsFirst (string_bytes first.0) (members_view done)
IsFirst-front first [] more h = tt
IsFirst-front first (e ∷ done) more h = (h.0, IsFirst-front first done more h.1)

-- the entries of a map are ordered, and so are the first of them
pub AreOrdered-front : (done more : List Entry) → IsStrictlySortedBy string_cmp (keys_of (done ++ more))
    → AreOrdered (members_view done)
unfolding IsStrictlySortedBy
AreOrdered-front [] more h = tt
AreOrdered-front (e ∷ done) more h = (IsFirst-front e done more h.0, AreOrdered-front done more h.1)

put-first : (k : List ℕ) (d : Data) (ms : Members) → IsFirst k ms → put k d ms ≡ member k d ms
put-first k d no_members h = refl
put-first k d (member l e ms) h =
    ap (λ o. match_ordering o (member k d (member l e ms)) (member l d ms) (member l e (put k d ms))) h.0

-- ---- what is kept

module _ {L : Type 0} (inside : L → Part → Option L) where
  -- a member, if it is kept, before other members
  abbrev kept_before : List ℕ → Data → Members → Option L → Members
  kept_before k d rest o = option_map_or (λ inner. member k (kept inside inner d) rest) o rest

  IsFirst-kept_before : (o : Option L) (k l : List ℕ) (d : Data) (rest : Members) → slice_cmp nat_cmp k l ≡ Less
      → IsFirst k rest → IsFirst k (kept_before l d rest o)
  IsFirst-kept_before None k l d rest before h = h
  IsFirst-kept_before (Some inner) k l d rest before h = (before, h)

  IsFirst-kept : (level : L) (k : List ℕ) (ms : Members) → IsFirst k ms → IsFirst k (kept_members inside level ms)
  IsFirst-kept level k no_members h = tt
  IsFirst-kept level k (member l d ms) h =
      IsFirst-kept_before (inside level (at_key l)) k l d (kept_members inside level ms) h.0
      (IsFirst-kept level k ms h.1)

  put-kept_before : (o : Option L) (k l : List ℕ) (d e : Data) (rest : Members) → slice_cmp nat_cmp k l ≡ Greater
      → kept_before l e (put k d rest) o ≡ put k d (kept_before l e rest o)
  put-kept_before None k l d e rest after = refl
  put-kept_before (Some inner) k l d e rest after = rw after

  kept-put_at : (o : Ordering) (level inner : L) (k l : List ℕ) (d e : Data) (ms : Members)
      → slice_cmp nat_cmp k l ≡ o → inside level (at_key k) ≡ Some inner → AreOrdered (member l e ms)
      → kept_members inside level (put k d ms) ≡ put k (kept inside inner d) (kept_members inside level ms)
      → kept_members inside level
      (match_ordering o (member k d (member l e ms)) (member l d ms) (member l e (put k d ms)))
      ≡ put k (kept inside inner d) (kept_members inside level (member l e ms))
  kept-put_at Less level inner k l d e ms is keeps h later =
      ap (kept_before k d (kept_members inside level (member l e ms))) keeps
      ∙ sym (put-first k (kept inside inner d) (kept_members inside level (member l e ms))
      (IsFirst-kept level k (member l e ms) (is, IsFirst-before k l ms is h.0)))
  kept-put_at Equal level inner k l d e ms is keeps h later =
      let here : inside level (at_key l) ≡ Some inner =
      sym (ap (λ key. inside level (at_key key)) (same_key k l is)) ∙ keeps in
      rw (here, is)
  kept-put_at Greater level inner k l d e ms is keeps h later =
      ap (λ rest. kept_before l e rest (inside level (at_key l))) later
      ∙ put-kept_before (inside level (at_key l)) k l (kept inside inner d) e (kept_members inside level ms) is

  -- a kept member is put where it would be put with all others
  pub kept-put : (level inner : L) (k : List ℕ) (d : Data) (ms : Members) → inside level (at_key k) ≡ Some inner
      → AreOrdered ms
      → kept_members inside level (put k d ms) ≡ put k (kept inside inner d) (kept_members inside level ms)
  kept-put level inner k d no_members keeps h = ap (kept_before k d no_members) keeps
  kept-put level inner k d (member l e ms) keeps h =
      kept-put_at (slice_cmp nat_cmp k l) level inner k l d e ms refl keeps h (kept-put level inner k d ms keeps h.1)

  dropped-put_at : (o : Ordering) (level : L) (k l : List ℕ) (d e : Data) (ms : Members)
      → slice_cmp nat_cmp k l ≡ o → inside level (at_key k) ≡ None
      → kept_members inside level (put k d ms) ≡ kept_members inside level ms
      → kept_members inside level
      (match_ordering o (member k d (member l e ms)) (member l d ms) (member l e (put k d ms)))
      ≡ kept_members inside level (member l e ms)
  dropped-put_at Less level k l d e ms is drops later =
      ap (kept_before k d (kept_members inside level (member l e ms))) drops
  dropped-put_at Equal level k l d e ms is drops later =
      let here : inside level (at_key l) ≡ None =
      sym (ap (λ key. inside level (at_key key)) (same_key k l is)) ∙ drops in
      rw here
  dropped-put_at Greater level k l d e ms is drops later =
      ap (λ rest. kept_before l e rest (inside level (at_key l))) later

  -- a member that is not kept changes nothing
  pub dropped-put : (level : L) (k : List ℕ) (d : Data) (ms : Members) → inside level (at_key k) ≡ None
      → kept_members inside level (put k d ms) ≡ kept_members inside level ms
  dropped-put level k d no_members drops = ap (kept_before k d no_members) drops
  dropped-put level k d (member l e ms) drops =
      dropped-put_at (slice_cmp nat_cmp k l) level k l d e ms refl drops (dropped-put level k d ms drops)

  -- what is kept of the member of a key, if the object keeps this member
  abbrev found_inside : Option L → Option Data → Option Data
  found_inside o d = option_and_then (λ inner. option_map (kept inside inner) d) o

  nothing_inside : (o : Option L) → None ≡ found_inside o None
  nothing_inside None = refl
  nothing_inside (Some inner) = refl

  get_member-kept_at : (o : Ordering) (p : Option L) (level : L) (k l : List ℕ) (e : Data) (ms : Members)
      → slice_cmp nat_cmp k l ≡ o → inside level (at_key l) ≡ p
      → get_member k (kept_members inside level ms) ≡ found_inside (inside level (at_key k)) (get_member k ms)
      → get_member k (kept_before l e (kept_members inside level ms) p)
      ≡ found_inside (inside level (at_key k)) (match_ordering o (get_member k ms) (Some e) (get_member k ms))
  get_member-kept_at Less None level k l e ms is at later = later
  get_member-kept_at Less (Some inner) level k l e ms is at later = rw is later
  get_member-kept_at Greater None level k l e ms is at later = later
  get_member-kept_at Greater (Some inner) level k l e ms is at later = rw is later
  get_member-kept_at Equal None level k l e ms is at later =
      let here : inside level (at_key k) ≡ None = ap (λ key. inside level (at_key key)) (same_key k l is) ∙ at in
      later ∙ rw here
  get_member-kept_at Equal (Some inner) level k l e ms is at later =
      let here : inside level (at_key k) ≡ Some inner = ap (λ key. inside level (at_key key)) (same_key k l is) ∙ at in
      rw (is, here)

  pub get_member-kept : (level : L) (k : List ℕ) (ms : Members)
      → get_member k (kept_members inside level ms)
      ≡ option_and_then (λ inner. option_map (kept inside inner) (get_member k ms)) (inside level (at_key k))
  get_member-kept level k no_members = nothing_inside (inside level (at_key k))
  get_member-kept level k (member l e ms) =
      get_member-kept_at (slice_cmp nat_cmp k l) (inside level (at_key l)) level k l e ms refl refl
      (get_member-kept level k ms)

  members_depth-kept_at : (o : Option L) (k : List ℕ) (d : Data) (rest : Members) (most : ℕ)
      → ((inner : L) → depth (kept inside inner d) ≤ depth d) → members_depth rest ≤ most
      → members_depth (kept_before k d rest o) ≤ max (depth d) most
  members_depth-kept_at None k d rest most value less = omega arith
  members_depth-kept_at (Some inner) k d rest most value less = omega (arith, value inner)

  list_depth-kept : (level : Option L) (ds : Items)
      → ((l : L) → items_depth (kept_items inside l ds) ≤ items_depth ds)
      → items_depth (kept_list inside level ds) ≤ items_depth ds
  list_depth-kept None ds items = omega arith
  list_depth-kept (Some l) ds items = items l

  mutual
    -- what is kept has at most the levels of the whole
    pub depth-kept : (level : L) (d : Data) → depth (kept inside level d) ≤ depth d
    depth-kept level null = omega arith
    depth-kept level (boolean b) = omega arith
    depth-kept level (number n) = omega arith
    depth-kept level (string s) = omega arith
    depth-kept level (array ds) = omega (arith, list_depth-kept (inside level all_items) ds (λ l. items_depth-kept l ds))
    depth-kept level (object ms) = omega (arith, members_depth-kept level ms)

    items_depth-kept : (level : L) (ds : Items) → items_depth (kept_items inside level ds) ≤ items_depth ds
    items_depth-kept level no_items = omega arith
    items_depth-kept level (item d ds) = omega (arith, depth-kept level d, items_depth-kept level ds)

    members_depth-kept : (level : L) (ms : Members)
        → members_depth (kept_members inside level ms) ≤ members_depth ms
    members_depth-kept level no_members = omega arith
    members_depth-kept level (member k d ms) =
        members_depth-kept_at (inside level (at_key k)) k d (kept_members inside level ms) (members_depth ms)
        (λ inner. depth-kept inner d) (members_depth-kept level ms)

  pub depth-HoldsKept : (level : L) (bytes : List ℕ) (v : Data) → HoldsKept inside level bytes v → depth v ≤ max_depth
  depth-HoldsKept level bytes v h =
      omega (arith, ap depth h.1.2, depth-kept level h.1.0, depth-read bytes h.1.0 h.1.1)

  pub kept-items_of : (level : L) (ds : List Data)
      → kept_items inside level (items_of ds) ≡ items_of (map (kept inside level) ds)
  kept-items_of level [] = refl
  kept-items_of level (d ∷ ds) = ap (item (kept inside level d)) (kept-items_of level ds)

  pub kept-items_view : (level : L) (vs : List Value)
      → items_of (map (λ v. kept inside level (view v)) vs) ≡ kept_items inside level (items_view vs)
  kept-items_view level [] = refl
  kept-items_view level (v ∷ vs) = ap (item (kept inside level (view v))) (kept-items_view level vs)

  -- a copy of the first entries of a map, with one more entry that is kept
  pub kept-next : (level inner : L) (done : List Entry) (e : Entry) (more : List Entry)
      → inside level (at_key (string_bytes e.0)) ≡ Some inner
      → IsStrictlySortedBy string_cmp (keys_of (done ++ e ∷ more))
      → put (string_bytes e.0) (kept inside inner (view e.1)) (kept_members inside level (members_view done))
      ≡ kept_members inside level (members_view (done ++ e ∷ []))
  kept-next level inner done e more keeps ordered =
      sym (kept-put level inner (string_bytes e.0) (view e.1) (members_view done) keeps
      (AreOrdered-front done (e ∷ more) ordered))
      ∙ ap (kept_members inside level) (put_last done e more ordered)

  -- with one more entry that is not kept
  pub dropped-next : (level : L) (done : List Entry) (e : Entry) (more : List Entry)
      → inside level (at_key (string_bytes e.0)) ≡ None
      → IsStrictlySortedBy string_cmp (keys_of (done ++ e ∷ more))
      → kept_members inside level (members_view done) ≡ kept_members inside level (members_view (done ++ e ∷ []))
  dropped-next level done e more drops ordered =
      sym (dropped-put level (string_bytes e.0) (view e.1) (members_view done) drops)
      ∙ ap (kept_members inside level) (put_last done e more ordered)

  -- a level that keeps each member and all items, at this same level, keeps the whole value
  module _ (level : L) (each : (k : List ℕ) → inside level (at_key k) ≡ Some level)
      (all : inside level all_items ≡ Some level) where
    mutual
      pub kept-whole : (d : Data) → kept inside level d ≡ d
      kept-whole null = refl
      kept-whole (boolean b) = refl
      kept-whole (number n) = refl
      kept-whole (string s) = refl
      kept-whole (array ds) = ap array (ap (λ l. kept_list inside l ds) all ∙ kept_items-whole ds)
      kept-whole (object ms) = ap object (kept_members-whole ms)

      pub kept_items-whole : (ds : Items) → kept_items inside level ds ≡ ds
      kept_items-whole no_items = refl
      kept_items-whole (item d ds) = ap₂ item (kept-whole d) (kept_items-whole ds)

      pub kept_members-whole : (ms : Members) → kept_members inside level ms ≡ ms
      kept_members-whole no_members = refl
      kept_members-whole (member k d ms) =
          ap (kept_before k d (kept_members inside level ms)) (each k)
          ∙ ap₂ (member k) (kept-whole d) (kept_members-whole ms)
