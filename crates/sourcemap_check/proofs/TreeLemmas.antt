-- Trees, and the keys that they come from.
use Rattle.std.proofs.Common.{◌≡◌, ℕ, suc, ◌+◌, ◌<◌, ◌≤◌, max, List, Option, Some, None, Ordering, Less, Equal, Greater}
use Rattle.std.proofs.Common.{nat_cmp, arith, refl, ap, ◌∙◌, sym, true, false, zero, [], ◌∷◌, length, get_or, drop}
use Rattle.std.proofs.lemmas.List.{drop_more}
use Rattle.serde_json.specs.View.{view, items_view}
use Rattle.serde_json.specs.declared.value.Value.{Value}
use Rattle.std.specs.Prelude.{codes, option_and_then, is_some}
use Rattle.std.specs.Cmp.Lexicographic.{slice_cmp}
use Rattle.std.specs.Ordering.{match_ordering}
use Rattle.serde_json.specs.Data.{Data, null, boolean, number, string, array, object, Items}
use Rattle.serde_json.specs.Data.{Members, no_members, member, depth, items_depth, members_depth}
use Rattle.serde_json.specs.Find.{get, get_member, as_array, as_object}
use Rattle.sourcemap_check_keys.specs.Values.{list_at}
use Rattle.sourcemap_check.specs.Trees.{Tree, tree, Sections, no_sections, tree_of, sections_in, sections_of}
use Rattle.sourcemap_check.specs.Trees.{sections_from}
use Rattle.sourcemap_check.specs.Trees.{inner_of, inner_in, map_tree, with_section}

-- The sections of a map.

abbrev pub sections_at : Option Data → Sections
sections_at None = no_sections
sections_at (Some d) = sections_of d

sections_found : (o : Ordering) (r : Option Data) (d : Data) (rest : Sections) → rest ≡ sections_at r
    → match_ordering o rest (sections_of d) rest ≡ sections_at (match_ordering o r (Some d) r)
sections_found Less r d rest e = e
sections_found Equal r d rest e = refl
sections_found Greater r d rest e = e

pub sections_in-get : (ms : Members) → sections_in ms ≡ sections_at (get_member (codes "sections") ms)
sections_in-get no_members = refl
sections_in-get (member k d ms) =
    sections_found (slice_cmp nat_cmp (codes "sections") k) (get_member (codes "sections") ms) d (sections_in ms)
    (sections_in-get ms)

abbrev pub sections_listed : Option Items → Sections
sections_listed None = no_sections
sections_listed (Some ds) = sections_from ds

sections_of-array : (d : Data) → sections_of d ≡ sections_listed (as_array d)
sections_of-array null = refl
sections_of-array (boolean b) = refl
sections_of-array (number n) = refl
sections_of-array (string s) = refl
sections_of-array (array ds) = refl
sections_of-array (object ms) = refl

sections_at-list : (o : Option Data) → sections_at o ≡ sections_listed (option_and_then as_array o)
sections_at-list None = refl
sections_at-list (Some d) = sections_of-array d

pub tree_of-list : (d : Data) → tree_of d ≡ tree d (sections_listed (list_at (codes "sections") d))
tree_of-list null = refl
tree_of-list (boolean b) = refl
tree_of-list (number n) = refl
tree_of-list (string s) = refl
tree_of-list (array ds) = refl
tree_of-list (object ms) =
    ap (tree (object ms)) (sections_in-get ms ∙ sections_at-list (get_member (codes "sections") ms))

-- The map in a section.

abbrev pub inner_at : Option Data → Option Tree
inner_at None = None
inner_at (Some d) = map_tree d

inner_found : (o : Ordering) (r : Option Data) (d : Data) (rest : Option Tree) → rest ≡ inner_at r
    → match_ordering o rest (map_tree d) rest ≡ inner_at (match_ordering o r (Some d) r)
inner_found Less r d rest e = e
inner_found Equal r d rest e = refl
inner_found Greater r d rest e = e

pub inner_in-get : (ms : Members) → inner_in ms ≡ inner_at (get_member (codes "map") ms)
inner_in-get no_members = refl
inner_in-get (member k d ms) =
    inner_found (slice_cmp nat_cmp (codes "map") k) (get_member (codes "map") ms) d (inner_in ms) (inner_in-get ms)

inner_of-get : (d : Data) → inner_of d ≡ inner_at (get (codes "map") d)
inner_of-get null = refl
inner_of-get (boolean b) = refl
inner_of-get (number n) = refl
inner_of-get (string s) = refl
inner_of-get (array ds) = refl
inner_of-get (object ms) = inner_in-get ms

map_tree-object : (d : Data) → is_some (as_object d) ≡ true → map_tree d ≡ Some (tree_of d)
map_tree-object null h = absurd cc
map_tree-object (boolean b) h = absurd cc
map_tree-object (number n) h = absurd cc
map_tree-object (string s) h = absurd cc
map_tree-object (array ds) h = absurd cc
map_tree-object (object ms) h = refl

map_tree-none : (d : Data) → is_some (as_object d) ≡ false → map_tree d ≡ None
map_tree-none null h = refl
map_tree-none (boolean b) h = refl
map_tree-none (number n) h = refl
map_tree-none (string s) h = refl
map_tree-none (array ds) h = refl
map_tree-none (object ms) h = absurd cc

pub inner_of-missing : (s : Data) → get (codes "map") s ≡ None → inner_of s ≡ None
inner_of-missing s e = inner_of-get s ∙ ap inner_at e

pub inner_of-other : (s d : Data) → get (codes "map") s ≡ Some d → is_some (as_object d) ≡ false → inner_of s ≡ None
inner_of-other s d e h = inner_of-get s ∙ (ap inner_at e ∙ map_tree-none d h)

pub inner_of-map : (s d : Data) → get (codes "map") s ≡ Some d → is_some (as_object d) ≡ true
    → inner_of s ≡ Some (tree_of d)
inner_of-map s d e h = inner_of-get s ∙ (ap inner_at e ∙ map_tree-object d h)

-- How deep values nest.

abbrev depth_in : Option Data → ℕ
depth_in None = 0
depth_in (Some d) = depth d

of_either : (o : Ordering) (r : Option Data) (d : Data) (n : ℕ) → depth_in r ≤ n
    → depth_in (match_ordering o r (Some d) r) ≤ max (depth d) n
of_either Less r d n h = omega arith
of_either Equal r d n h = omega arith
of_either Greater r d n h = omega arith

depth-get_member : (key : List ℕ) (ms : Members) → depth_in (get_member key ms) ≤ members_depth ms
depth-get_member key no_members = omega arith
depth-get_member key (member l d ms) =
    of_either (slice_cmp nat_cmp key l) (get_member key ms) d (members_depth ms) (depth-get_member key ms)

pub depth-get : (key : List ℕ) (d v : Data) → get key d ≡ Some v → depth v < depth d
depth-get key null v e = absurd cc
depth-get key (boolean b) v e = absurd cc
depth-get key (number n) v e = absurd cc
depth-get key (string s) v e = absurd cc
depth-get key (array ds) v e = absurd cc
depth-get key (object ms) v e = let h = depth-get_member key ms in let k = ap depth_in e in omega (arith, h, k)

depth-as_array : (d : Data) (ds : Items) → as_array d ≡ Some ds → items_depth ds < depth d
depth-as_array null ds e = absurd cc
depth-as_array (boolean b) ds e = absurd cc
depth-as_array (number n) ds e = absurd cc
depth-as_array (string s) ds e = absurd cc
depth-as_array (array es) ds e =
    let same : es ≡ ds = cc in let k : items_depth es ≡ items_depth ds = ap items_depth same in omega (arith, k)
depth-as_array (object ms) ds e = absurd cc

depth_of_list : (o : Option Data) (n : ℕ) (ds : Items) → depth_in o < n → option_and_then as_array o ≡ Some ds
    → items_depth ds + 1 < n
depth_of_list None n ds h e = absurd cc
depth_of_list (Some d) n ds h e = let k = depth-as_array d ds e in omega (arith, k, h)

depth_in-get : (key : List ℕ) (d : Data) (o : Option Data) → get key d ≡ o → depth_in o < depth d + 1
depth_in-get key d None e = omega arith
depth_in-get key d (Some v) e = let h = depth-get key d v e in omega (arith, h)

pub depth-list_at : (key : List ℕ) (d : Data) (ds : Items) → list_at key d ≡ Some ds → items_depth ds + 1 < depth d + 1
depth-list_at key d ds e =
    depth_of_list (get key d) (depth d + 1) ds (depth_in-get key d (get key d) refl) e

-- Lists of sections.

pub tree_of-sections : (d : Data) (ds : Items) → list_at (codes "sections") d ≡ Some ds → tree_of d ≡ tree d (sections_from ds)
tree_of-sections d ds e = tree_of-list d ∙ ap (λ o. tree d (sections_listed o)) e

pub tree_of-bare : (d : Data) → list_at (codes "sections") d ≡ None → tree_of d ≡ tree d no_sections
tree_of-bare d e = tree_of-list d ∙ ap (λ o. tree d (sections_listed o)) e

pub section_next : (vs : List Value) (i : ℕ) (v : Value) → i < length vs → v ≡ get_or vs i v
    → sections_from (items_view (drop i vs))
    ≡ with_section (view v) (inner_of (view v)) (sections_from (items_view (drop (i + 1) vs)))
section_next vs i v h e =
    ap (λ us. sections_from (items_view us)) (drop_more vs i v h)
    ∙ ap (λ u. with_section (view u) (inner_of (view u)) (sections_from (items_view (drop (i + 1) vs)))) (sym e)

pub depth_item : (vs : List Value) (i : ℕ) (v : Value) → i < length vs → v ≡ get_or vs i v
    → depth (view v) ≤ items_depth (items_view vs)
depth_item [] i v h e = absurd (omega arith)
depth_item (u ∷ vs) zero v h e = let k = ap (λ w. depth (view w)) e in omega (arith, k)
depth_item (u ∷ vs) (suc i) v h e = let k = depth_item vs i v (omega arith) e in omega (arith, k)
