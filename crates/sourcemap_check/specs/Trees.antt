-- A map with the maps in its sections, at any depth.
use Rattle.std.specs.Prelude.{codes, Option, Some, None}
use Rattle.std.specs.Cmp.Lexicographic.{slice_cmp}
use Rattle.std.specs.Ordering.{nat_cmp, match_ordering}
use Rattle.serde_json.specs.Data.{Data, null, boolean, number, string, array, object, Items, no_items, item}
use Rattle.serde_json.specs.Data.{Members, no_members, member}

-- `map` is the JSON value of a map. Each section has its JSON value, and the map in it where that is an object
mutual
  pub data Tree : Type 0 where
    tree : Data → Sections → Tree

  pub data Sections : Type 0 where
    no_sections : Sections
    bare : Data → Sections → Sections
    mapped : Data → Tree → Sections → Sections

abbrev pub with_section : Data → Option Tree → Sections → Sections
with_section value None later = bare value later
with_section value (Some inner) later = mapped value inner later

abbrev mutual
  -- the tree of a map
  pub tree_of : Data → Tree
  tree_of null = tree null no_sections
  tree_of (boolean b) = tree (boolean b) no_sections
  tree_of (number n) = tree (number n) no_sections
  tree_of (string s) = tree (string s) no_sections
  tree_of (array ds) = tree (array ds) no_sections
  tree_of (object ms) = tree (object ms) (sections_in ms)

  -- the sections of a map with these members
  pub sections_in : Members → Sections
  sections_in no_members = no_sections
  sections_in (member k d ms) =
      match_ordering (slice_cmp nat_cmp (codes "sections") k) (sections_in ms) (sections_of d) (sections_in ms)

  -- the sections in the value of `sections`
  pub sections_of : Data → Sections
  sections_of null = no_sections
  sections_of (boolean b) = no_sections
  sections_of (number n) = no_sections
  sections_of (string s) = no_sections
  sections_of (array ds) = sections_from ds
  sections_of (object ms) = no_sections

  pub sections_from : Items → Sections
  sections_from no_items = no_sections
  sections_from (item d ds) = with_section d (inner_of d) (sections_from ds)

  -- the map in a section
  pub inner_of : Data → Option Tree
  inner_of null = None
  inner_of (boolean b) = None
  inner_of (number n) = None
  inner_of (string s) = None
  inner_of (array ds) = None
  inner_of (object ms) = inner_in ms

  pub inner_in : Members → Option Tree
  inner_in no_members = None
  inner_in (member k d ms) =
      match_ordering (slice_cmp nat_cmp (codes "map") k) (inner_in ms) (map_tree d) (inner_in ms)

  -- the tree of an object
  pub map_tree : Data → Option Tree
  map_tree null = None
  map_tree (boolean b) = None
  map_tree (number n) = None
  map_tree (string s) = None
  map_tree (array ds) = None
  map_tree (object ms) = Some (tree (object ms) (sections_in ms))
