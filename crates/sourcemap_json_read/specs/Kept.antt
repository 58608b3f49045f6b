-- The parts of a JSON value that a reader keeps. A level says which parts an object and an array keep: `inside level part`
-- is the level of the values at `part`, or `None` if `part` is not kept.
use Rattle.std.specs.Prelude.{◌≡◌, ℕ, List, Option, Some, IfSome, IsUtf8}
use Rattle.std.specs.Option.{option_map_or}
use Rattle.serde_json.specs.Data.{Data, null, boolean, number, string, array, object}
use Rattle.serde_json.specs.Data.{Items, no_items, item, Members, no_members, member}
use Rattle.serde_json.specs.Read.{read}

-- a part of an object or of an array: the member of a key, or all items
pub data Part : Type 0 where
  at_key : List ℕ → Part
  all_items : Part

module _ {L : Type 0} (inside : L → Part → Option L) where
  abbrev mutual
    -- a value without the members and items that are not kept, also within kept members and items
    pub kept : L → Data → Data
    kept level null = null
    kept level (boolean b) = boolean b
    kept level (number n) = number n
    kept level (string s) = string s
    kept level (array ds) = array (option_map_or (λ inner. kept_items inner ds) (inside level all_items) no_items)
    kept level (object ms) = object (kept_members level ms)

    -- the items of an array, each of this level
    pub kept_items : L → Items → Items
    kept_items level no_items = no_items
    kept_items level (item d ds) = item (kept level d) (kept_items level ds)

    pub kept_members : L → Members → Members
    kept_members level no_members = no_members
    kept_members level (member key d ms) =
        option_map_or (λ inner. member key (kept inner d) (kept_members level ms)) (inside level (at_key key))
        (kept_members level ms)

  -- what is kept of the items of an array, if they have this level. Without a level no item is kept
  abbrev pub kept_list : Option L → Items → Items
  kept_list level ds = option_map_or (λ l. kept_items l ds) level no_items

  -- Below a member or an item that is not kept there is no level. Nothing is kept there, so what is read there may be
  -- anything.

  -- `v` is what is kept of `d`
  abbrev pub IsKept : Option L → Data → Data → Type 0
  IsKept level d v = IfSome level (λ l. v ≡ kept l d)

  -- `vs` are what is kept of the members `ms`
  abbrev pub AreKeptMembers : Option L → Members → Members → Type 0
  AreKeptMembers level ms vs = IfSome level (λ l. vs ≡ kept_members l ms)

  -- the bytes are a JSON text, and `v` is what is kept of its value
  abbrev pub HoldsKept : L → List ℕ → Data → Type 0
  HoldsKept level bytes v = IsUtf8 bytes × ((d : Data) × (read bytes ≡ Some d) × (v ≡ kept level d))
