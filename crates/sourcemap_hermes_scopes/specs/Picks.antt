-- Items taken out of a list by their ids.
use Rattle.std.specs.Prelude.{ℕ, List, [], ◌∷◌, map, slice_set, Option, None}
use Rattle.sourcemap_tokens.specs.Items.{item_at}

-- the items with these ids, in this order
abbrev pub items_at : {X : Type 0} → List (Option X) → List ℕ → List (Option X)
items_at items ids = map (item_at items) ids

-- the items with these ids, in this order, each moved out of the list: each repetition of an id gives `None`
abbrev pub moved_items : {X : Type 0} → List (Option X) → List ℕ → List (Option X)
moved_items items [] = []
moved_items items (id ∷ ids) = item_at items id ∷ moved_items (slice_set items id None) ids
