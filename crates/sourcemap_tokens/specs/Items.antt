-- Lists of optional items. The id of an item is its index.
use Rattle.std.specs.Prelude.{ℕ, List, slice_get, Option, option_and_then}

-- the item with this id; `None` if the id is past the end of the list, or if the item is missing
abbrev pub item_at : {X : Type 0} → List (Option X) → ℕ → Option X
item_at items id = option_and_then (λ item. item) (slice_get items id)
