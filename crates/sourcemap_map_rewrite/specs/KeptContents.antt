-- Contents moved to the new numbers of their sources.
use Rattle.std.specs.Prelude.{◌≡◌, ℕ, ◌<◌, Bool, false, ◌==◌, cond, List, length, slice_get, Option, Some, None}
use Rattle.std.specs.Prelude.{option_map, unwrap_or}
use Rattle.sourcemap_tokens.specs.Items.{item_at}
use Rattle.sourcemap_map_rewrite.specs.Numbering.{first_some}

-- the new id of the item with the old id `id` is `number`
abbrev pub has_number : List ℕ → ℕ → ℕ → Bool
has_number numbers number id = unwrap_or (option_map (λ n. n == number) (slice_get numbers id)) false

-- the contents of the item with the old id `id`, if its new id is `number`
abbrev pub contents_with_number : List ℕ → List (Option (List ℕ)) → ℕ → ℕ → Option (List ℕ)
contents_with_number numbers contents number id = cond (has_number numbers number id) (item_at contents id) None

-- `id` has a new number, which is below `count`
abbrev pub HasNewNumber : List ℕ → ℕ → ℕ → Type 0
HasNewNumber numbers count id = (number : ℕ) × (slice_get numbers id ≡ Some number) × (number < count)

-- `kept` has `count` items. The item at index `k` is the contents of an old number: the first old number in `order`
-- that has the new number `k` and that has contents. The item is `None` if `order` has no such old number
pub record AreKept (numbers order : List ℕ) (contents : List (Option (List ℕ))) (count : ℕ)
    (kept : List (Option (List ℕ))) : Type 0 where
  pub many : length kept ≡ count
  pub each : (k : ℕ) → k < count → item_at kept k ≡ first_some (contents_with_number numbers contents k) order
