-- Tables that number ids, as contracts see them.
use Rattle.std.specs.Prelude.{◌≡◌, ℕ, ◌≤◌, List, [], length, nat_eq, slice_get, slice_index, Option, Some}
use Rattle.std.specs.List.{IsDistinct}
use Rattle.sourcemap_bundle_split.specs.Ids.{AreBelow}
use Rattle.sourcemap_bundle_split.specs.ModuleMap.{with_id}
use Rattle.sourcemap_bundle_split.specs.declared.id_numbers.IdNumbers.TheInside.{Inside}

-- how many items there are, and the ids that have a number, in the order of their numbers
pub record NumbersValue : Type 0 where
  pub count : ℕ
  pub ids : List ℕ

abbrev pub none_of : ℕ → NumbersValue
none_of count = record { count = count; ids = [] }

-- `id` gets the next number if it is the id of an item and has no number; otherwise nothing changes
abbrev pub with_number : NumbersValue → ℕ → NumbersValue
with_number n id = record { count = n.count; ids = with_id n.count n.ids id }

abbrev pub numbers_in : Inside → NumbersValue
numbers_in a = record { count = length a.numbers.items; ids = a.order.items }

-- the id at index `n` of `order` has the number `n` in `numbers`
abbrev pub Stand : (numbers order : List ℕ) → Type 0
Stand numbers order = (n id : ℕ) → slice_get order n ≡ Some id → slice_index numbers id ≡ n

-- the ids in `order` are distinct ids of items, and the number of each is its index in `order`; there are at most
-- 4294967295 items
pub record AreNumbers (a : Inside) : Type 0 where
  pub few : length a.numbers.items ≤ 4294967295
  pub stand : Stand a.numbers.items a.order.items
  pub below : AreBelow (length a.numbers.items) a.order.items
  pub distinct : IsDistinct nat_eq a.order.items
