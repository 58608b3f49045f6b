-- Ids below a count of items.
use Rattle.std.specs.Prelude.{◌≡◌, ℕ, ◌<◌, List, nat_eq, true}
use Rattle.std.specs.List.{list_any}

-- each of the ids is below `count`
abbrev pub AreBelow : ℕ → List ℕ → Type 0
AreBelow count ids = (id : ℕ) → list_any (nat_eq id) ids ≡ true → id < count
