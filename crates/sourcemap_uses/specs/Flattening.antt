-- What flattening keeps of an index map.
use Rattle.std.specs.Prelude.{◌≡◌, ℕ, Bool, Some, IfSome, Ok}
use Rattle.std.specs.Bool.{Decides}
use Rattle.sourcemap.specs.Flat.{flat}
use Rattle.sourcemap.specs.Trees.{MapTree, meaning as meaning_of}
use Rattle.sourcemap.specs.Types.{MapValue, meaning}

-- true exactly if the index map has no meaning at the position, or the flattened map has the same meaning there
abbrev pub DecidesWhetherKept : Bool → MapTree → ℕ × ℕ → Type 0
DecidesWhetherKept is_kept t p =
    (m : MapValue) × (flat t ≡ Ok m) × Decides is_kept (IfSome (meaning_of t p) (λ says. meaning m p ≡ Some says))
