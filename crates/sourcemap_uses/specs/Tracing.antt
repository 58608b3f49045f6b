-- The answers of a flattened index map to a list of positions.
use Rattle.std.specs.Prelude.{◌≡◌, ◌≢◌, ℕ, List, codes, Ok}
use Rattle.sourcemap.specs.Flat.{flat}
use Rattle.sourcemap.specs.FlatList.{IsOrderly}
use Rattle.sourcemap.specs.Trees.{MapTree, leaf, meaning, regular}
use Rattle.sourcemap.specs.Types.{MapValue}
use Rattle.sourcemap_trace.specs.Trace.{answer_to, trace_of}

-- `text` has the answers of the flattened map, one for each line of `positions`. If no section of `t` reaches into the
-- next one at any level, the flattened map gives each line the answer of `t`, unless that answer is `none`
pub record IsFlatTrace (t : MapTree) (positions text : List ℕ) : Type 0 where
  pub map : MapValue
  pub flat_is : flat t ≡ Ok map
  pub text_is : text ≡ trace_of (meaning (leaf (regular map))) positions
  pub alike : IsOrderly t → (line : List ℕ) → answer_to (meaning t) line ≢ codes "none"
      → answer_to (meaning (leaf (regular map))) line ≡ answer_to (meaning t) line
