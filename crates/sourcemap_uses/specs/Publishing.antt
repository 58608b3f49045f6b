-- Maps without names and source contents.
use Rattle.std.specs.Prelude.{◌≡◌, ℕ, ◌<◌, List, [], length, None, option_map, Ok}
use Rattle.sourcemap.specs.Flat.{flat}
use Rattle.sourcemap.specs.Reading.{BytesHaveResult, RegularDecodes}
use Rattle.sourcemap.specs.Trees.{MapTree}
use Rattle.sourcemap.specs.Types.{MapValue, Meaning, meaning, contents_of}

abbrev pub without_name : Meaning → Meaning
without_name says = record says { name = None }

-- Each generated position has the same meaning in both maps, except that the meaning in the new map has no name. A
-- position without a meaning in one map has no meaning in the other. The new map has no names, and its sources have no
-- contents.
pub record IsBare (old new : MapValue) : Type 0 where
  pub meaning : (p : ℕ × ℕ) → meaning new p ≡ option_map without_name (meaning old p)
  pub names : new.names ≡ []
  pub contents : (id : ℕ) → id < length new.sources → contents_of new id ≡ None

-- both byte lists decode to regular maps, and `IsBare` holds of these maps
abbrev pub Publishes : (old new : List ℕ) → Type 0
Publishes old new =
    (m n : MapValue) × BytesHaveResult RegularDecodes old (Ok m) × BytesHaveResult RegularDecodes new (Ok n)
    × IsBare m n

-- `t` can be flattened, and `IsBare` holds of the flat map and the new map
abbrev pub IsBareFlat : MapTree → (new : MapValue) → Type 0
IsBareFlat t new = (whole : MapValue) × (flat t ≡ Ok whole) × IsBare whole new
