-- Lemmas on lists of values.
use Rattle.std.proofs.Common.{◌≡◌, suc, List, [], ◌∷◌, length, ap, refl}
use Rattle.serde_json.specs.declared.Value.{Value}
use Rattle.serde_json.specs.View.{items_view}
use Rattle.sourcemap_check_keys.specs.Values.{count_items}

pub count_items-length : (values : List Value) → count_items (items_view values) ≡ length values
count_items-length [] = refl
count_items-length (value ∷ values) = ap suc (count_items-length values)
