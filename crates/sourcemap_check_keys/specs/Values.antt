-- What the rules look at in a JSON value.
use Rattle.std.specs.Prelude.{ℕ, suc, ◌&&◌, ◌||◌, Bool, true, false, not, is_some, List, Option, Some, None, ℤ, pos}
use Rattle.std.specs.Prelude.{option_and_then, Float, unsigned_abs, nat_le, int_lt, int_le, if◌then◌else◌}
use Rattle.std.specs.Option.{option_map_or}
use Rattle.std.specs.Ordering.{int_eq}
use Rattle.std.specs.Float.{binary64, float_to_signed}
use Rattle.std.specs.Float.Ieee.{of_int, eq}
use Rattle.std.specs.Int.{w64}
use Rattle.serde_json.specs.Data.{Num, unsigned, negative, float, Data, Items, no_items, item}
use Rattle.serde_json.specs.Find.{get, as_null, as_number, as_str, as_array, as_object}
use Rattle.sourcemap_check_keys.specs.declared.values.Test.{Test}
use Rattle.sourcemap_check_keys.specs.declared.values.Test.TheVariants.{Text, TextOrNull, Number, Whole, Three}
use Rattle.sourcemap_check_keys.specs.declared.values.Test.TheVariants.{BelowZero}
use Rattle.sourcemap_check_keys.specs.declared.values.Test.TheVariants.{AtLeast, Position, Object, Array}

-- the whole number that a float is, up to 2^53: `3.0` is 3, `0.5` is none
abbrev pub whole_float : Float → Option ℤ
whole_float x =
    let n = float_to_signed w64 x in
    if nat_le (unsigned_abs n) 9007199254740992 && eq (of_int binary64 n) x then Some n else None

-- the whole number that a number is. A number with a fraction or an exponent is a float
abbrev pub whole_number : Num → Option ℤ
whole_number (unsigned n) = Some (pos n)
whole_number (negative z) = Some z
whole_number (float x) = whole_float x

abbrev pub whole_of : Data → Option ℤ
whole_of d = option_and_then whole_number (as_number d)

-- the line or column that a whole number is: one from 0 to 18446744073709551615
abbrev pub position_at : ℤ → Option ℕ
position_at z = if int_le (pos 0) z && int_lt z (pos 18446744073709551616) then Some (unsigned_abs z) else None

abbrev pub position_of : Data → Option ℕ
position_of d = option_and_then position_at (whole_of d)

-- a value passes a test
abbrev pub passes : Test → Data → Bool
passes Text d = is_some (as_str d)
passes TextOrNull d = is_some (as_str d) || is_some (as_null d)
passes Number d = is_some (as_number d)
passes Whole d = is_some (whole_of d)
passes Three d = option_map_or (λ z. int_eq z (pos 3)) (whole_of d) false
passes BelowZero d = option_map_or (λ z. int_lt z (pos 0)) (whole_of d) false
passes (AtLeast n) d = option_map_or (λ z. int_le (pos n) z) (whole_of d) false
passes Position d = is_some (position_of d)
passes Object d = is_some (as_object d)
passes Array d = is_some (as_array d)

abbrev pub all_items : Test → Items → Bool
all_items wanted no_items = true
all_items wanted (item d ds) = passes wanted d && all_items wanted ds

abbrev pub some_item : Test → Items → Bool
some_item wanted no_items = false
some_item wanted (item d ds) = passes wanted d || some_item wanted ds

abbrev pub count_items : Items → ℕ
count_items no_items = 0
count_items (item d ds) = suc (count_items ds)

abbrev pub has : List ℕ → Data → Bool
has key d = is_some (get key d)

-- an object has the key, and its value fails the test
abbrev pub fails : Test → List ℕ → Data → Bool
fails test key d = option_map_or (λ v. not (passes test v)) (get key d) false

-- an object has the key, and its value is no list whose items all pass the test
abbrev pub list_fails : Test → List ℕ → Data → Bool
list_fails test key d = option_map_or (λ v. not (option_map_or (all_items test) (as_array v) false)) (get key d) false

-- the list at a key. Anything else is none
abbrev pub list_at : List ℕ → Data → Option Items
list_at key d = option_and_then as_array (get key d)

-- the list at a key has an item that passes the test
abbrev pub list_has : Test → List ℕ → Data → Bool
list_has test key d = option_map_or (some_item test) (list_at key d) false

-- how many items the list at a key has; 0 if it is no list
abbrev pub count_at : List ℕ → Data → ℕ
count_at key d = option_map_or count_items (list_at key d) 0
