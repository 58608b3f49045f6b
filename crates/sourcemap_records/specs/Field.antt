-- How one key of a record is read from JSON and written as JSON. Reading gives `None` for a JSON value that is not
-- valid for the key.
use Rattle.std.specs.Prelude.{◌≡◌, ℕ, ◌^◌, option_and_then, List, [], ◌∷◌, map, Option, Some, None, option_map, nat_lt, if◌then◌else◌, false, Result, Ok, Err}
use Rattle.std.specs.Str.{bytes_eq}
use Rattle.serde_json.specs.Data.{Data, null, number, array, unsigned, Items, no_items, item, Members, put}
use Rattle.serde_json.specs.Find.{as_number, as_str, as_array, as_u64, get_member}
use Rattle.serde_json.specs.View.{items_of}
use Rattle.sourcemap_errors.specs.declared.errors.Error.{Error}
use Rattle.sourcemap_errors.specs.declared.errors.Error.TheVariants.{BadJson}
use Rattle.sourcemap_errors.specs.declared.errors.JsonFault.TheVariants.{Shape}
use Rattle.sourcemap_errors.specs.Answer.{UnlessMemory, Gives}

-- `Ok` with the value that was read, or `BadJson(Shape)` for `None`
abbrev pub due : {X : Type 0} → Option X → Result X Error
due (Some x) = Ok x
due None = Err (BadJson Shape)

abbrev pub with : {X Y : Type 0} → Option X → (X → Option Y) → Option Y
with x next = option_and_then next x

-- all members except the one at `key` are as before
abbrev pub KeepsOthers : List ℕ → Members → Members → Type 0
KeepsOthers key before after =
    (other : List ℕ) → bytes_eq other key ≡ false → get_member other after ≡ get_member other before

-- if the result is `Ok x`, then `reading` is `Some (see x)`. If the result is an error, the error is `OutOfMemory`, or
-- the error is `BadJson(Shape)` and `reading` is `None`
abbrev pub GivesReading : {X Y : Type 0} → (X → Y) → Result X Error → Option Y → Type 0
GivesReading see (Ok x) reading = reading ≡ Some (see x)
GivesReading see (Err e) reading = UnlessMemory e ((e ≡ BadJson Shape) × (reading ≡ None))

-- the result, mapped by `see`, is `seen`, unless memory ran out
abbrev pub Makes : {X Y : Type 0} → (X → Y) → Result X Error → Y → Type 0
Makes see result seen = Gives see result (Ok seen)

-- a bound that every value meets
abbrev pub IsUnbounded : {X : Type 0} → X → Type 0
IsUnbounded _ = Unit {0}

-- ---- reading

abbrev pub any : Data → Option Data
any d = Some d

abbrev pub text : Data → Option (List ℕ)
text d = as_str d

abbrev pub small : ℕ → Option ℕ
small n = if nat_lt n (2 ^ 32) then Some n else None

-- an unsigned integer below 2^32. Any other JSON value gives `None`, for example `-1` or the floats `1.0` and `-0`
abbrev pub small_number : Data → Option ℕ
small_number d = with (as_number d) (λ n. with (as_u64 n) small)

-- reads a JSON value that may be null. `x` is the result of reading a value other than null. Null gives `Some None`,
-- whatever `x` is. Any other value gives `Some (Some v)` if `x` is `Some v`, and `None` if `x` is `None`
abbrev pub or_null_of : {X : Type 0} → Data → Option X → Option (Option X)
or_null_of null _ = Some None
or_null_of _ x = option_map Some x

abbrev pub or_null : {X : Type 0} → (Data → Option X) → Data → Option (Option X)
or_null read d = or_null_of d (read d)

abbrev pub items_read : {X : Type 0} → (Data → Option X) → Items → Option (List X)
items_read read no_items = Some []
items_read read (item d ds) = with (read d) (λ x. with (items_read read ds) (λ xs. Some (x ∷ xs)))

abbrev pub list : {X : Type 0} → (Data → Option X) → Data → Option (List X)
list read d = with (as_array d) (items_read read)

-- the value of a key that may be missing or null
abbrev pub found : {X : Type 0} → (Data → Option X) → Option Data → Option (Option X)
found read None = Some None
found read (Some d) = or_null read d

abbrev pub at : {X : Type 0} → List ℕ → (Data → Option X) → Members → Option (Option X)
at key read ms = found read (get_member key ms)

-- the value of a required key
abbrev pub required : {X : Type 0} → List ℕ → (Data → Option X) → Members → Option X
required key read ms = with (get_member key ms) read

-- ---- writing

abbrev pub written_number : ℕ → Data
written_number n = number (unsigned n)

abbrev pub written_or_null : {X : Type 0} → (X → Data) → Option X → Data
written_or_null write (Some x) = write x
written_or_null write None = null

abbrev pub written_list : {X : Type 0} → (X → Data) → List X → Data
written_list write xs = array (items_of (map write xs))

-- `ms` with this value at `key`; without a value, `ms` unchanged
abbrev pub put_if : List ℕ → Option Data → Members → Members
put_if key (Some d) ms = put key d ms
put_if key None ms = ms

-- `ms` with each of these entries put into it, the first one first; an entry without a value changes nothing
abbrev pub put_all : List (List ℕ × Option Data) → Members → Members
put_all [] ms = ms
put_all (e ∷ es) ms = put_all es (put_if e.0 e.1 ms)
