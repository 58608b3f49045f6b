-- Lists of JSON tokens that begin with a value, with the items of an array or with the members of an object.
use Rattle.std.specs.Prelude.{◌≡◌, ℕ, List, Some}
use Rattle.json.specs.Token.{Token}
use Rattle.json.specs.Json as json
use Rattle.serde_json.specs.Data.{Data, Items, Members}
use Rattle.serde_json.specs.Read.{of_json, of_items, of_members}

-- `old` begins with a value of at most `depth` levels, and goes on with `new`
abbrev pub BeginsWithValue : ℕ → List Token → Data → List Token → Type 0
BeginsWithValue depth old d new =
    (j : json.Json) × (json.value depth old ≡ Some (j, new)) × (of_json j ≡ Some d)

-- `old` begins with the items of an array and the closing bracket, and goes on with `new`. There are fewer than `most`
-- items, each of at most `depth` levels
abbrev pub BeginsWithItems : ℕ → ℕ → List Token → Items → List Token → Type 0
BeginsWithItems depth most old ds new =
    (js : json.Items) × (json.items (json.value depth) most old ≡ Some (js, new)) × (of_items js ≡ Some ds)

-- `old` begins with the members of an object and the closing bracket, and goes on with `new`. There are fewer than
-- `most` members, and each value has at most `depth` levels. If the members are inserted into `before` one after
-- another, the result is `after`
abbrev pub BeginsWithMembers : ℕ → ℕ → List Token → Members → Members → List Token → Type 0
BeginsWithMembers depth most old before after new =
    (ms : json.Members) × (json.members (json.value depth) most old ≡ Some (ms, new))
    × (of_members ms before ≡ Some after)
