-- Plain values: their numbers are integers that fit 64 bits, and their objects have each key once, in ascending order.
-- The compact text of a plain value is UTF-8. Reading this text gives the same value, if arrays and objects nest at
-- most 127 levels deep.
use Rattle.std.specs.Prelude.{◌≡◌, Bool, Some, IsUtf8}
use Rattle.json.specs.Print.{IsNumber}
use Rattle.json.specs.Tree.{HasNumbers, ItemsHaveNumbers, MembersHaveNumbers}
use Rattle.serde_json.specs.Data.{Num, Data, Items, Members, no_members}
use Rattle.serde_json.specs.Read.{number_of, of_json, of_items, of_members}
use Rattle.serde_json.specs.Written.{number_text, outline, items_outline, members_outline, compact_text, items_text}
use Rattle.serde_json.specs.Written.{members_text}

-- the text of a number is a JSON number, and reads back as this number
abbrev pub IsPlainNumber : Num → Type 0
IsPlainNumber n = IsNumber (number_text n) × (number_of (number_text n) ≡ Some n) × IsUtf8 (number_text n)

abbrev pub IsPlainValue : Data → Type 0
IsPlainValue d = HasNumbers (outline d) × (of_json (outline d) ≡ Some d) × IsUtf8 (compact_text d)

abbrev pub ArePlainItems : Items → Type 0
ArePlainItems ds = ItemsHaveNumbers (items_outline ds) × (of_items (items_outline ds) ≡ Some ds) × ((later : Bool)
    → IsUtf8 (items_text later ds))

abbrev pub ArePlainMembers : Members → Type 0
ArePlainMembers ms =
    MembersHaveNumbers (members_outline ms) × (of_members (members_outline ms) no_members ≡ Some ms)
    × ((later : Bool) → IsUtf8 (members_text later ms))
