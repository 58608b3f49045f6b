-- A debug id and its text.
use Rattle.std.specs.Prelude.{◌≡◌, ℕ, ◌<◌, List, Option, None, ◌==◌, ◌||◌, if◌then◌else◌, length}
use Rattle.std.specs.List.{AllByRecursion}
use Rattle.uuid.specs.Text.{parsed, hyphenated_text, lower}

-- sixteen bytes
abbrev pub IsId : List ℕ → Type 0
IsId id = (length id ≡ 16) × AllByRecursion (λ byte. byte < 256) id

-- the bytes of the UUID that a text of 32 or 36 bytes spells; `None` for any other text
abbrev pub debug_id_of : List ℕ → Option (List ℕ)
debug_id_of text = if (length text == 32) || (length text == 36) then parsed text else None

abbrev pub debug_id_text : List ℕ → List ℕ
debug_id_text id = hyphenated_text lower id
