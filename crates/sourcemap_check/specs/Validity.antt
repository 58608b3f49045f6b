-- What is found in bytes, which maps they have, and when they are a valid map by ECMA-426.
use Rattle.std.specs.Prelude.{◌≡◌, ◌⊎◌, ℕ, List, [], ◌∷◌, map, Some, None, is_some, if◌then◌else◌, IsUtf8, IsTrue}
use Rattle.std.specs.Prelude.{slice_get}
use Rattle.serde_json.specs.Data.{Data}
use Rattle.serde_json.specs.Find.{as_object}
use Rattle.serde_json.specs.Read.{read as read_text}
use Rattle.sourcemap_check_report.specs.declared.report.Finding.{Finding}
use Rattle.sourcemap_check_report.specs.declared.rules.Rule.TheVariants.{NotJson, NotObject}
use Rattle.sourcemap_check.specs.declared.tree.MapPlace.{MapPlace}
use Rattle.sourcemap_check.specs.Trees.{tree_of}
use Rattle.sourcemap_check.specs.Maps.{MapIn, maps_of}
use Rattle.sourcemap_check.specs.Findings.{at, tree_findings}
use Rattle.sourcemap_check.specs.Rules.{BreaksNoRule}

-- the findings of a JSON value
abbrev pub value_findings : Data → List Finding
value_findings d = if is_some (as_object d) then tree_findings 0 (tree_of d) else at 0 0 NotObject ∷ []

-- the places of the maps in a JSON value
abbrev pub value_places : Data → List MapPlace
value_places d = map (λ found. found.place) (maps_of d)

-- the bytes are a JSON text with these findings, or none, which is the one finding
abbrev pub AreFindings : List ℕ → List Finding → Type 0
AreFindings bytes findings =
    ((d : Data) × IsUtf8 bytes × (read_text bytes ≡ Some d) × (findings ≡ value_findings d))
    ⊎ ((IsUtf8 bytes → read_text bytes ≡ None) × (findings ≡ at 0 0 NotJson ∷ []))

-- the bytes are a JSON text with maps at these places, or none
abbrev pub ArePlaces : List ℕ → List MapPlace → Type 0
ArePlaces bytes places =
    ((d : Data) × IsUtf8 bytes × (read_text bytes ≡ Some d) × (places ≡ value_places d))
    ⊎ ((IsUtf8 bytes → read_text bytes ≡ None) × (places ≡ []))

-- the bytes are a JSON text whose value is an object, and no map in it breaks a rule
abbrev pub IsValid : List ℕ → Type 0
IsValid bytes = (d : Data) × IsUtf8 bytes × (read_text bytes ≡ Some d) × IsTrue (is_some (as_object d))
    × ((n : ℕ) (found : MapIn) → slice_get (maps_of d) n ≡ Some found → BreaksNoRule found.map)
