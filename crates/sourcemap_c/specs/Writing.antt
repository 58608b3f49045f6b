-- Encoding of maps.
use Rattle.std.specs.Prelude.{◌≡◌, ℕ, List, Option, Some, None}
use Rattle.sourcemap_headers.specs.DataUrl.{data_url_of}
use Rattle.sourcemap_map_regular.specs.Write.{IsEncoded}
use Rattle.sourcemap_index_model.specs.Encode.{RecordAnswer}
use Rattle.sourcemap_index_model.specs.MapTree.{MapTree}
use Rattle.sourcemap_c_handles.specs.declared.errors.Failure.{Failure}
use Rattle.sourcemap_c_handles.specs.declared.held.Held.{Held}
use Rattle.sourcemap_c.specs.Codes.{NoError, OfLibraryOrKind}
use Rattle.sourcemap_c.specs.Kinds.{bytes_in}

-- the handle has the JSON text of the map; false if there is no map
abbrev pub HoldsText : Option MapTree → Option (List ℕ) → Type 0
HoldsText (Some t) (Some text) = IsEncoded (RecordAnswer t) text
HoldsText _ _ = ⊥

-- the handle has the data URL of the JSON text of the map; false if there is no map
abbrev pub HoldsUrl : Option MapTree → Option (List ℕ) → Type 0
HoldsUrl (Some t) held = (text : List ℕ) × IsEncoded (RecordAnswer t) text × (held ≡ Some (data_url_of text))
HoldsUrl None held = ⊥

-- The contract of a call that fills a handle with a text of the map `tree`: `Holds` of the map and the text. The
-- failure is `WrongKind` if there is no map. `Says` is `Does` or `Answers`.
abbrev pub FillsFrom : (Says : Type 0 → (Failure → Type 0) → Type 0 → Type 0)
    → (Holds : Option MapTree → Option (List ℕ) → Type 0) → (tree : Option MapTree) → (old new : Option Held) → Type 0
FillsFrom Says Holds tree old new = Says (Holds tree (bytes_in new)) (OfLibraryOrKind NoError (tree ≡ None)) (new ≡ old)
