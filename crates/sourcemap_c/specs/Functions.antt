-- Traces, and names of functions.
use Rattle.std.specs.Prelude.{◌≡◌, ℕ, List, Option, Some, None, IfSome}
use Rattle.std.specs.Str.{IsUtf8}
use Rattle.sourcemap_hermes.specs.Map.{function_name as name_at_offset}
use Rattle.sourcemap_index.specs.Names.{IsInOrderForName, function_name}
use Rattle.sourcemap_map_regular.specs.Map.{lookup}
use Rattle.sourcemap_hermes_scopes.specs.SourceScopes.{IsInOrderAt}
use Rattle.sourcemap_trace.specs.Trace.{trace_of}
use Rattle.sourcemap_index_model.specs.MapTree.{MapTree, hermes, leaf}
use Rattle.sourcemap_index_model.specs.Meaning.{meaning}
use Rattle.sourcemap_index_model.specs.WellFormed.{IsInOrder}
use Rattle.sourcemap_c.specs.Codes.{IsAbsentUnlessOk, ReturnsValue}

-- `held` has a text. If the sections of the map are sorted at every level (`IsInOrder`), this text is the trace of
-- `positions` (`trace_of`). Without a map, `IsTrace` is false.
abbrev pub IsTrace : (positions : List ℕ) → Option MapTree → Option (List ℕ) → Type 0
IsTrace positions None held = ⊥
IsTrace positions (Some t) held =
    (text : List ℕ) × (held ≡ Some text) × (IsInOrder t → text ≡ trace_of (meaning t) positions)

-- the call returned the code `due`, and wrote nothing
abbrev pub Refuses : (due code : ℕ) → (old new : List ℕ) → Type 0
Refuses due code old new = (code ≡ due) × (new ≡ old)

-- The name of a function, guessed from the generated text `source` and the minified name. If the minified name is not
-- UTF-8, the call returns `SM_UTF8`. For a UTF-8 name, the call writes `function_name` and returns `SM_OK`, or returns
-- `SM_ABSENT` if `function_name` is `None`. But if `IsInOrderForName` does not hold, the call may return `SM_OK` with
-- any name, or `SM_ABSENT`. The call writes only if it returns `SM_OK`.
abbrev pub Guesses : MapTree → (source minified : List ℕ) → ℕ × ℕ → ℕ → (old new : List ℕ) → Type 0
Guesses t source minified p code old new = (¬ IsUtf8 minified → Refuses 2 code old new)
    × (IsUtf8 minified → IsAbsentUnlessOk code old new)
    × (IsUtf8 minified → IsInOrderForName t (Some source) (Some minified) p → ReturnsValue (Some (function_name t (Some source) (Some minified) p)) code old new)

-- The name of a function. A Hermes map stores the name. For a Hermes map, the call writes `function_name` and returns
-- `SM_OK`, or returns `SM_ABSENT` if `function_name` is `None`. But if `IsInOrderForName` does not hold, the call may
-- return `SM_OK` with any name, or `SM_ABSENT`. For other maps, the call guesses the name from the generated text
-- `source` (`Guesses`), or returns `SM_WRONG_KIND` if `source` is `None`. The call writes only if it returns `SM_OK`.
abbrev pub Names : MapTree → (source : Option (List ℕ)) → (minified : List ℕ) → ℕ × ℕ → ℕ → (old new : List ℕ) → Type 0
Names (leaf (hermes h)) source minified p code old new = IsAbsentUnlessOk code old new
    × (IsInOrderForName (leaf (hermes h)) None None p → ReturnsValue (Some (function_name (leaf (hermes h)) None None p)) code old new)
Names t None minified p code old new = Refuses 33 code old new
Names t (Some source) minified p code old new = Guesses t source minified p code old new

abbrev pub NamesIn : Option MapTree → (source : Option (List ℕ)) → (minified : List ℕ) → ℕ × ℕ → ℕ
    → (old new : List ℕ) → Type 0
NamesIn None source minified p code old new = Refuses 33 code old new
NamesIn (Some t) source minified p code old new = Names t source minified p code old new

-- The name of the function at a bytecode offset of a Hermes map. The offset is a column of generated line 0. The call
-- writes `name_at_offset` and returns `SM_OK`, or returns `SM_ABSENT` if `name_at_offset` is `None`. But if a lookup of
-- the offset finds a token, and the functions of this token's source are unsorted, the call may return `SM_OK` with any
-- name, or `SM_ABSENT`. Without a Hermes map the call returns `SM_WRONG_KIND`. The call writes only if it returns
-- `SM_OK`.
abbrev pub NamesAt : Option MapTree → (offset : ℕ) → ℕ → (old new : List ℕ) → Type 0
NamesAt (Some (leaf (hermes h))) offset code old new = IsAbsentUnlessOk code old new
    × (IfSome (lookup h.map (0, offset)) (λ t. IsInOrderAt h.scopes t.raw.src_id) → ReturnsValue (Some (name_at_offset h offset)) code old new)
NamesAt _ offset code old new = Refuses 33 code old new
