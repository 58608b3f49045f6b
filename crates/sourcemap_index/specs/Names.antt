-- The original names of functions in maps of any kind.
use Rattle.std.specs.Prelude.{◌≡◌, ℕ, ◌==◌, if◌then◌else◌, List, Option, None, Some, IfSome, option_and_then}
use Rattle.sourcemap_hermes.specs.Map.{HermesValue, function_name as function_in_bytecode}
use Rattle.sourcemap_map_regular.specs.Map.{lookup as lookup_regular}
use Rattle.sourcemap_map_regular.specs.Walk.{guessed_from}
use Rattle.sourcemap_hermes_scopes.specs.SourceScopes.{IsInOrderAt}
use Rattle.sourcemap_index_model.specs.MapTree.{MapTree, leaf, hermes}
use Rattle.sourcemap_index_model.specs.Meaning.{lookup}
use Rattle.sourcemap_index_model.specs.WellFormed.{IsInOrder}

-- the original name of the function with the name `minified` in the generated text `source`. `lookup` finds a token for
-- the generated position p. `guessed_from` guesses the name from this token and from the tokens before it in the same
-- regular map. In an index map, `lookup` searches only the section with the closest offset, so tokens of other sections
-- are never used. `None` if `lookup` finds no token, or if `guessed_from` finds no name
abbrev pub guessed_in : MapTree → (source minified : List ℕ) → ℕ × ℕ → Option (List ℕ)
guessed_in t source minified p = option_and_then (guessed_from source minified) (lookup t p)

-- if `p` is on line 0 and `lookup_regular` finds a token for `p`, the functions of the token's source are sorted by
-- start position. True if this source has no function map
abbrev pub IsInOrderInBytecode : HermesValue → ℕ × ℕ → Type 0
IsInOrderInBytecode h p = p.0 ≡ 0
    → IfSome (lookup_regular h.map (0, p.1)) (λ t. IsInOrderAt h.scopes t.raw.src_id)

-- the name of the function at a position in a Hermes map; on line 0 the column is the bytecode offset, and other lines
-- have no names
abbrev pub name_in_bytecode : HermesValue → ℕ × ℕ → Option (List ℕ)
name_in_bytecode h p = if p.0 == 0 then function_in_bytecode h p.1 else None

-- the name of the function at a position in a map of any kind. For a map that is not a Hermes map, the name is guessed
-- from `source` and `minified`; this name is `None` if `source` or `minified` is `None`
abbrev pub function_name : MapTree → (source minified : Option (List ℕ)) → ℕ × ℕ → Option (List ℕ)
function_name (leaf (hermes h)) source minified p = name_in_bytecode h p
function_name t (Some source) (Some minified) p = guessed_in t source minified p
function_name t _ _ p = None

-- the map is sorted as the contract of `DecodedMap::get_original_function_name` requires. For a Hermes map,
-- `IsInOrderInBytecode` holds. For any other map, the sections are sorted by offset at every level, or `source` or
-- `minified` is `None`
abbrev pub IsInOrderForName : MapTree → (source minified : Option (List ℕ)) → ℕ × ℕ → Type 0
IsInOrderForName (leaf (hermes h)) _ _ p = IsInOrderInBytecode h p
IsInOrderForName t (Some _) (Some _) p = IsInOrder t
IsInOrderForName t _ _ p = Unit {0}
