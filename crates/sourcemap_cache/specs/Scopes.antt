-- The scopes of the tokens of a Hermes map, each name with a number.
use Rattle.std.specs.Prelude.{◌≡◌, ℕ, ◌+◌, List, map, Option, Some, None, option_map, unwrap_or}
use Rattle.sourcemap_hermes.specs.Map.{HermesValue, token_scope}
use Rattle.sourcemap_hermes_scopes.specs.SourceScopes.{IsInOrderAt}
use Rattle.sourcemap_interning.specs.Interner.{id_of, with_text}
use Rattle.sourcemap_map_regular.specs.Token.{tokens_from}
use Rattle.sourcemap_map_rewrite.specs.Kept.{kept_once, present}
use Rattle.sourcemap_cache.specs.declared.scopes.TokenScopes.{TokenScopes}

-- the functions of each source are sorted by start position
abbrev pub AreScopesInOrder : HermesValue → Type 0
AreScopesInOrder h = (id : ℕ) → IsInOrderAt h.scopes id

-- for each token, the name of the function that contains its original position
abbrev pub token_scopes : HermesValue → List (Option (List ℕ))
token_scopes h = map (token_scope h.scopes) (tokens_from h.map 0)

-- these names, each once, in the order of tokens
abbrev pub scope_names : HermesValue → List (List ℕ)
scope_names h = kept_once (present (token_scopes h))

-- the number of a name among the names, counted from 1; 0 for no name
abbrev pub scope_number : List (List ℕ) → Option (List ℕ) → ℕ
scope_number names None = 0
scope_number names (Some name) = unwrap_or (option_map (λ id. id + 1) (id_of name names)) 0

-- for each token, the number of its scope
abbrev pub scope_numbers : HermesValue → List ℕ
scope_numbers h = map (scope_number (scope_names h)) (token_scopes h)

-- the names so far, and the name of one more token
abbrev pub with_scope : List (List ℕ) → Option (List ℕ) → List (List ℕ)
with_scope names None = names
with_scope names (Some name) = with_text names name

-- the numbers and the names of the scopes of all tokens
pub record AreScopesOf (h : HermesValue) (scopes : TokenScopes) : Type 0 where
  pub numbers : scopes.numbers.items ≡ scope_numbers h
  pub names : scopes.names ≡ scope_names h
