-- What a position means in a compiled map, compared with the map that was compiled.
use Rattle.std.specs.Prelude.{◌≡◌, ℕ, List, Option, Some, None, option_map, option_and_then, IfSome, Ok}
use Rattle.sourcemap_compiled.specs.Lookup.{CompiledMeaning, compiled_meaning}
use Rattle.sourcemap_hermes.specs.Map.{token_scope}
use Rattle.sourcemap_index_model.specs.Flat.{flat}
use Rattle.sourcemap_index_model.specs.MapTree.{hermes, leaf, MapTree}
use Rattle.sourcemap_index_model.specs.Meaning.{meaning}
use Rattle.sourcemap_map_regular.specs.Map.{MapValue, Meaning, lookup as lookup_regular, meaning as meaning_regular}
use Rattle.sourcemap_cache.specs.Scopes.{AreScopesInOrder}

-- in a Hermes map, the functions of each source are sorted by start position; true for any other map
abbrev pub HasScopesInOrder : MapTree → Type 0
HasScopesInOrder (leaf (hermes h)) = AreScopesInOrder h
HasScopesInOrder _ = Unit {0}

-- the scope of the token that is closest to a position: the name of the function that contains the original position of
-- the token. The columns that a lookup adds for a range token do not count. Only Hermes maps have scopes
abbrev pub closest_scope : MapTree → ℕ × ℕ → Option (List ℕ)
closest_scope (leaf (hermes h)) p =
    option_and_then (λ found. token_scope h.scopes (record found { extra_columns = 0 })) (lookup_regular h.map p)
closest_scope _ p = None

-- a meaning and a scope, as a compiled map gives them
abbrev pub compiled : Option (List ℕ) → Meaning → CompiledMeaning
compiled scope says = record {
  source = Ok says.source;
  line = says.line;
  column = says.column;
  name = Ok says.name;
  scope = Ok scope;
  is_range = says.is_range;
}

abbrev pub without_scope : CompiledMeaning → CompiledMeaning
without_scope says = record says { scope = Ok None }

-- The compiled map gives each position the meaning that `m` gives it, and the scope that the map `t` gives it. The
-- scope may be wrong if functions are not sorted
pub record MeansLike (t : MapTree) (m : MapValue) (bytes : List ℕ) : Type 0 where
  pub meaning : (p : ℕ × ℕ) → option_map without_scope (compiled_meaning bytes p)
      ≡ option_map (compiled None) (meaning_regular m p)
  pub scope : HasScopesInOrder t → (p : ℕ × ℕ) → compiled_meaning bytes p
      ≡ option_map (compiled (closest_scope t p)) (meaning_regular m p)

-- the compiled map means the same as the map; of an index map, the same as its flat map
abbrev pub MeansTheSame : MapTree → List ℕ → Type 0
MeansTheSame t bytes = (m : MapValue) × (flat t ≡ Ok m) × MeansLike t m bytes

-- each position with a meaning in the map has the same meaning in the compiled map
abbrev pub AnswersLike : MapTree → List ℕ → Type 0
AnswersLike t bytes = (p : ℕ × ℕ)
    → IfSome (meaning t p) (λ says. option_map without_scope (compiled_meaning bytes p) ≡ Some (compiled None says))
