-- A Hermes map as contracts see it: a regular map, and the scopes of its sources.
use Rattle.std.specs.Prelude.{ℕ, List, Option, option_and_then}
use Rattle.std.specs.Borrow.{Lends, MutBor, Fml}
use Rattle.sourcemap_map_regular.specs.Map.{MapValue, TokenValue, says, lookup, IsWellFormed as IsWellFormedRegular}
use Rattle.sourcemap_map_regular.specs.contracts.map.SourceMap.{the_row as map_row}
use Rattle.sourcemap_hermes_scopes.specs.SourceScopes.{SourceScopesValue, AreOfEntries, scope_at}
pub use Rattle.sourcemap_hermes_scopes.specs.SourceScopes.{AreFewScopes}
use Rattle.sourcemap_hermes.specs.contracts.map.SourceMapHermes.{the_row as hermes_row}
use Rattle.sourcemap_hermes.specs.declared.map.SourceMapHermes.{SourceMapHermes}

-- the value of a Hermes map
pub record HermesValue : Type 0 where
  pub map : MapValue
  pub scopes : SourceScopesValue

abbrev pub hermes_value : SourceMapHermes → HermesValue
hermes_value h = record { map = h.sm; scopes = h.scopes }

-- the regular map is well-formed, there are at most 4294967295 entries of scopes, and each source with an entry has the
-- function map that the entry encodes. A source has no function map if it has no entry, or if its entry encodes no
-- function map
pub record IsWellFormed (h : HermesValue) : Type 0 where
  pub map : IsWellFormedRegular h.map
  pub few : AreFewScopes h.scopes.entries
  pub of_entries : AreOfEntries h.scopes

-- the name of the function that contains a token's original position
abbrev pub token_scope : SourceScopesValue → TokenValue → Option (List ℕ)
token_scope scopes t = scope_at scopes t.raw.src_id ((says t).line, (says t).column)

-- the name of the function at a bytecode offset. The offset is a column of generated line 0. The name is `token_scope`
-- of the token that `lookup` returns for this column; `None` if `lookup` returns `None`
abbrev pub function_name : HermesValue → ℕ → Option (List ℕ)
function_name h offset = option_and_then (token_scope h.scopes) (lookup h.map (0, offset))

-- when the borrow `result` ends, the regular map of `self` becomes the last value of `result`. The scopes of `self` are
-- unchanged
abbrev pub LendsMap : MutBor SourceMapHermes → MutBor MapValue → Fml
LendsMap self result = Lends hermes_row map_row self result (λ m. record self.now { sm = m })
