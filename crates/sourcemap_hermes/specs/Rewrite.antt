-- Rewriting a Hermes map: its regular map is rewritten, and the scopes follow their sources.
use Rattle.std.specs.Prelude.{◌≡◌, ℕ, List, Option, option_and_then, IfSome, Result, Ok, Err}
use Rattle.sourcemap_errors.specs.declared.errors.Error.{Error}
use Rattle.sourcemap_interning.specs.Interner.{AreDistinct}
use Rattle.sourcemap_map_rewrite.specs.declared.options.RewriteOptions.{RewriteOptions}
use Rattle.sourcemap_map_regular.specs.Map.{TokenValue, resolved_sources, lookup}
use Rattle.sourcemap_map_regular.specs.Rewrite.{Removal, LacksFolder, first_ids, rewritten as map_rewritten}
use Rattle.sourcemap_map_regular.specs.Rewrite.{Rewrites as MapRewrites}
use Rattle.sourcemap_map_regular.specs.Token.{token_at}
use Rattle.sourcemap_hermes_scopes.specs.SourceScopes.{IsInOrderAt, picked_scopes}
use Rattle.sourcemap_hermes.specs.Map.{HermesValue, token_scope, function_name}

-- the rewritten map. Tokens may use several old sources that resolve to the same text. These old sources become one new
-- source. The new source has the scopes of one of them: the old source whose id comes first in the list of tokens. If
-- this old source has no scopes, the new source has no scopes
abbrev pub rewritten : Removal → HermesValue → HermesValue
rewritten removal h = record {
  map = map_rewritten removal h.map;
  scopes = picked_scopes h.scopes (first_ids h.map);
}

-- the result of `rewrite`, other than `OutOfMemory`. If it is a map, its regular map is a result of
-- `SourceMap::rewrite`, and its scopes are the scopes of the map `rewritten`. If it is an error, it is `Io` of kind
-- `InvalidInput`: contents are to be loaded, but neither `base_path` nor `current_dir` is absolute
abbrev pub Rewrites : RewriteOptions → HermesValue → Result HermesValue Error → Type 0
Rewrites options h (Ok new) =
    MapRewrites options h.map (Ok new.map) × (new.scopes ≡ picked_scopes h.scopes (first_ids h.map))
Rewrites options h (Err e) = LacksFolder options e

-- no two sources resolve against `sourceRoot` to the same text
abbrev pub HasDistinctSources : HermesValue → Type 0
HasDistinctSources h = AreDistinct (resolved_sources h.map)

-- `token_scope` of the token at `index`, with `extra_columns` added to the original column of the token
-- (`column_after`). `None` if the map has no token at `index`
abbrev pub scope_at_distance : HermesValue → (index extra_columns : ℕ) → Option (List ℕ)
scope_at_distance h index extra_columns =
    option_and_then (λ t. token_scope h.scopes (record t { extra_columns = extra_columns })) (token_at h.map index)

-- if there is a token, the functions of its source are sorted
abbrev pub IsInOrderOf : HermesValue → Option TokenValue → Type 0
IsInOrderOf h token = IfSome token (λ t. IsInOrderAt h.scopes t.raw.src_id)

-- `new` has the same scope as `old` for each token and any `extra_columns`, and the same function name at each bytecode
-- offset. If the functions of a token's source are sorted in `old`, they are sorted in `new` too
pub record KeepsScopes (old new : HermesValue) : Type 0 where
  pub scopes : (index extra_columns : ℕ)
      → scope_at_distance new index extra_columns ≡ scope_at_distance old index extra_columns
  pub names : (offset : ℕ) → function_name new offset ≡ function_name old offset
  pub in_order : (index : ℕ) → IsInOrderOf old (token_at old.map index) → IsInOrderOf new (token_at new.map index)
  pub in_order_at : (p : ℕ × ℕ) → IsInOrderOf old (lookup old.map p) → IsInOrderOf new (lookup new.map p)
