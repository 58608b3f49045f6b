-- If a Hermes map restores another Hermes map (`Restores`), `function_name` returns the same result for both maps at
-- each bytecode offset.
use Rattle.std.proofs.Common.{◌≡◌, sym, ap, ◌∙◌, refl, ℕ, List, length, Option, Some, None, option_map, option_and_then}
use Rattle.sourcemap_tokens.specs.Search.{closest_item}
use Rattle.sourcemap_tokens.specs.Tokens.{closest_token, destination, position_cmp, with_valid_name}
use Rattle.sourcemap_tokens.specs.declared.tokens.RawToken.{RawToken}
use Rattle.sourcemap_tokens.proofs.SearchLemmas.{item-closest}
use Rattle.sourcemap_tokens.proofs.TokensLemmas.{closest_item-reduced}
use Rattle.sourcemap_map_regular.specs.Map.{column_after, distance}
use Rattle.sourcemap_hermes_scopes.specs.SourceScopes.{SourceScopesValue, scope_at}
use Rattle.sourcemap_hermes.specs.Encode.{Restores}
use Rattle.sourcemap_hermes.specs.Map.{HermesValue, function_name, token_scope}

-- the function name (`scope_at`) at the original position that the token `t` gives to the generated position `p`
abbrev scope_of : SourceScopesValue → ℕ × ℕ → RawToken → Option (List ℕ)
scope_of scopes p t = scope_at scopes t.src_id (t.src_line, column_after t.src_col (distance t p))

name-item : (h : HermesValue) (offset : ℕ) → function_name h offset ≡ option_and_then (scope_of h.scopes (
  0,
  offset,
)) (closest_item destination position_cmp h.map.tokens (0, offset))
name-item h offset =
    through (closest_token h.map.tokens (0, offset))
    ∙ ap (option_and_then (scope_of h.scopes (0, offset)))
    (item-closest destination position_cmp h.map.tokens (0, offset))
  where
    through : (o : Option (ℕ × RawToken)) → option_and_then (token_scope h.scopes) (option_map (λ found. record {
      map_of = h.map;
      raw = found.1;
      index = found.0;
      extra_columns = distance found.1 (0, offset);
    }) o)
        ≡ option_and_then (scope_of h.scopes (0, offset)) (option_map (λ (e : ℕ × RawToken). e.1) o)
    through None = refl
    through (Some found) = refl

pub names_restored : (h back : HermesValue) (offset : ℕ) → Restores h back
    → function_name back offset ≡ function_name h offset
names_restored h back offset ((means, kept), same) =
    name-item back offset
    ∙ (λ i. option_and_then (scope_of (same i) (0, offset))
    (closest_item destination position_cmp (kept.tokens i) (0, offset)))
    ∙ ap (option_and_then (scope_of h.scopes (0, offset)))
    (closest_item-reduced (length h.map.names) h.map.tokens (0, offset))
    ∙ through (closest_item destination position_cmp h.map.tokens (0, offset))
    ∙ sym (name-item h offset)
  where
    through : (o : Option RawToken) → option_and_then (scope_of h.scopes (
      0,
      offset,
    )) (option_map (with_valid_name (length h.map.names)) o) ≡ option_and_then (scope_of h.scopes (0, offset)) o
    through None = refl
    through (Some t) = refl
