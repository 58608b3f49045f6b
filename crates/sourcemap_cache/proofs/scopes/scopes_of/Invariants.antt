-- The numbers so far and those of the remaining tokens are all numbers; the names so far and those of the remaining
-- tokens are all names.
use Rattle.std.proofs.Common.{◌≡◌, ◌+◌, ◌≤◌, ◌++◌, fold, length, map, vec_len}
use Rattle.sourcemap_hermes.specs.Map.{hermes_value, token_scope}
use Rattle.sourcemap_interning.specs.Interner.{with_text}
use Rattle.sourcemap_map_regular.specs.Iterators.{tokens_left}
use Rattle.sourcemap_map_rewrite.specs.Kept.{present}
use Rattle.sourcemap_cache.specs.Scopes.{AreScopesInOrder, scope_names, scope_number, scope_numbers}
use Rattle.sourcemap_cache.proofs.scopes.scopes_of.Given as goal

abbrev pub invariant-loop-token : goal.invariant-loop-token
invariant-loop-token l =
    let h = hermes_value l.map in
    let rest = map (token_scope h.scopes) (tokens_left l.token-iterator) in
    record {
      names : AreScopesInOrder h → fold with_text l.names (present rest) ≡ scope_names h;
      numbers : AreScopesInOrder h → l.numbers.items ++ map (scope_number (scope_names h)) rest ≡ scope_numbers h;
      count : vec_len l.numbers + length (tokens_left l.token-iterator) ≡ length h.map.tokens;
      few : length l.names ≤ vec_len l.numbers;
    }
