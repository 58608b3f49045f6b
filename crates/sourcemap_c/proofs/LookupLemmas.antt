-- A span starts at the looked-up position and ends before the next token. If the tokens are in order, all positions in
-- the span have the same closest token.
use Rattle.std.proofs.Common.{◌≡◌, sym, ap, ◌∙◌, ℕ, ◌+◌, List, true, Option, Some, None, IfSome, option_map, slice_get}
use Rattle.std.specs.Prelude.{unwrap_or}
use Rattle.std.specs.Ordering.{is_lt}
use Rattle.sourcemap_tokens.specs.Tokens.{AreInOrder, closest_token, destination, position_cmp}
use Rattle.sourcemap_tokens.specs.declared.tokens.RawToken.{RawToken}
use Rattle.sourcemap_tokens.proofs.TokensLemmas.{closest-stays}
use Rattle.sourcemap_map_regular.specs.Map.{MapValue, TokenValue, distance, lookup}
use Rattle.sourcemap_c_handles.specs.declared.layout.Position.{Position}
use Rattle.sourcemap_c.specs.Lookup.{StaysClosest, start_after}

abbrev position_pair : Position → ℕ × ℕ
position_pair p = (p.line, p.column)

before_next : (tokens : List RawToken) (n : ℕ) (q : ℕ × ℕ) → is_lt (position_cmp q (position_pair (start_after tokens n))) ≡ true
    → IfSome (slice_get tokens (n + 1)) (λ next. is_lt (position_cmp q (destination next)) ≡ true)
before_next tokens n q before = by_next (slice_get tokens (n + 1)) before
  where
    by_next : (next : Option RawToken)
        → is_lt (position_cmp q (position_pair (unwrap_or (option_map (λ token. record { line = token.dst_line; column = token.dst_col }) next) (record { line = 4294967295; column = 4294967295 })))) ≡ true
        → IfSome next (λ next. is_lt (position_cmp q (destination next)) ≡ true)
    by_next None before = tt
    by_next (Some token) before = before

-- let `tokens` be in order, and let `found` be the token closest to `p`. Then `found` is also the closest token at each
-- later position before the start of the next token. If there is no next token, the bound is line 4294967295, column
-- 4294967295 (`start_after`)
pub stays : (tokens : List RawToken) (p : ℕ × ℕ) (found : ℕ × RawToken) → AreInOrder tokens → closest_token tokens p ≡ Some found
    → StaysClosest tokens p (start_after tokens found.0)
stays tokens p (n, token) up at q later before = closest-stays tokens p q (n, token) up at later (before_next tokens n q before) ∙ sym at

-- a token that a lookup returned is the closest one in the list of the map's tokens
pub closest-found : (m : MapValue) (p : ℕ × ℕ) (t : TokenValue) → Some t ≡ lookup m p → closest_token m.tokens p ≡ Some (t.index, t.raw)
closest-found m p t is = by_entry (closest_token m.tokens p) is
  where
    by_entry : (entry : Option (ℕ × RawToken))
        → Some t ≡ option_map (λ (e : ℕ × RawToken). record { map_of = m; raw = e.1; index = e.0; extra_columns = distance e.1 p }) entry
        → entry ≡ Some (t.index, t.raw)
    by_entry None is = cc
    by_entry (Some (n, token)) is = ap (λ (o : Option TokenValue). Some ((unwrap_or o t).index, (unwrap_or o t).raw)) (sym is)
