-- Lookups of generated positions.
use Rattle.std.specs.Prelude.{◌≡◌, ◌+◌, ◌<◌, ℕ, List, true, false, Option, Some, None, option_map, option_and_then, slice_get, unwrap_or}
use Rattle.std.specs.Ordering.{is_lt}
use Rattle.sourcemap_tokens.specs.Tokens.{closest_token, position_cmp}
use Rattle.sourcemap_tokens.specs.declared.tokens.RawToken.{RawToken}
use Rattle.sourcemap_map_regular.specs.Map.{MapValue, lookup as lookup_regular}
use Rattle.sourcemap_index_model.specs.MapTree.{MapTree}
use Rattle.sourcemap_index_model.specs.Meaning.{lookup, meaning}
use Rattle.sourcemap_index_model.specs.WellFormed.{IsInOrder}
use Rattle.sourcemap_c_handles.specs.Layout.{found_in}
use Rattle.sourcemap_c_handles.specs.declared.layout.Found.{Found}
use Rattle.sourcemap_c_handles.specs.declared.layout.Position.{Position}
use Rattle.sourcemap_c.specs.Codes.{IsAbsentUnlessOk, ReturnsValue}
use Rattle.sourcemap_c.specs.Getters.{as_u32}

-- The code and the value of a lookup. The call writes the value of `ask` and returns `SM_OK`, or returns `SM_ABSENT` if
-- this value is `None`. If `IsInOrder` does not hold for the map, the call may return either code, and may write any
-- value with `SM_OK`. Without a map the call returns `SM_WRONG_KIND`. The call writes only if it returns `SM_OK`.
abbrev pub ReturnsLookup : {X : Type 0} → (MapTree → Option X) → Option MapTree → (code : ℕ) → (old new : X) → Type 0
ReturnsLookup ask None code old new = ReturnsValue None code old new
ReturnsLookup ask (Some t) code old new =
    IsAbsentUnlessOk code old new × (IsInOrder t → ReturnsValue (Some (ask t)) code old new)

-- the closest token to a position; `None` if there is no closest token
abbrev pub found_at : MapTree → ℕ × ℕ → Option Found
found_at t p = option_map (λ token. found_in (Some token)) (lookup t p)

-- the index of the closest token of a regular map; `None` if there is no closest token. An index above 4294967295
-- becomes 4294967295
abbrev pub index_at : MapValue → ℕ × ℕ → Option ℕ
index_at m p = option_map (λ token. as_u32 token.index) (lookup_regular m p)

-- the generated position of the token after the token at this index; line and column 4294967295 if there is no next
-- token
abbrev pub start_after : List RawToken → ℕ → Position
start_after tokens index = unwrap_or
    (option_map (λ token. record { line = token.dst_line; column = token.dst_col }) (slice_get tokens (index + 1)))
    (record { line = 4294967295; column = 4294967295 })

-- the closest token of a regular map, and the generated position of the next token; `None` if there is no closest token
abbrev pub span_at : MapValue → ℕ × ℕ → Option (Found × Position)
span_at m p = option_map (λ token. (found_in (Some token), start_after m.tokens token.index)) (lookup_regular m p)

-- all positions from `p` (inclusive) to `until` (exclusive) have the same closest token as `p`
abbrev pub StaysClosest : List RawToken → ℕ × ℕ → (until : Position) → Type 0
StaysClosest tokens p until =
    (q : ℕ × ℕ) → is_lt (position_cmp q p) ≡ false → is_lt (position_cmp q (until.line, until.column)) ≡ true
    → closest_token tokens q ≡ closest_token tokens p

abbrev pub source_at : MapTree → ℕ × ℕ → Option (List ℕ)
source_at t p = option_and_then (λ says. says.source) (meaning t p)

abbrev pub name_at : MapTree → ℕ × ℕ → Option (List ℕ)
name_at t p = option_and_then (λ says. says.name) (meaning t p)

-- the answer to a lookup of the generated position `p`; the field `found` is false if there is no closest token
abbrev pub answer_at : MapTree → Position → Found
answer_at t p = found_in (lookup t (p.line, p.column))

-- the first `n` items of `found` are the answers to the first `n` positions
abbrev pub AreAnswered : MapTree → List Position → List Found → ℕ → Type 0
AreAnswered t positions found n =
    (i : ℕ) → i < n → slice_get found i ≡ option_map (answer_at t) (slice_get positions i)
