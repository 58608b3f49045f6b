-- What lookups in a compiled map find and write.
use Rattle.std.specs.Prelude.{◌≡◌, ◌<◌, ℕ, List, true, Option, Some, None, option_map, Result, Ok, slice_get}
use Rattle.sourcemap_compiled.specs.Lookup.{CompiledTokenValue, IsInOrder, IsNextTo, StartsAfter, answer_by, lookup}
use Rattle.sourcemap_compiled.specs.Lookup.{says}
use Rattle.sourcemap_compiled.specs.Numbers.{position_number}
use Rattle.sourcemap_compiled.specs.declared.errors.CompiledMapError.{CompiledMapError}
use Rattle.sourcemap_c_handles.specs.Layout.{found_in, map_token}
use Rattle.sourcemap_c_handles.specs.declared.layout.Found.{Found}
use Rattle.sourcemap_c_handles.specs.declared.layout.Position.{Position}
use Rattle.sourcemap_c_compiled.specs.Codes.{ReturnsOption, ReturnsText}

-- a token next to a position, as the file has it; none if the first token is after the position
abbrev pub IsNear : List ℕ → ℕ × ℕ → Option CompiledTokenValue → Type 0
IsNear bytes p None = StartsAfter bytes (position_number p)
IsNear bytes p (Some token) =
    (token ≡ answer_by bytes p token.index) × IsNextTo bytes (position_number p) token.index

-- what a lookup finds: the closest token if the file is in order; in any file a token next to the position
pub record IsFound (bytes : List ℕ) (p : ℕ × ℕ) (token : Option CompiledTokenValue) : Type 0 where
  pub closest : IsInOrder bytes → token ≡ lookup bytes p
  pub near : IsNear bytes p token

-- the token as it is written; `found` is false if there is none
abbrev pub found_of : Option CompiledTokenValue → Found
found_of None = found_in None
found_of (Some token) = record {
  token = record (map_token token.raw) { original_column = (says token).column };
  found = true;
}

-- the code of a call that finds a token or none, and the token as it is written
abbrev pub ReturnsToken : Option CompiledTokenValue → (code : ℕ) → (old new : Found) → Type 0
ReturnsToken token code old new = ReturnsOption (option_map (λ t. found_of (Some t)) token) code old new

-- the code and the token of a lookup
abbrev pub ReturnsClosest : List ℕ → ℕ × ℕ → (code : ℕ) → (old new : Found) → Type 0
ReturnsClosest bytes p code old new =
    (token : Option CompiledTokenValue) × IsFound bytes p token × ReturnsToken token code old new

-- the answer to a position
abbrev pub IsAnswer : List ℕ → Position → Found → Type 0
IsAnswer bytes p found =
    (token : Option CompiledTokenValue) × IsFound bytes (p.line, p.column) token × (found ≡ found_of token)

abbrev pub IsAnswerTo : List ℕ → Option Position → Option Found → Type 0
IsAnswerTo bytes (Some p) (Some found) = IsAnswer bytes p found
IsAnswerTo bytes _ _ = ⊥

-- the first `n` items of `found` are the answers to the first `n` positions
abbrev pub AreAnswered : List ℕ → List Position → List Found → ℕ → Type 0
AreAnswered bytes positions found n =
    (i : ℕ) → i < n → IsAnswerTo bytes (slice_get positions i) (slice_get found i)

-- the scope of a token that a lookup found; none if there is no token
abbrev pub scope_said : Option CompiledTokenValue → Result (Option (List ℕ)) CompiledMapError
scope_said None = Ok None
scope_said (Some token) = (says token).scope

-- the code and the scope of the closest token
abbrev pub ReturnsScope : List ℕ → ℕ × ℕ → (code : ℕ) → (old new : List ℕ) → Type 0
ReturnsScope bytes p code old new = (token : Option CompiledTokenValue) × IsFound bytes p token
    × ReturnsText (scope_said token) code old new
