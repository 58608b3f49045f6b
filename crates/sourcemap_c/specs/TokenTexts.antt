-- The texts of tokens, and the results of calls that write such a text to a handle.
use Rattle.std.specs.Prelude.{◌≡◌, ℕ, List, Option, Some, None, option_map}
use Rattle.sourcemap_map_regular.specs.Map.{MapValue}
use Rattle.sourcemap_map_regular.specs.Token.{says, token_at, token_text}
use Rattle.sourcemap_index_model.specs.MapTree.{MapTree}
use Rattle.sourcemap_index_model.specs.Meaning.{meaning}
use Rattle.sourcemap_index_model.specs.WellFormed.{IsInOrder}
use Rattle.sourcemap_c_handles.specs.declared.errors.Failure.{Failure}
use Rattle.sourcemap_c_handles.specs.declared.errors.Failure.TheVariants.{Absent, WrongKind}

-- the text of the token with this index; `None` if the map has no such token
abbrev pub text_of_token : ℕ → MapValue → Option (List ℕ)
text_of_token index m = option_map (λ token. token_text (says token)) (token_at m index)

-- `held` is the text of the token with this index; false if there is no map
abbrev pub HoldsTextOf : (index : ℕ) → Option MapValue → (held : Option (List ℕ)) → Type 0
HoldsTextOf index None held = ⊥
HoldsTextOf index (Some m) held = (text : List ℕ) × (text_of_token index m ≡ Some text) × (held ≡ Some text)

-- Why there is no text: `WrongKind` if there is no regular or Hermes map, `Absent` if the map has no token with this
-- index.
abbrev pub LacksTextOf : (index : ℕ) → Option MapValue → Failure → Type 0
LacksTextOf index None failure = failure ≡ WrongKind
LacksTextOf index (Some m) failure = (failure ≡ Absent) × (text_of_token index m ≡ None)

-- the text of the token that is closest to a position; `None` if there is no closest token. The column in the text
-- includes the `extra_columns` of the lookup
abbrev pub text_at : MapTree → ℕ × ℕ → Option (List ℕ)
text_at t p = option_map token_text (meaning t p)

-- There is a map, and `held` is a text. If the map is in order, `held` is the text of the closest token (`text_at`).
abbrev pub HoldsTextAt : ℕ × ℕ → Option MapTree → (held : Option (List ℕ)) → Type 0
HoldsTextAt p None held = ⊥
HoldsTextAt p (Some t) held = (text : List ℕ) × (held ≡ Some text) × (IsInOrder t → text_at t p ≡ Some text)

-- Why there is no text: `WrongKind` if there is no map, otherwise `Absent`. If the map is in order and the failure is
-- `Absent`, there is no closest token.
abbrev pub LacksTextAt : ℕ × ℕ → Option MapTree → Failure → Type 0
LacksTextAt p None failure = failure ≡ WrongKind
LacksTextAt p (Some t) failure = (failure ≡ Absent) × (IsInOrder t → text_at t p ≡ None)
