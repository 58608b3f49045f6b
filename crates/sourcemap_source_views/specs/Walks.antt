-- The items that the iterator `RevTokenIter` has not returned yet: tokens of a map, each with its identifier or `None`.
use Rattle.std.specs.Prelude.{ℕ, List, [], ◌∷◌, Option, None, Some}
use Rattle.std.specs.Borrow.{Bor}
use Rattle.std.specs.Option.{option_copied}
use Rattle.sourcemap_source_views.specs.Walk.{walked}
use Rattle.sourcemap_source_views.specs.declared.walk.RevTokenIter.{RevTokenIter}

-- a token with the text of its identifier, or with `None`
abbrev pub item_seen : {T S : Type 0} → (T → S) → T × Option (Bor (List ℕ)) → S × Option (List ℕ)
item_seen seen item = (seen item.0, option_copied item.1)

-- a token and the tokens before it; empty if there is no token
abbrev pub tokens_from : {T S : Type 0} → (T → S) → (T → List S) → Option T → List S
tokens_from seen before None = []
tokens_from seen before (Some token) = seen token ∷ before token

-- the items that the iterator has not returned yet
abbrev pub walk_left : {T S : Type 0} → (T → S) → (T → List S) → (S → ℕ × ℕ) → RevTokenIter T
    → List (S × Option (List ℕ))
walk_left seen before position_value it = walked position_value it.view.now (tokens_from seen before it.token)
