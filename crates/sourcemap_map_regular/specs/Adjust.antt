-- A map adjusted by another one.
use Rattle.std.specs.Prelude.{List, Result, Ok, Err}
use Rattle.sourcemap_errors.specs.declared.errors.Error.{Error}
use Rattle.sourcemap_tokens.specs.declared.tokens.RawToken.{RawToken}
use Rattle.sourcemap_compose.specs.Composition.{composition}
use Rattle.sourcemap_map_regular.specs.Map.{MapValue}

-- the map `original` with new tokens: the composition of the tokens of `original` and the tokens of `adjustment`. All
-- other parts of `original` are unchanged. If the composition is an error, the result is this error
abbrev pub adjusted : (original adjustment : MapValue) → Result MapValue Error
adjusted m n = with_tokens (composition m.tokens n.tokens) where
  with_tokens : Result (List RawToken) Error → Result MapValue Error
  with_tokens (Ok tokens) = Ok (record m { tokens = tokens })
  with_tokens (Err e) = Err e
