-- What a compiled map is written from.
use Rattle.std.specs.Prelude.{ℕ, List, Option}
use Rattle.sourcemap_tokens.specs.declared.tokens.RawToken.{RawToken}

-- the tokens; the scope of each token, by its index: 0 for none, otherwise the id plus 1; the texts of sources, names
-- and scopes by id; the file; the contents by source id; the bytes of the debug id. A token past the end of the scopes
-- has none
pub record Parts : Type 0 where
  pub tokens : List RawToken
  pub scopes : List ℕ
  pub sources : List (Option (List ℕ))
  pub names : List (Option (List ℕ))
  pub scope_names : List (Option (List ℕ))
  pub file : Option (List ℕ)
  pub contents : List (Option (List ℕ))
  pub debug_id : Option (List ℕ)
