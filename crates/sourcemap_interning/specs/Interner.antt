-- Interned strings, by id.
use Rattle.std.specs.Prelude.{◌≡◌, ℕ, cond, List, [], ◌∷◌, ◌++◌, length, Option, Some, None, is_some, Result, Ok, Err}
use Rattle.std.specs.Prelude.{slice_get, nat_lt}
use Rattle.std.specs.List.{position_from}
use Rattle.std.specs.Str.{bytes_eq}
use Rattle.sourcemap_errors.specs.declared.errors.Error.{Error}
use Rattle.sourcemap_errors.specs.declared.errors.Error.TheVariants.{IncompatibleSourceMap}

-- the strings of an index; none if there is no index yet
abbrev pub texts_of : Option (List (List ℕ)) → List (List ℕ)
texts_of None = []
texts_of (Some texts) = texts

-- the id of a string: the index at which it first occurs in the list; `None` if the list does not have it
abbrev pub id_of : List ℕ → List (List ℕ) → Option ℕ
id_of text texts = position_from (bytes_eq text) 0 texts

-- no string occurs twice
abbrev pub AreDistinct : List (List ℕ) → Type 0
AreDistinct texts = (text : List ℕ) (id : ℕ) → slice_get texts id ≡ Some text → id_of text texts ≡ Some id

-- the strings, with `text` appended if it is not yet among them
abbrev pub with_text : List (List ℕ) → List ℕ → List (List ℕ)
with_text texts text = cond (is_some (id_of text texts)) texts (texts ++ text ∷ [])

-- the id that `add` returns, or `IncompatibleSourceMap` for a new string if there are 4294967295 strings already
abbrev pub id_for : List (List ℕ) → List ℕ → Result ℕ Error
id_for texts text = existing_or_next (id_of text texts) (length texts) where
  existing_or_next : Option ℕ → ℕ → Result ℕ Error
  existing_or_next (Some id) count = Ok id
  existing_or_next None count = cond (nat_lt count 4294967295) (Ok count) (Err IncompatibleSourceMap)
