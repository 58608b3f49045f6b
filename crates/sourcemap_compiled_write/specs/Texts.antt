-- How texts are written, and the table that says where they start.
use Rattle.std.specs.Prelude.{ℕ, ◌+◌, List, [], ◌∷◌, ◌++◌, length, Option, Some, None}
use Rattle.std.specs.List.{flat_map}
use Rattle.byteorder.specs.Endian.{little_bytes}

-- a text and a zero byte; of a missing text nothing
abbrev pub text_bytes : Option (List ℕ) → List ℕ
text_bytes None = []
text_bytes (Some text) = text ++ 0 ∷ []

-- the bytes of texts, one after the other
abbrev pub texts_bytes : List (Option (List ℕ)) → List ℕ
texts_bytes texts = flat_map text_bytes texts

-- where each text starts, if the first one starts at this offset
abbrev pub text_offsets : (offset : ℕ) → List (Option (List ℕ)) → List ℕ
text_offsets offset [] = []
text_offsets offset (text ∷ texts) = offset ∷ text_offsets (offset + length (text_bytes text)) texts

-- the table: where each text starts, and where the last one ends
unfoldable pub table_bytes : (offset : ℕ) → List (Option (List ℕ)) → List ℕ
table_bytes offset texts =
    flat_map (little_bytes 4) (text_offsets offset texts ++ (offset + length (texts_bytes texts)) ∷ [])
