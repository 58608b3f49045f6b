-- Strings as their bytes.
use Rattle.std.specs.Prelude.{List, ℕ, Option, option_map, map, string_bytes, String, Vec}
use Rattle.std.specs.declared.alloc.Global.{Global}

-- the bytes of each string
abbrev pub texts_of : Vec (String Global) Global → List (List ℕ)
texts_of texts = map string_bytes texts.items

-- the bytes of each string, `None` for a string that is missing
abbrev pub contents_in : Vec (Option (String Global)) Global → List (Option (List ℕ))
contents_in contents = map (option_map string_bytes) contents.items
