-- If a list of strings has the string `s` at an index, the list of their bytes has the bytes of `s` at this index.
use Rattle.std.proofs.Common.{◌≡◌, ◌∙◌, ap, ℕ, ◌<◌, List, length, get_or, map, option_map, slice_get, Some}
use Rattle.std.proofs.Common.{string_bytes, String, sym}
use Rattle.std.specs.declared.alloc.Global.{Global}
use Rattle.std.proofs.lemmas.Option.{slice_get-get_or, slice_get-map}

pub text_there : (texts : List (String Global)) (id : ℕ) (s : String Global) → id < length texts → s ≡ get_or texts id s
    → slice_get (map string_bytes texts) id ≡ Some (string_bytes s)
text_there texts id s inside is =
    slice_get-map string_bytes texts id
    ∙ ap (option_map string_bytes) (slice_get-get_or texts id s inside ∙ ap Some (sym is))
