-- The files of sources that C passes.
use Rattle.std.specs.Prelude.{ℕ, Bool, List, map, cond, Option, Some, None}
use Rattle.std.specs.Str.{is_utf8}
use Rattle.sourcemap_check_suspicious.specs.Suspects.{Files}

-- the text of a file; none if its bytes are not UTF-8
abbrev pub file_text : (bytes : List ℕ) → Option (List ℕ)
file_text bytes = cond (is_utf8 bytes) (Some bytes) None

abbrev pub file_texts : (files : List (List ℕ)) → List (Option (List ℕ))
file_texts files = map file_text files

-- those that are looked at: none at all if `present` is false
abbrev pub files_if : (present : Bool) → (files : List (List ℕ)) → Files
files_if present files = cond present (Some (file_texts files)) None
