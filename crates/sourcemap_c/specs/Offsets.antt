-- The lines at which the modules of an index map begin, and the paths of these modules.
use Rattle.std.specs.Prelude.{◌≡◌, ◌≢◌, ◌≤◌, ◌-◌, ◌⊎◌, ℕ, List, Option, Some, None, IfSome, length, min, option_map, slice_get, unwrap_or}
use Rattle.std.specs.Option.{option_and_then}
use Rattle.std.specs.Str.{IsUtf8}
use Rattle.sourcemap_errors.specs.declared.errors.Error.{Error}
use Rattle.sourcemap_index_model.specs.MapTree.{MapTree, index}
use Rattle.sourcemap_c.specs.Getters.{AreFrom}
use Rattle.sourcemap_c.specs.Codes.{IsNoText, ReturnsValue}

-- The lines at which the modules begin. `Some None` if the index map has no `x_facebook_offsets`. `None` if there is no
-- index map.
abbrev pub lines_in : Option MapTree → Option (Option (List (Option ℕ)))
lines_in (Some (index parts _)) = Some parts.x_facebook_offsets
lines_in _ = None

-- The path of module `id`. `Some None` if the index map has no path for this module. `None` if there is no index map.
abbrev pub path_in : ℕ → Option MapTree → Option (Option (List ℕ))
path_in id (Some (index parts _)) = Some (option_and_then (λ paths. slice_get paths id) parts.x_metro_module_paths)
path_in id _ = None

-- the line, or `SM_NONE` (4294967295) if there is no line
abbrev pub or_none : Option ℕ → ℕ
or_none line = unwrap_or line 4294967295

-- With `SM_OK` the call writes the lines at which the modules begin, starting with the line of module `first`. It stops
-- at the end of the list or of the array. It also writes how many lines it wrote. With another code it writes nothing.
pub record WritesLines (due : Option (Option (List (Option ℕ)))) (first code : ℕ) (old new : List ℕ) (before after : ℕ) : Type 0 where
  pub count : ReturnsValue (option_map (option_map (λ lines. min (length old) (length lines - first))) due) code before after
  pub lines : code ≡ 0 → IfSome due (λ found. IfSome found (λ lines. AreFrom or_none first lines new after))
  pub rest : code ≡ 0 → (i : ℕ) → after ≤ i → slice_get new i ≡ slice_get old i
  pub kept : code ≢ 0 → new ≡ old

-- both texts are UTF-8
abbrev pub AreTexts : (one other : List ℕ) → Type 0
AreTexts one other = IsUtf8 one × IsUtf8 other

-- the error is that one of the two texts is not UTF-8
abbrev pub IsNoTextOf : (one other : List ℕ) → Error → Type 0
IsNoTextOf one other e = IsNoText one e ⊎ IsNoText other e
