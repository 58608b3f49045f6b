-- When the positions of a map are off by one shift throughout.
use Rattle.std.specs.Prelude.{◌≡◌, ℕ, ◌++◌, List, if◌then◌else◌, Option, Some, None, option_map, option_to_list}
use Rattle.sourcemap_map_regular.specs.Map.{MapValue}
use Rattle.sourcemap_check_texts.specs.Sources.{Files}
use Rattle.sourcemap_check_texts.specs.Shifts.{AreBestMatches, LandmarkValue, is_suspicious, landmarks}
use Rattle.sourcemap_check_texts.specs.declared.shifts.Matches.{Matches}
use Rattle.sourcemap_check_texts.specs.declared.shifts.Shift.{Shift}
use Rattle.sourcemap_check_suspicious.specs.declared.shifted.Shifted.{Shifted}
use Rattle.sourcemap_check_suspicious.specs.declared.shifted.Shifted.TheVariants.{Original, Generated}

-- the number of the code
abbrev pub code_of_shifted : Shifted → ℕ
code_of_shifted (Original shift) = 241
code_of_shifted (Generated shift) = 242

-- the shift, if it is to be suspected
abbrev pub suspected : Option Matches → Option Shift
suspected None = None
suspected (Some m) = if is_suspicious m then Some m.shift else None

-- these words stand elsewhere after a shift that is to be suspected; `None` if there is no such shift
pub record IsOff (kind : Shift → Shifted) (words : List LandmarkValue) (shifted : Option Shifted) : Type 0 where
  pub matches : Option Matches
  pub are_best : AreBestMatches words matches
  pub is : shifted ≡ option_map kind (suspected matches)

-- the words of a map in its generated text, if one is given
abbrev pub IsOffBeside : MapValue → Files → (generated : Option (List ℕ)) → Option Shifted → Type 0
IsOffBeside m files None shifted = shifted ≡ None
IsOffBeside m files (Some text) shifted = IsOff Generated (landmarks (Some text) m files) shifted

-- the names in the texts of sources, then the words in the generated text
pub record AreOff (m : MapValue) (generated : Option (List ℕ)) (files : Files) (shifts : List Shifted) : Type 0 where
  pub first : Option Shifted
  pub second : Option Shifted
  pub first_is : IsOff Original (landmarks None m files) first
  pub second_is : IsOffBeside m files generated second
  pub all : shifts ≡ option_to_list first ++ option_to_list second
