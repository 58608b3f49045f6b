-- The lookup of a position in the map of a bundle's first module, and in the flattened index map.
use Rattle.std.specs.Prelude.{◌≡◌, ◌⊎◌, ℕ, true, List, [], ◌∷◌, filter_map, Option, Some, None, Result, Ok, Err}
use Rattle.sourcemap.specs.BundleModules.{ModuleValue}
use Rattle.sourcemap.specs.Flat.{flat as flat_of}
use Rattle.sourcemap.specs.ModuleMap.{end_of, is_in}
use Rattle.sourcemap.specs.Encoder.{ReadsBack, Restores}
use Rattle.sourcemap.specs.Reading.{BytesHaveResult, RegularDecodes}
use Rattle.sourcemap.specs.Split.{ModuleParts, SplitValue, Splits, dues_in, with_first_line}
use Rattle.sourcemap.specs.Token.{token_text}
use Rattle.sourcemap.specs.Tokens.{destination, position_cmp}
use Rattle.sourcemap.specs.TreeDecoder.{Then}
use Rattle.sourcemap.specs.Trees.{IndexValue, index_tree}
use Rattle.sourcemap.specs.Types.{MapValue, Meaning, meaning}
use Rattle.sourcemap.specs.Utils.{closest_item}
use Rattle.sourcemap.specs.declared.errors.Error.{Error}
use Rattle.sourcemap.specs.declared.types.RawToken.{RawToken}

-- the text that a token with this meaning prints; the empty text if there is no meaning
abbrev pub printed : Option Meaning → List ℕ
printed None = []
printed (Some says) = token_text says

-- the text that `printed` returns for the meaning of `p` in the map of the first item. If the first item is an error,
-- the result is this error. If there are no items, the result is the empty text
abbrev pub first_text : ℕ × ℕ → List (Result ModuleParts Error) → Result (List ℕ) Error
first_text p [] = Ok []
first_text p (Ok parts ∷ _) = Ok (printed (meaning parts.map p))
first_text p (Err e ∷ _) = Err e

-- If the bundle cannot be split, `answer` is the error of splitting (`Splits`). If the bundle can be split, `answer` is
-- `first_text p items`, where `items` are the items of the split bundle
abbrev pub TracesFirst : IndexValue → List (Result ModuleValue Error) → ℕ × ℕ → Result (List ℕ) Error → Type 0
TracesFirst i modules p answer = Then (Splits i modules) (λ split a. a ≡ first_text p (dues_in split)) answer

-- `flat` is the flattened map of the index map. `found` is the first module whose offset in `x_facebook_offsets` is not
-- null. `first` is this offset: the line of the bundle on which `found` begins. No module before `found` gives an
-- error.
pub record IsFirstModule (i : IndexValue) (modules : List (Result ModuleValue Error)) (flat : MapValue)
    (found : ModuleValue) (first : ℕ) : Type 0 where
  pub flat_is : flat_of (index_tree i) ≡ Ok flat
  pub offsets : List (Option ℕ)
  pub offsets_are : i.parts.x_facebook_offsets ≡ Some offsets
  pub others : List (Result (ModuleValue × ℕ) Error)
  pub comes_first : filter_map (with_first_line offsets) modules ≡ Ok (found, first) ∷ others

-- The text of the module `found` begins at column 0 of line `first`. The position `p` is in this module: at or after
-- this start, and before the end of the text. A lookup of `p` in the map `flat` finds a token. The generated position
-- of this token is in the module too.
pub record IsInModule (flat : MapValue) (found : ModuleValue) (first : ℕ) (p : ℕ × ℕ) : Type 0 where
  pub token : RawToken
  pub inside : is_in first (end_of first found.text) p ≡ true
  pub closest : closest_item destination position_cmp flat.tokens p ≡ Some token
  pub within : is_in first (end_of first found.text) (destination token) ≡ true

-- the bundle can be split, its first item is no error, and `text` decodes to a map that restores the map of this item
abbrev pub StoresFirst : IndexValue → List (Result ModuleValue Error) → (text : List ℕ) → Type 0
StoresFirst i modules text =
    (split : SplitValue) × (parts : ModuleParts) × (others : List (Result ModuleParts Error))
    × Splits i modules (Ok split) × (dues_in split ≡ Ok parts ∷ others)
    × ReadsBack (BytesHaveResult RegularDecodes text) (Restores parts.map)

-- the error of splitting the bundle, or the error that is its first item
abbrev pub IsFirstRefused : IndexValue → List (Result ModuleValue Error) → Error → Type 0
IsFirstRefused i modules e =
    Splits i modules (Err e)
    ⊎ ((split : SplitValue) × (others : List (Result ModuleParts Error))
    × Splits i modules (Ok split) × (dues_in split ≡ Err e ∷ others))
