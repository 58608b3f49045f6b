-- The words of `check`.
use Rattle.std.specs.Prelude.{◌≡◌, ℕ, Bool, true, false, cond, List, [], ◌∷◌, ◌++◌, codes, string_bytes, Option, Some, None, option_map, if◌then◌else◌}
use Rattle.std.specs.Str.{bytes_eq}
use Rattle.sourcemap_check_print.specs.declared.print.Form.{Form}
use Rattle.sourcemap_check_print.specs.declared.print.Form.TheVariants.{Lines, Json}
use Rattle.sourcemap_cli.specs.declared.checking.Strictness.{Strictness}
use Rattle.sourcemap_cli.specs.declared.checking.Strictness.TheVariants.{Usual, Strict}
use Rattle.sourcemap_cli.specs.declared.checking.Checking.{Checking}

abbrev pub form_words : Form → List (List ℕ)
form_words Lines = []
form_words Json = codes "--json" ∷ []

abbrev pub strictness_words : Strictness → List (List ℕ)
strictness_words Usual = []
strictness_words Strict = codes "--strict" ∷ []

-- a value behind its word, if there is one
abbrev pub value_words : (flag : List ℕ) → Option (List ℕ) → List (List ℕ)
value_words flag None = []
value_words flag (Some value) = flag ∷ value ∷ []

-- the words of a check behind `check`, with these paths and this name
abbrev pub words_with : Form → Strictness → (generated name sources : Option (List ℕ)) → List (List ℕ)
words_with form strictness generated name sources =
    form_words form
    ++ (strictness_words strictness
    ++ (value_words (codes "--generated") generated
    ++ (value_words (codes "--name") name ++ value_words (codes "--sources") sources)))

-- the name of the map's file that words say
abbrev pub name_in : Checking → Option (List ℕ)
name_in c = option_map string_bytes c.name

-- the words of this check behind `check`
abbrev pub words_of : Checking → List (List ℕ)
words_of c =
    words_with c.form c.strictness (option_map string_bytes c.generated) (name_in c) (option_map string_bytes c.sources)

-- two checks are equal; the buffers of their texts may differ in capacity
pub record IsSameChecking (a b : Checking) : Type 0 where
  pub form : a.form ≡ b.form
  pub strictness : a.strictness ≡ b.strictness
  pub generated : option_map string_bytes a.generated ≡ option_map string_bytes b.generated
  pub name : name_in a ≡ name_in b
  pub sources : option_map string_bytes a.sources ≡ option_map string_bytes b.sources

-- the first word is this one
abbrev pub begins : (flag : List ℕ) → List (List ℕ) → Bool
begins flag [] = false
begins flag (word ∷ words) = bytes_eq word flag

-- the second word, if the first is this one
abbrev pub value_after : (flag : List ℕ) → List (List ℕ) → Option (List ℕ)
value_after flag (word ∷ value ∷ words) = if bytes_eq word flag then Some value else None
value_after flag _ = None

-- how many words a flag takes
abbrev pub flag_count : Bool → ℕ
flag_count true = 1
flag_count false = 0

-- how many words a value takes, with that before it
abbrev pub value_count : Option (List ℕ) → ℕ
value_count (Some value) = 2
value_count None = 0

abbrev pub form_of : Bool → Form
form_of true = Json
form_of false = Lines

abbrev pub strictness_of : Bool → Strictness
strictness_of true = Strict
strictness_of false = Usual
