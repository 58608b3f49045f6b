-- Lines that are printed.
use Rattle.std.specs.Prelude.{◌≡◌, ℕ, List, [], ◌∷◌, ◌++◌, Option, IfSome}

abbrev pub newline : List ℕ
newline = 10 ∷ []

-- the displayed text of an error and a newline, if the text is known
abbrev pub IsLineOf : (known : Option (List ℕ)) → List ℕ → Type 0
IsLineOf known text = (line : List ℕ) × IfSome known (λ known. line ≡ known) × (text ≡ line ++ newline)
