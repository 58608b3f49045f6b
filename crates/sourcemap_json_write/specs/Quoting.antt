-- A string that is written part by part, escaped.
use Rattle.std.specs.Prelude.{◌≡◌, ℕ, List, [], ◌∷◌, ◌++◌, drop}
use Rattle.json.specs.Ascii as ascii
use Rattle.json.specs.Print.{escape}

-- the string from index `from` to index `at` was escaped and appended to `old`, which gives `new`
abbrev pub IsPutUpTo : List ℕ → List ℕ → ℕ → List ℕ → ℕ → Type 0
IsPutUpTo old text from new at =
    new ++ (escape (drop at text) ++ ascii.quote ∷ []) ≡ old ++ (escape (drop from text) ++ ascii.quote ∷ [])
