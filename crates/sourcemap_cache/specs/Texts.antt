-- Texts as bytes, and texts that are UTF-8.
use Rattle.std.specs.Prelude.{ℕ, List, map, Option, IfSome}
use Rattle.std.specs.List.{AllByRecursion}
use Rattle.std.specs.Str.{IsUtf8}
use denote.Ref.{Bor}

-- all texts of the list are UTF-8
abbrev pub AreTexts : List (Option (List ℕ)) → Type 0
AreTexts texts = AllByRecursion (λ text. IfSome text IsUtf8) texts

-- the bytes of borrowed texts
abbrev pub borrowed : List (Bor (List ℕ)) → List (List ℕ)
borrowed texts = map (λ text. text.now) texts
