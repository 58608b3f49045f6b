-- Equality of texts.
use Rattle.std.specs.Prelude.{ℕ, List, Bool, nat_eq}
use Rattle.std.specs.Cmp.Lexicographic.{pointwise}

-- equality of bytes
abbrev pub same_text : List ℕ → List ℕ → Bool
same_text = pointwise nat_eq
