-- The values that contracts see of texts.
use Rattle.std.specs.Prelude.{ℕ, List, Option, option_map}
use denote.Ref.{Bor}

-- the bytes of a text, if there is one
abbrev pub text_value : Option (Bor (List ℕ)) → Option (List ℕ)
text_value text = option_map (λ t. t.now) text
