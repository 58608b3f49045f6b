-- Deduplicated texts and their numbers.
use Rattle.std.specs.Prelude.{ℕ, List, [], ◌∷◌, fold, Option, Some, None, option_and_then, unwrap_or}
use Rattle.sourcemap_interning.specs.Interner.{id_of, with_text}
use Rattle.sourcemap_tokens.specs.Tokens.{no_id}

-- the texts in a list of optional texts
abbrev pub present : List (Option (List ℕ)) → List (List ℕ)
present [] = []
present (None ∷ texts) = present texts
present (Some text ∷ texts) = text ∷ present texts

-- each text once, in the order of first occurrence
abbrev pub kept_once : List (List ℕ) → List (List ℕ)
kept_once texts = fold with_text [] texts

-- the number of a text in the list; `no_id` if there is no text or the list lacks it
abbrev pub number_in : List (List ℕ) → Option (List ℕ) → ℕ
number_in texts text = unwrap_or (option_and_then (λ text. id_of text texts) text) no_id
