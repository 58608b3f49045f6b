-- Prefixes that are stripped from the start of a text, for example from an entry of `sources`.
use Rattle.std.specs.Prelude.{ℕ, List, [], ◌∷◌, ◌++◌, codes, nat_eq, drop, length, if◌then◌else◌}
use Rattle.std.specs.List.{starts_with, ends_with}

-- the prefix if it ends with a slash; otherwise the prefix with a slash appended
abbrev pub with_slash : List ℕ → List ℕ
with_slash prefix = if ends_with nat_eq prefix (codes "/") then prefix else prefix ++ codes "/"

-- a prefix matches if the text starts with `with_slash prefix`. The result is the rest of the text after `with_slash
-- prefix`, where `prefix` is the first prefix that matches. If no prefix matches, the result is the whole text. For
-- example, the prefix `a` turns `a/b` into `b`, and does not match `ab`
abbrev pub without_prefix : List (List ℕ) → List ℕ → List ℕ
without_prefix [] text = text
without_prefix (prefix ∷ prefixes) text =
    if starts_with nat_eq text (with_slash prefix) then drop (length (with_slash prefix)) text
    else without_prefix prefixes text
