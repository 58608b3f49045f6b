-- The reference on a line of generated code, and the reference of a whole text.
use Rattle.std.specs.Prelude.{ℕ, List, [], ◌∷◌, Option, None, Some, codes, drop, nat_eq, ◌==◌, if◌then◌else◌}
use Rattle.std.specs.List.{slice_split, starts_with}
use Rattle.std.specs.Str.{is_utf8, trim}

-- the URL of a source map, with the kind of its mark: `usual` is `//#`, `legacy` is `//@`
pub data Reference : Type 0 where
  usual : List ℕ → Reference
  legacy : List ℕ → Reference

-- the rest of a line after its mark, `//# sourceMappingURL=` or `//@ sourceMappingURL=`; the rest is trimmed
abbrev pub url_after_mark : List ℕ → List ℕ
url_after_mark line = trim (drop 21 line)

-- the reference on a line that starts with a mark, otherwise `None`
abbrev pub reference_on : List ℕ → Option Reference
reference_on line =
    if starts_with nat_eq line (codes "//# sourceMappingURL=") then Some (usual (url_after_mark line))
    else if starts_with nat_eq line (codes "//@ sourceMappingURL=") then Some (legacy (url_after_mark line))
    else None

-- the reference on a line; `Some None` if the line has no reference; `None` if the line is not UTF-8
abbrev pub line_reference : List ℕ → Option (Option Reference)
line_reference line = if is_utf8 line then Some (reference_on line) else None

-- the result of a line together with the lines after it. `current` is the result of the line alone, and `later` is the
-- result of the lines after it. If the line is UTF-8 and has no reference, `current` is `Some None`, and the result is
-- `later`. Otherwise the result is `current`
abbrev pub or_later : Option (Option Reference) → Option (Option Reference) → Option (Option Reference)
or_later (Some None) later = later
or_later current later = current

-- the result of the first line that has a reference or is not UTF-8; `Some None` if there is no such line
abbrev pub first_on : List (List ℕ) → Option (Option Reference)
first_on [] = Some None
first_on (line ∷ lines) = or_later (line_reference line) (first_on lines)

-- the lines of a text, split at each newline
abbrev pub text_lines : List ℕ → List (List ℕ)
text_lines = slice_split (λ b. b == 10)

-- the reference on the first line that has one; `Some None` if all lines are UTF-8 and no line has a reference; `None`
-- if a line is not UTF-8 and no line before it has a reference
abbrev pub first_reference : List ℕ → Option (Option Reference)
first_reference text = first_on (text_lines text)
