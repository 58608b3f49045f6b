-- Lines of a text, as a page reads them.
use Rattle.std.specs.Prelude.{◌≡◌, ◌⊎◌, ◌<◌, ℕ, List, [], ◌∷◌, cond, true, false, length, slice_index}
use Rattle.std.specs.Str.{IsUtf8}
use Rattle.sourcemap_source_views.specs.Lines.{Line, is_terminator, lines_of, starts_with_crlf}

-- If the bytes are UTF-8, `Says` holds. Otherwise the code is `SM_UTF8`, and nothing is written
abbrev pub OnText : List ℕ → (Says : Type 0) → (code : ℕ) → (old new : List ℕ) → Type 0
OnText text Says code old new = (IsUtf8 text → Says) × (¬ IsUtf8 text → (code ≡ 2) × (new ≡ old))

-- a line followed by other lines
abbrev pub followed : (body terminator : List ℕ) → List Line → List Line
followed body terminator lines = record { body = body; terminator = terminator } ∷ lines

-- with code 0, the first line of a text and the text of the other lines; with `SM_ABSENT`, its only line
abbrev pub ReturnsLine : List ℕ → (code : ℕ) → (line old_rest rest : List ℕ) → Type 0
ReturnsLine text code line old_rest rest =
    ((code ≡ 0) × ((terminator : List ℕ) × (lines_of text ≡ followed line terminator (lines_of rest))))
    ⊎ ((code ≡ 32) × (lines_of text ≡ followed line [] []) × (rest ≡ old_rest))

-- the length of the terminator that a text begins with
abbrev pub terminator_length : List ℕ → ℕ
terminator_length text = cond (starts_with_crlf text) 2 1

-- none of the first n bytes ends a line
abbrev pub IsQuiet : List ℕ → ℕ → Type 0
IsQuiet text n = (k : ℕ) → k < n → is_terminator (slice_index text k) ≡ false

-- no byte ends a line
abbrev pub HasNoEnd : List ℕ → Type 0
HasNoEnd text = IsQuiet text (length text)

-- the first byte that ends a line is at this offset
pub record EndsAt (text : List ℕ) (at : ℕ) : Type 0 where
  pub inside : at < length text
  pub ends : is_terminator (slice_index text at) ≡ true
  pub before : IsQuiet text at
