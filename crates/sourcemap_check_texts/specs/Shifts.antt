-- Words that are to stand at positions of a text, and the shift after which most of them do.
use Rattle.std.specs.Prelude.{◌≡◌, ℕ, ◌<◌, ◌*◌, ◌/◌, ◌^◌, ◌==◌, ◌&&◌, ◌||◌, Bool, false, nat_lt, nat_le, cond, ℤ, pos, negsuc, ◌+ℤ◌}
use Rattle.std.specs.Prelude.{List, [], length, take, drop, map, slice_get, Option, Some, None, option_map, option_and_then}
use Rattle.std.specs.Option.{option_map_or}
use Rattle.std.specs.List.{count_by, filter_map, take_while, IsFirstMaxByKey}
use Rattle.std.specs.Char.{is_ascii_alphabetic, is_ascii_digit}
use Rattle.sourcemap_tokens.specs.declared.tokens.RawToken.{RawToken}
use Rattle.sourcemap_source_views.specs.Columns.{column_offset}
use Rattle.sourcemap_source_views.specs.Lines.{line_bodies}
use Rattle.sourcemap_map_regular.specs.Map.{MapValue, name_of}
use Rattle.sourcemap_check_texts.specs.Doubts.{original_line, stands_at}
use Rattle.sourcemap_check_texts.specs.Sources.{Files, source_text}
use Rattle.sourcemap_check_texts.specs.declared.shifts.Shift.{Shift}
use Rattle.sourcemap_check_texts.specs.declared.shifts.Matches.{Matches}
use Rattle.sourcemap_check_texts.specs.declared.shifts.Landmark.{Landmark}
use Rattle.sourcemap_check_texts.specs.declared.shifts.TheConstants.{SHIFTS}

-- a word that is to stand at a position of a text
pub record LandmarkValue : Type 0 where
  pub text : List ℕ
  pub line : ℕ
  pub column : ℕ
  pub word : List ℕ

abbrev pub landmark_value : Landmark → LandmarkValue
landmark_value l = record { text = l.text.now; line = l.line; column = l.column; word = l.word.now }

abbrev pub landmark_values : List Landmark → List LandmarkValue
landmark_values landmarks = map landmark_value landmarks

-- a number of 32 bits
abbrev pub in_32_bits : ℤ → Option ℕ
in_32_bits (pos n) = cond (nat_lt n (2 ^ 32)) (Some n) None
in_32_bits (negsuc n) = None

-- a line or a column after a shift; `None` if it is below 0 or has more than 32 bits
abbrev pub moved : ℕ → ℤ → Option ℕ
moved number by = in_32_bits (pos number +ℤ by)

-- the line of its text that the word is to stand on after a shift
abbrev pub line_after : LandmarkValue → Shift → Option (List ℕ)
line_after l s = option_and_then (λ line. slice_get (line_bodies l.text) line) (moved l.line s.lines)

-- the word stands at its position after a shift
abbrev pub stands : LandmarkValue → Shift → Bool
stands l s =
    option_map_or
    (λ line. option_map_or (λ column. stands_at line column l.word) (moved l.column s.columns) false)
    (line_after l s) false

-- how many words stand at their positions after a shift
abbrev pub matches : List LandmarkValue → Shift → ℕ
matches landmarks s = count_by (λ l. stands l s) landmarks

-- ---- the words of a map

-- a landmark, if its word has more than one byte and its column is below 4096
abbrev pub landmark_at : (text : List ℕ) (line column : ℕ) (word : List ℕ) → Option LandmarkValue
landmark_at text line column word =
    cond (nat_lt column 4096 && nat_lt 1 (length word))
    (Some (record { text = text; line = line; column = column; word = word })) None

-- the name of a token is to stand at its original position in the text of its source. 64 bytes of it are compared
abbrev pub original_landmark : MapValue → Files → RawToken → Option LandmarkValue
original_landmark m files t =
    option_and_then (λ text. option_and_then (λ name. landmark_at text t.src_line t.src_col (take 64 name))
    (name_of m t.name_id)) (source_text m files t.src_id)

-- an ASCII letter or digit, `_` or `$`
abbrev pub is_word_byte : ℕ → Bool
is_word_byte b = ((is_ascii_alphabetic b || is_ascii_digit b) || (b == 95)) || (b == 36)

-- the letters and digits from a column of a line on, at most 64; `None` if the line is too short, or the column is not
-- below 4096
abbrev pub word_at : (line : List ℕ) (column : ℕ) → Option (List ℕ)
word_at line column =
    cond (nat_lt column 4096)
    (option_map (λ offset. take_while is_word_byte (take 64 (drop offset line))) (column_offset line column)) None

-- the word at the original position of a token; if its source has no such line, its name
abbrev pub word_of : MapValue → Files → RawToken → Option (List ℕ)
word_of m files t =
    option_map_or (λ line. word_at line t.src_col) (original_line m files t) (option_map (take 64) (name_of m t.name_id))

-- this word is to stand at the generated position too
abbrev pub generated_landmark : (text : List ℕ) → MapValue → Files → RawToken → Option LandmarkValue
generated_landmark text m files t = option_and_then (landmark_at text t.dst_line t.dst_col) (word_of m files t)

-- the landmark of a token: in the generated text if one is given, otherwise in the text of its source
abbrev pub landmark_of : (generated : Option (List ℕ)) → MapValue → Files → RawToken → Option LandmarkValue
landmark_of None m files t = original_landmark m files t
landmark_of (Some text) m files t = generated_landmark text m files t

-- the first 10,000 landmarks of the tokens
abbrev pub landmarks : (generated : Option (List ℕ)) → MapValue → Files → List LandmarkValue
landmarks generated m files = take 10000 (filter_map (landmark_of generated m files) m.tokens)

-- these are the first `most` landmarks of a list
pub record AreFirst (most : ℕ) (all : List LandmarkValue) (found : List Landmark) : Type 0 where
  pub are : landmark_values found ≡ take most all

-- ---- the best shift

abbrev pub shift_of : ℤ × ℤ → Shift
shift_of p = record { lines = p.0; columns = p.1 }

-- the counts of landmarks. The shift is the first of those tried after which most of them stand at their positions
pub record AreMatches (landmarks : List LandmarkValue) (m : Matches) : Type 0 where
  pub some : 0 < m.looked_at
  pub looked_at : m.looked_at ≡ length landmarks
  pub unshifted : m.unshifted ≡ matches landmarks (shift_of (pos 0, pos 0))
  pub shifted : m.shifted ≡ matches landmarks m.shift
  pub index : ℕ
  pub is_tried : option_map shift_of (slice_get SHIFTS index) ≡ Some m.shift
  pub is_best : IsFirstMaxByKey (λ p. matches landmarks (shift_of p)) SHIFTS (length SHIFTS) index

-- the counts; none if there are no landmarks
abbrev pub AreBestMatches : List LandmarkValue → Option Matches → Type 0
AreBestMatches landmarks None = landmarks ≡ []
AreBestMatches landmarks (Some m) = AreMatches landmarks m

-- at least 4 words stand at their positions after the shift, more than twice as many as without it, and no fewer than a
-- quarter of all, rounded down
abbrev pub is_suspicious : Matches → Bool
is_suspicious m =
    (nat_le 4 m.shifted && nat_lt (2 * m.unshifted) m.shifted) && nat_le (m.looked_at / 4) m.shifted
