-- When a token of a regular map looks wrong, though the map is valid.
use Rattle.std.specs.Prelude.{◌≡◌, ℕ, zero, suc, ◌==◌, ◌&&◌, Bool, not, false, is_none, nat_lt, nat_eq, List, [], ◌∷◌, ◌++◌}
use Rattle.std.specs.Prelude.{length, take, drop, cond, Option, None, slice_get}
use Rattle.std.specs.List.{starts_with}
use Rattle.std.specs.Option.{option_map_or}
use Rattle.std.specs.Str.{chars}
use Rattle.sourcemap_tokens.specs.declared.tokens.RawToken.{RawToken}
use Rattle.sourcemap_source_views.specs.Columns.{column_offset, width}
use Rattle.sourcemap_source_views.specs.Lines.{line_bodies}
use Rattle.sourcemap_map_regular.specs.Map.{MapValue, name_of}
use Rattle.sourcemap_check_texts.specs.Sources.{Files, line_of, source_text}
use Rattle.sourcemap_check_texts.specs.declared.tokens.Doubt.{Doubt}
use Rattle.sourcemap_check_texts.specs.declared.tokens.Doubt.TheVariants.{TwoOriginals, PastSource, PastLine, WithinPair, OtherName}
use Rattle.sourcemap_check_texts.specs.declared.tokens.Places.{Places}

abbrev pub are_at_one_position : RawToken → RawToken → Bool
are_at_one_position a b = (a.dst_line == b.dst_line) && (a.dst_col == b.dst_col)

-- the same source, position in it, and name
abbrev pub have_one_original : RawToken → RawToken → Bool
have_one_original a b =
    (((a.src_id == b.src_id) && (a.src_line == b.src_line)) && (a.src_col == b.src_col)) && (a.name_id == b.name_id)

-- the token before is at the same generated position, and has another original
abbrev pub has_two_originals : (before : Option RawToken) → RawToken → Bool
has_two_originals before t = option_map_or (λ b. are_at_one_position b t && not (have_one_original b t)) before false

-- the source of the token has a text, but no such line
abbrev pub is_past_source : MapValue → Files → RawToken → Bool
is_past_source m files t =
    option_map_or (λ text. is_none (slice_get (line_bodies text) t.src_line)) (source_text m files t.src_id) false

-- the line that the original position is on, if the source has a text with such a line
abbrev pub original_line : MapValue → Files → RawToken → Option (List ℕ)
original_line m files t = line_of m files t.src_id t.src_line

-- a line has fewer UTF-16 units than the column
abbrev pub is_past_line : List ℕ → ℕ → Bool
is_past_line line column = is_none (column_offset line column)

-- a column is in the middle of a surrogate pair: the first end of a character that is not before it is after it
abbrev pub splits_pair : List ℕ → ℕ → Bool
splits_pair line column =
    option_map_or (λ offset. nat_lt column (width (chars (take offset line)))) (column_offset line column) false

-- a text stands in a line at a column
abbrev pub stands_at : List ℕ → ℕ → List ℕ → Bool
stands_at line column text =
    option_map_or (λ offset. starts_with nat_eq (drop offset line) text) (column_offset line column) false

-- the token has a name, which does not stand at its column of the line. 1,024 bytes of it are compared
abbrev pub has_other_name : MapValue → List ℕ → RawToken → Bool
has_other_name m line t = option_map_or (λ name. not (stands_at line t.src_col (take 1024 name))) (name_of m t.name_id) false

-- a token looks wrong in a way that its original line shows
abbrev pub looks_wrong_in_line : Doubt → MapValue → List ℕ → RawToken → Bool
looks_wrong_in_line TwoOriginals m line t = false
looks_wrong_in_line PastSource m line t = false
looks_wrong_in_line PastLine m line t = is_past_line line t.src_col
looks_wrong_in_line WithinPair m line t = splits_pair line t.src_col
looks_wrong_in_line OtherName m line t = has_other_name m line t

abbrev pub in_original_line : Doubt → MapValue → Files → RawToken → Bool
in_original_line doubt m files t =
    option_map_or (λ line. looks_wrong_in_line doubt m line t) (original_line m files t) false

-- a token looks wrong. `before` is the token before it
abbrev pub looks_wrong : Doubt → MapValue → Files → (before : Option RawToken) → RawToken → Bool
looks_wrong TwoOriginals m files before t = has_two_originals before t
looks_wrong PastSource m files before t = is_past_source m files t
looks_wrong PastLine m files before t = in_original_line PastLine m files t
looks_wrong WithinPair m files before t = in_original_line WithinPair m files t
looks_wrong OtherName m files before t = in_original_line OtherName m files t

-- the token before the one with this index; none is before the first
abbrev pub token_before : MapValue → ℕ → Option RawToken
token_before m zero = None
token_before m (suc i) = slice_get m.tokens i

-- the token with this index looks wrong
abbrev pub is_doubtful : Doubt → MapValue → Files → ℕ → Bool
is_doubtful doubt m files i =
    option_map_or (λ t. looks_wrong doubt m files (token_before m i) t) (slice_get m.tokens i) false

-- the indexes below a number at which a test holds
abbrev pub marked : (ℕ → Bool) → ℕ → List ℕ
marked test zero = []
marked test (suc i) = marked test i ++ cond (test i) (i ∷ []) []

-- the first `most` of these indexes, and how many there are
pub record ArePlaces (most : ℕ) (all : List ℕ) (places : Places) : Type 0 where
  pub first : places.first.items ≡ take most all
  pub count : places.count ≡ length all
