-- When a token of a regular map does not fit the generated text.
use Rattle.std.specs.Prelude.{◌≡◌, ℕ, Bool, false, is_none, List, Option, Some, None, slice_get}
use Rattle.std.specs.Option.{option_map_or}
use Rattle.sourcemap_tokens.specs.declared.tokens.RawToken.{RawToken}
use Rattle.sourcemap_source_views.specs.Columns.{column_offset, reached_offset}
use Rattle.sourcemap_source_views.specs.Lines.{line_bodies}
use Rattle.sourcemap_map_regular.specs.Map.{MapValue}
use Rattle.sourcemap_check_texts.specs.Doubts.{is_past_line, splits_pair}
use Rattle.sourcemap_check_texts.specs.declared.generated.GeneratedDoubt.{GeneratedDoubt}
use Rattle.sourcemap_check_texts.specs.declared.generated.GeneratedDoubt.TheVariants.{PastText, PastLine, WithinPair}
use Rattle.sourcemap_check_texts.specs.declared.spots.Spot.{Spot}

-- the line that the generated position is on, if the text has such a line
abbrev pub generated_line : List ℕ → RawToken → Option (List ℕ)
generated_line text t = slice_get (line_bodies text) t.dst_line

-- a token does not fit the generated text
abbrev pub misses_text : GeneratedDoubt → List ℕ → RawToken → Bool
misses_text PastText text t = is_none (generated_line text t)
misses_text PastLine text t = option_map_or (λ line. is_past_line line t.dst_col) (generated_line text t) false
misses_text WithinPair text t = option_map_or (λ line. splits_pair line t.dst_col) (generated_line text t) false

-- the token with this index does not fit the generated text
abbrev pub is_misplaced : GeneratedDoubt → List ℕ → MapValue → ℕ → Bool
is_misplaced doubt text m i = option_map_or (λ t. misses_text doubt text t) (slice_get m.tokens i) false

-- a spot is that of a token's generated position: its line, and the offset of its column
pub record IsSpotOf (text : List ℕ) (t : RawToken) (spot : Spot) : Type 0 where
  pub line : generated_line text t ≡ Some spot.line.now
  pub at : reached_offset t.dst_col spot.at.offset spot.at.units ≡ column_offset spot.line.now t.dst_col

abbrev pub IsSpot : List ℕ → RawToken → Option Spot → Type 0
IsSpot text t None = generated_line text t ≡ None
IsSpot text t (Some spot) = IsSpotOf text t spot
