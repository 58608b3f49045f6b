-- Mappings and range bits as texts, which need no escapes in JSON.
use Rattle.std.specs.Prelude.{◌≡◌, ℕ, ◌<◌, ◌^◌, ◌-◌, max, List, [], ◌∷◌, ◌++◌, replicate, Bool, Option, Ok}
use Rattle.std.specs.List.{AllByRecursion}
use Rattle.std.specs.Option.{option_map_or}
use Rattle.json.specs.Print.{escape_byte}
use Rattle.sourcemap_vlq.specs.Bits.{IsBitText}
use Rattle.sourcemap_tokens.specs.declared.tokens.RawToken.{RawToken}
use Rattle.sourcemap_tokens.specs.Tokens.{AllWithin, reduced, without_repeats}
use Rattle.sourcemap_mappings.specs.Read.{MappingsAnswer}
use Rattle.sourcemap_mappings.specs.Segment.{semicolon}
use Rattle.sourcemap_mappings.specs.Write.{IsWritten, LineByLine, IsRangeLine, IsRangeText}
use Rattle.sourcemap_mappings.specs.WriteSteps.{at_line}

-- an ASCII byte that needs no escape in JSON
abbrev pub IsPlainByte : ℕ → Type 0
IsPlainByte c = (c < 128) × (escape_byte c ≡ c ∷ [])

abbrev pub IsPlainText : List ℕ → Type 0
IsPlainText text = AllByRecursion IsPlainByte text

-- the `mappings` text of these tokens in a map with `names` names. The text needs no escape in JSON. Let `sources` be
-- the number of sources, below 2^32, and let `AllWithin sources names tokens` hold. Let `ranges` be the `rangeMappings`
-- text of the tokens, or `None` if no token is a range token (`IsRangeText`). Then `text` and `ranges` decode to
-- `reduced names tokens`, where `None` counts as the empty text
pub record IsMappingsText (names : ℕ) (tokens : List RawToken) (text : List ℕ) : Type 0 where
  pub written : IsWritten names tokens text
  pub is_plain : IsPlainText text
  pub back : (sources : ℕ) → sources < 2 ^ 32 → AllWithin sources names tokens → (ranges : Option (List ℕ))
      → IsRangeText tokens ranges
      → MappingsAnswer text (option_map_or (λ bits. bits) ranges []) (record { sources = sources; names = names })
      (Ok (reduced names tokens))

-- the encoded range flags of these tokens: one part for each line (`LineByLine`). A token that equals the token before
-- it has no flag. The text needs no escape in JSON. If no token is a range token, every part is empty. Then
-- `IsRangeText` does not hold for this text, but only for `None`
pub record IsBitsText (tokens : List RawToken) (text : List ℕ) : Type 0 where
  pub written : LineByLine (IsRangeLine (without_repeats tokens)) tokens text
  pub is_plain : IsPlainText text

-- the bits of a line, followed by `ends` semicolons
abbrev pub IsLineOfBits : List Bool → ℕ → List ℕ → Type 0
IsLineOfBits flags ends text = (bits : List ℕ) × IsBitText flags bits × (text ≡ bits ++ replicate ends semicolon)

-- the token that a segment is relative to, once the empty lines before line n have ended: on the line before n, or on
-- its own line if there are no such lines
abbrev pub before_line : RawToken → ℕ → RawToken
before_line against n = at_line against (max against.dst_line (n - 1))
