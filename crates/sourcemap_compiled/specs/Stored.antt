-- The values that contracts see of the types in `src`.
use Rattle.std.specs.Prelude.{◌≡◌, ℕ, ◌+◌, ◌-◌, ◌*◌, ◌/◌, ◌%◌, ◌^◌, ◌<◌, ◌≤◌, List}
use Rattle.sourcemap_compiled.specs.Blocks.{position_in, token_in}
use Rattle.sourcemap_tokens.specs.declared.tokens.RawToken.{RawToken}
use Rattle.sourcemap_compiled.specs.Lookup.{CompiledMeaning, CompiledTokenValue, says}
use Rattle.sourcemap_compiled.specs.Numbers.{bits_at, position_number}
use Rattle.sourcemap_compiled.specs.declared.blocks.Bracket.{Bracket}
use Rattle.sourcemap_compiled.specs.declared.blocks.Field.{Field}
use Rattle.sourcemap_compiled.specs.declared.blocks.Positions.{Positions}
use Rattle.sourcemap_compiled.specs.declared.map.CompiledMap.{CompiledMap}
use Rattle.sourcemap_compiled.specs.declared.token.CompiledToken.{CompiledToken}

-- the bytes of the file
abbrev pub bytes_of : CompiledMap → List ℕ
bytes_of map = map.bytes.now

abbrev pub token_value : CompiledToken → CompiledTokenValue
token_value t = record { bytes = bytes_of t.map; raw = t.raw; index = t.index; extra_columns = t.extra_columns }

-- the meaning of a token: what its getters return
abbrev pub meaning_of_token : CompiledToken → CompiledMeaning
meaning_of_token t = says (token_value t)

-- the number of a field at a place
abbrev pub number_in : Field → ℕ → ℕ
number_in field place = bits_at field.bytes.now field.start (place * field.width) field.width

-- the position at a place, as one number
abbrev pub position_by : Positions → ℕ → ℕ
position_by p place =
    position_number ((p.line + number_in p.lines place) % 2 ^ 32, (p.column + number_in p.columns place) % 2 ^ 32)

-- the token at a place of the block with this start and head, with its generated position given as one number
abbrev pub placed_token : List ℕ → (start head place position : ℕ) → RawToken
placed_token bytes start head place position = record (token_in bytes (start / 2 ^ 32) head place) {
  dst_line = position / 2 ^ 32;
  dst_col = position % 2 ^ 32;
}

-- a position, if it is on the searched line; otherwise a number on the same side of this line
pub record IsNear (exact searched near : ℕ) : Type 0 where
  pub same : exact / 2 ^ 32 ≡ searched → near ≡ exact
  pub earlier : exact / 2 ^ 32 < searched → near / 2 ^ 32 < searched
  pub later : searched < exact / 2 ^ 32 → searched < near / 2 ^ 32

-- a bracket of a position among the first `size` tokens of the block with this start and head: the token at its index is
-- at or after the position, and the token ahead of it is before the position. `after` stands for the position at `size`
pub record IsBracket (bytes : List ℕ) (start head size position after : ℕ) (found : Bracket) : Type 0 where
  pub within : found.index ≤ size
  pub later : 0 < found.index
  pub first : found.index ≡ 1 → found.ahead ≡ start
  pub ahead : 1 < found.index
      → IsNear (position_in bytes (start / 2 ^ 32) head (found.index - 1)) (position / 2 ^ 32) found.ahead
  pub next : found.index < size
      → IsNear (position_in bytes (start / 2 ^ 32) head found.index) (position / 2 ^ 32) found.next
  pub end : found.index ≡ size → found.next ≡ after
  pub before : found.ahead < position
  pub from : found.index < size → position ≤ found.next
