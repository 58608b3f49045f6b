-- Base64 VLQ numbers. Each digit has five data bits and a continuation bit. The first digit has the least significant
-- data bits. The continuation bit is worth 32. It is set if another digit follows.
use Rattle.std.specs.Prelude.{◌≡◌, ◌≢◌, ℕ, ◌+◌, ◌-◌, ◌*◌, ◌/◌, ◌%◌, ◌^◌, ◌<◌, ◌≤◌, ◌==◌, ◌&&◌, nat_lt, nat_le}
use Rattle.std.specs.Prelude.{if◌then◌else◌, List, [], ◌∷◌, ◌++◌, length, Option, Some, None, unwrap_or, Result, Ok}
use Rattle.std.specs.Prelude.{Err, ℤ, pos, unsigned_abs, Any}
use Rattle.std.specs.List.{AllByRecursion}
use lib.IntN.{neg_ℤ}
use Rattle.sourcemap_errors.specs.declared.errors.Error.{Error}
use Rattle.sourcemap_errors.specs.declared.errors.Error.TheVariants.{VlqLeftover, VlqNoValues, VlqOverflow}
use Rattle.sourcemap_errors.specs.declared.errors.Error.TheVariants.{InvalidBase64}

-- the value of a digit: `A` to `Z`, `a` to `z`, `0` to `9`, `+` and `/`; `None` for any other byte
unfoldable pub digit_value : ℕ → Option ℕ
digit_value c =
    if nat_le 65 c && nat_le c 90 then Some (c - 65)
    else if nat_le 97 c && nat_le c 122 then Some (c - 71)
    else if nat_le 48 c && nat_le c 57 then Some (c + 4)
    else if c == 43 then Some 62
    else if c == 47 then Some 63
    else None

-- the digit of a value below 64
unfoldable pub glyph : ℕ → ℕ
glyph v =
    if nat_lt v 26 then v + 65
    else if nat_lt v 52 then v + 71
    else if nat_lt v 62 then v - 4
    else if v == 62 then 43
    else 47

-- a digit with the continuation bit
abbrev pub HasContinuation : ℕ → Type 0
HasContinuation c = (v : ℕ) × (digit_value c ≡ Some v) × (32 ≤ v)

-- the last digit of a number: a digit without the continuation bit
abbrev pub IsLast : ℕ → Type 0
IsLast c = (v : ℕ) × (digit_value c ≡ Some v) × (v < 32)

-- the five data bits of a digit
abbrev pub data_of : ℕ → ℕ
data_of c = unwrap_or (digit_value c) 0 % 32

-- the data bits of all digits as one number, the first digit the least significant
abbrev pub raw_of : List ℕ → ℕ
raw_of [] = 0
raw_of (c ∷ cs) = data_of c + 32 * raw_of cs

-- the lowest bit of a raw value is the sign, the others are the absolute value
abbrev pub number_of : ℕ → ℤ
number_of raw = if raw % 2 == 0 then pos (raw / 2) else neg_ℤ (pos (raw / 2))

-- there is at least one digit, and each digit has the continuation bit, except for the last
abbrev pub IsChain : List ℕ → Type 0
IsChain [] = ⊥
IsChain (c ∷ []) = IsLast c
IsChain (c ∷ d ∷ cs) = HasContinuation c × IsChain (d ∷ cs)

-- at most thirteen digits, whose raw value is below 2 ^ 63
pub record FitsOneNumber (digits : List ℕ) : Type 0 where
  pub few : length digits ≤ 13
  pub small : raw_of digits < 2 ^ 63

-- the digits of one number
pub record IsGroup (digits : List ℕ) (number : ℤ) : Type 0 where
  pub chain : IsChain digits
  pub fits : FitsOneNumber digits
  pub value : number ≡ number_of (raw_of digits)

-- a text is the concatenation of digits of these numbers; the digits need not be the shortest: `gA` and `B` are 0 too
abbrev pub Reads : List ℕ → List ℤ → Type 0
Reads text [] = text ≡ []
Reads text (n ∷ ns) = (group rest : List ℕ) × IsGroup group n × (text ≡ group ++ rest) × Reads rest ns

-- zero or more digits that all have the continuation bit and do not overflow (`FitsOneNumber`)
pub record IsUnfinished (part : List ℕ) : Type 0 where
  pub continues : AllByRecursion HasContinuation part
  pub fits : FitsOneNumber part

-- a text begins with the digits `part` of an unfinished number, and the byte c comes next
pub record GoesTo (text part : List ℕ) (c : ℕ) : Type 0 where
  pub more : List ℕ
  pub split : text ≡ part ++ c ∷ more
  pub unfinished : IsUnfinished part

-- the first number of a text has this error; an empty text has the error `VlqLeftover`
abbrev pub NumberError : List ℕ → Error → Type 0
NumberError text (InvalidBase64 c) = (part : List ℕ) × GoesTo text part c × (digit_value c ≡ None)
NumberError text VlqOverflow =
    (part : List ℕ) × (c : ℕ) × GoesTo text part c × (digit_value c ≢ None) × ¬ FitsOneNumber (part ++ c ∷ [])
NumberError text VlqLeftover = IsUnfinished text
NumberError text _ = ⊥

-- a text is the digits of a number followed by `rest`
pub record BeginsWith (text : List ℕ) (number : ℤ) (rest : List ℕ) : Type 0 where
  pub group : List ℕ
  pub is_group : IsGroup group number
  pub split : text ≡ group ++ rest

-- a text is the digits of zero or more numbers, followed by `rest`
pub record IsSound (text rest : List ℕ) : Type 0 where
  pub front : List ℕ
  pub numbers : List ℤ
  pub reads : Reads front numbers
  pub split : text ≡ front ++ rest

-- the first error of a text
abbrev pub HasError : List ℕ → Error → Type 0
HasError text VlqNoValues = text ≡ []
HasError text e = (rest : List ℕ) × IsSound text rest × (rest ≢ []) × NumberError rest e

-- the result of decoding a segment: at least one number, or the first error
abbrev pub SegmentAnswers : List ℕ → Result (List ℤ) Error → Type 0
SegmentAnswers text (Ok numbers) = Reads text numbers × (numbers ≢ [])
SegmentAnswers text (Err e) = HasError text e

-- the shortest digit sequence of a number; the sequence of 0 is `A`, not `B`, because `B` has the sign bit
pub record IsShortest (digits : List ℕ) (number : ℤ) : Type 0 where
  pub is_group : IsGroup digits number
  pub shortest : (other : List ℕ) → IsGroup other number → length digits ≤ length other
  pub unsigned_zero : raw_of digits ≢ 1

-- a text is the concatenation of the shortest digits of each number
abbrev pub Spells : List ℤ → List ℕ → Type 0
Spells [] text = text ≡ []
Spells (n ∷ ns) text = (group rest : List ℕ) × IsShortest group n × (text ≡ group ++ rest) × Spells ns rest

-- the absolute value of the number is 2^62 or more
abbrev pub IsTooLarge : ℤ → Type 0
IsTooLarge n = 2 ^ 62 ≤ unsigned_abs n

-- the result of encoding numbers: their digits, or `VlqOverflow` if one is too large
abbrev pub SpellingAnswers : List ℤ → Result (List ℕ) Error → Type 0
SpellingAnswers numbers (Ok text) = Spells numbers text
SpellingAnswers numbers (Err VlqOverflow) = Any IsTooLarge numbers
SpellingAnswers numbers (Err _) = ⊥
