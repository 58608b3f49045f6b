-- The words of each command.
use Rattle.std.specs.Prelude.{◌≡◌, ◌≢◌, ℕ, ◌+◌, ◌≤◌, List, [], ◌∷◌, codes, string_bytes, Option, IsSome, IsNone}
use Rattle.std.specs.Str.Parse.{IsNumeral, digits_value}
use Rattle.sourcemap_trace.specs.Positions.{first_of}
use Rattle.sourcemap_trace.specs.declared.positions.Counting.{Counting}
use Rattle.sourcemap_trace.specs.declared.positions.Counting.TheVariants.{From0, From1}
use Rattle.sourcemap_cache.specs.declared.parts.WithContents.{WithContents}
use Rattle.sourcemap_cache.specs.declared.parts.WithContents.TheVariants.{Yes, No}
use Rattle.sourcemap_cli.specs.Checking.{IsSameChecking, words_of}
use Rattle.sourcemap_cli.specs.declared.command.Command.{Command}
use Rattle.sourcemap_cli.specs.declared.command.Command.TheVariants.{Lookup, Tokens, Rewrite, Flatten, Compose, Shift, Trace, Compile, Check}

-- the word consists of one or more decimal digits, and its value is `first + n`, with `n` at most 4294967295
abbrev pub IsNumber : (first : ℕ) → List ℕ → ℕ → Type 0
IsNumber first word n = IsNumeral 10 word × (digits_value 10 word ≡ first + n) × (n ≤ 4294967295)

-- the word that says that lines and columns count from 1
abbrev pub from_1 : List ℕ
from_1 = codes "--from-1"

-- the words of a command that names positions: its name, `--from-1` if lines and columns count from 1, and the others
abbrev pub counted_words : List ℕ → Counting → List (List ℕ) → List (List ℕ)
counted_words name From0 others = name ∷ others
counted_words name From1 others = name ∷ from_1 ∷ others

-- the word that leaves the contents of sources out of a compiled map
abbrev pub without_contents : List ℕ
without_contents = codes "--without-contents"

-- the words that compile a map
abbrev pub compile_words : WithContents → List (List ℕ)
compile_words Yes = codes "compile" ∷ []
compile_words No = codes "compile" ∷ without_contents ∷ []

-- these arguments of the program ask for this command. FILE of `trace` is not `--from-1`
abbrev pub AskFor : List (List ℕ) → Command → Type 0
AskFor words (Lookup counting line col) = (l c : List ℕ)
    × (words ≡ counted_words (codes "lookup") counting (l ∷ c ∷ []))
    × IsNumber (first_of counting) l line × IsNumber (first_of counting) c col
AskFor words Tokens = words ≡ codes "tokens" ∷ []
AskFor words Rewrite = words ≡ codes "rewrite" ∷ []
AskFor words Flatten = words ≡ codes "flatten" ∷ []
AskFor words (Compose path) = words ≡ codes "compose" ∷ string_bytes path ∷ []
AskFor words (Shift rows) = (r : List ℕ) × (words ≡ codes "shift" ∷ r ∷ []) × IsNumber 0 r rows
AskFor words (Trace counting path) = (words ≡ counted_words (codes "trace") counting (string_bytes path ∷ []))
    × (string_bytes path ≢ from_1)
AskFor words (Compile contents) = words ≡ compile_words contents
AskFor words (Check checking) = words ≡ codes "check" ∷ words_of checking

-- two commands are equal; the buffers of their paths may differ in capacity
abbrev pub IsSameCommand : Command → Command → Type 0
IsSameCommand (Compose path) (Compose other) = string_bytes path ≡ string_bytes other
IsSameCommand (Trace counting path) (Trace counting' other) =
    (counting ≡ counting') × (string_bytes path ≡ string_bytes other)
IsSameCommand (Check checking) (Check other) = IsSameChecking checking other
IsSameCommand a b = a ≡ b

-- `compose` takes a second map, and no other command does
abbrev pub TakesAdjustment : {X : Type 0} → Command → Option X → Type 0
TakesAdjustment (Compose _) adjustment = IsSome adjustment
TakesAdjustment _ adjustment = IsNone adjustment

-- a command that needs only maps: all but `trace`, which also needs positions
abbrev pub IsOfMaps : Command → Type 0
IsOfMaps (Trace _ _) = ⊥
IsOfMaps _ = Unit {0}

-- a command that asks a map for original positions
abbrev pub IsQuestion : Command → Type 0
IsQuestion (Lookup _ _ _) = Unit {0}
IsQuestion (Trace _ _) = Unit {0}
IsQuestion _ = ⊥
