-- The words of each command.
use Rattle.std.specs.Prelude.{◌≡◌, ℕ, List, [], ◌∷◌, codes}
use Rattle.std.specs.Str.Parse.{IsNumeral, digits_value, without_leading_plus}
use Rattle.sourcemap_bench.specs.declared.command.Operation.{Operation}
use Rattle.sourcemap_bench.specs.declared.command.Operation.TheVariants.{Decode, DecodeReader, Lookup, Tokens, Encode, Rewrite, Flatten, Compose}
use Rattle.sourcemap_bench.specs.declared.command.ViewOperation.{ViewOperation}
use Rattle.sourcemap_bench.specs.declared.command.ViewOperation.TheVariants.{Lines, Names}
use Rattle.sourcemap_bench.specs.declared.command.Command.{Command}
use Rattle.sourcemap_bench.specs.declared.command.Command.TheVariants.{Repeat, RepeatOnView, Split, Write}

abbrev pub word_of : Operation → List ℕ
word_of Decode = codes "decode"
word_of DecodeReader = codes "decode-reader"
word_of Lookup = codes "lookup"
word_of Tokens = codes "tokens"
word_of Encode = codes "encode"
word_of Rewrite = codes "rewrite"
word_of Flatten = codes "flatten"
word_of Compose = codes "compose"

abbrev pub view_word_of : ViewOperation → List ℕ
view_word_of Lines = codes "lines"
view_word_of Names = codes "names"

-- the word is an optional `+`, followed by one or more decimal digits. The value of the digits is `n`
abbrev pub AreRounds : List ℕ → ℕ → Type 0
AreRounds word n = IsNumeral 10 (without_leading_plus word) × (n ≡ digits_value 10 (without_leading_plus word))

-- the words of a command: `write`, or the word or words of an operation and the number of rounds
abbrev pub AskFor : List (List ℕ) → Command → Type 0
AskFor words (Repeat operation n) = (rounds : List ℕ) × (words ≡ word_of operation ∷ rounds ∷ []) × AreRounds rounds n
AskFor words (RepeatOnView operation n) =
    (rounds : List ℕ) × (words ≡ codes "views" ∷ view_word_of operation ∷ rounds ∷ []) × AreRounds rounds n
AskFor words (Split n) =
    (rounds : List ℕ) × (words ≡ codes "bundles" ∷ codes "split" ∷ rounds ∷ []) × AreRounds rounds n
AskFor words Write = words ≡ codes "write" ∷ []
