-- Steps along the tokens of a JSON text.
use Rattle.std.specs.Prelude.{◌≡◌, ℕ, ◌+◌, true, IsTrue, List, [], ◌∷◌, Some, drop, string_bytes, refl}
use Rattle.std.specs.Prelude as prelude
use Rattle.std.specs.Coded.{Coded, code_by, coded×, coded_list, coded_ℕ}
use Rattle.json.specs.Token as token
use Rattle.json.specs.Lex as grammar
use Rattle.json.specs.Lex.{between, lex, may_begin, may_close, punctuate}
use Rattle.serde_json.specs.Read.{number_of}
use Rattle.serde_json.specs.View.{number_view}
use Rattle.sourcemap_json_read.specs.Words.{IsWordAt}
use Rattle.sourcemap_json_read.specs.declared.cursor.Step.{Step}
use Rattle.sourcemap_json_read.specs.declared.cursor.Step.TheVariants.{BeginObject, EndObject, BeginArray, EndArray}
use Rattle.sourcemap_json_read.specs.declared.cursor.Step.TheVariants.{Key, Text, Number, Bool, Null, End}
use Rattle.sourcemap_json_read.specs.declared.cursor.State.{State}
use Rattle.sourcemap_json_read.specs.declared.cursor.State.TheVariants.{Fresh, AfterValue, AfterComma}
use Rattle.sourcemap_json_read.specs.declared.cursor.Position.{Position}

-- the remaining tokens and bytes of a JSON text
pub record Remaining : Type 0 where
  pub tokens : List token.Token
  pub bytes : List ℕ

abbrev pub remaining_code : Coded Remaining
remaining_code = code_by (List token.Token × List ℕ) (coded× token.tokens_code (coded_list coded_ℕ)) (λ r. (
  r.tokens,
  r.bytes,
)) (λ p. record { tokens = p.0; bytes = p.1 }) (λ _. refl)

-- the step is the first token of `old`, and `new` has the tokens after it. The step has the text of a key or a string
-- if `keeps` is true. If the step is `End`, `old` and `new` have no tokens, and `new` has no bytes
abbrev pub Takes : prelude.Bool → Remaining → Step → Remaining → Type 0
Takes keeps old BeginObject new = old.tokens ≡ token.begin_object ∷ new.tokens
Takes keeps old EndObject new = old.tokens ≡ token.end_object ∷ new.tokens
Takes keeps old BeginArray new = old.tokens ≡ token.begin_array ∷ new.tokens
Takes keeps old EndArray new = old.tokens ≡ token.end_array ∷ new.tokens
Takes keeps old (Key s) new =
    (text : List ℕ) × (old.tokens ≡ token.key text ∷ new.tokens) × (IsTrue keeps → text ≡ string_bytes s)
Takes keeps old (Text s) new =
    (text : List ℕ) × (old.tokens ≡ token.string text ∷ new.tokens) × (IsTrue keeps → text ≡ string_bytes s)
Takes keeps old (Number n) new =
    (digits : List ℕ) × (old.tokens ≡ token.number digits ∷ new.tokens) × (number_of digits ≡ Some (number_view n))
Takes keeps old (Bool b) new = old.tokens ≡ token.boolean b ∷ new.tokens
Takes keeps old Null new = old.tokens ≡ token.null ∷ new.tokens
Takes keeps old End new = (old.tokens ≡ []) × (new.tokens ≡ []) × (new.bytes ≡ [])

abbrev pub grammar_state : State → grammar.Place
grammar_state Fresh = grammar.fresh
grammar_state AfterValue = grammar.after_value
grammar_state AfterComma = grammar.after_comma

-- the tokens of a text from a position on
abbrev pub tokens_from : List ℕ → Position → List token.Token
tokens_from text position = punctuate (grammar_state position.state) (lex between (drop position.at text))

-- the tokens and bytes of a text from a position on
abbrev pub remaining_from : List ℕ → Position → Remaining
remaining_from text position = record { tokens = tokens_from text position; bytes = drop position.at text }

-- the step moves from one position of a text to another
abbrev pub IsStep : prelude.Bool → List ℕ → Position → Step → Position → Type 0
IsStep keeps text position step after = Takes keeps (remaining_from text position) step (remaining_from text after)

-- an opening bracket is allowed at `position`, and `after` is the position after its one byte
abbrev pub Opens : Position → Position → Type 0
Opens position after =
    (may_begin (grammar_state position.state) ≡ true) × (after ≡ record { at = position.at + 1; state = Fresh })

-- a closing bracket is allowed at `position`, and `after` is the position after its one byte
abbrev pub Closes : Position → Position → Type 0
Closes position after =
    (may_close (grammar_state position.state) ≡ true) × (after ≡ record { at = position.at + 1; state = AfterValue })

-- `word` is at `position` and is allowed there, and `after` is the position after the word
abbrev pub PassesWord : List ℕ → Position → List ℕ → Position → Type 0
PassesWord text position word after = (may_begin (grammar_state position.state) ≡ true)
    × IsWordAt text position.at word after.at × (after.state ≡ AfterValue)
