-- The tokens of a text from a position on. If a bracket, a key, a string or a word begins at the position and is
-- allowed at the position, the first token is the token of this bracket, key, string or word. The other tokens are the
-- tokens from a later position on.
use Rattle.std.proofs.Common.{◌≡◌, ◌≢◌, ◌≤◌, ℕ, ◌+◌, true, List, ◌∷◌, drop, length, Some, sym, ap, ◌∙◌}
use Rattle.std.proofs.lemmas.List.{drop-drop, drop_all}
use Rattle.json.specs.Token.{Token, begin_object, end_object, begin_array, end_array, key, string}
use Rattle.json.specs.Text.{content, plain}
use Rattle.json.specs.Word.{head, is_space}
use Rattle.json.specs.Lex.{token, between, in_string, lex, fresh, after_value, may_begin, punctuate}
use Rattle.sourcemap_json_read.specs.declared.cursor.State.{State}
use Rattle.sourcemap_json_read.specs.declared.cursor.State.TheVariants.{Fresh, AfterValue}
use Rattle.sourcemap_json_read.specs.declared.cursor.Position.{Position}
use Rattle.sourcemap_json_read.specs.Cursor.{grammar_state, tokens_from, Opens, Closes, PassesWord}
use Rattle.sourcemap_json_read.proofs.Lexemes.{opens_object as opens_object_there, opens_array as opens_array_there}
use Rattle.sourcemap_json_read.proofs.Lexemes.{closes_object as closes_object_there, closes_array as closes_array_there}
use Rattle.sourcemap_json_read.proofs.Lexemes.{IsString, IsValue, IsWordOf, key_token, value_string_token}

one_on : (text : List ℕ) (state : State) (at : ℕ) → punctuate (grammar_state state) (lex between
    (drop 1 (drop at text))) ≡ tokens_from text (record { at = at + 1; state = state })
one_on text state at = ap (λ t. punctuate (grammar_state state) (lex between t)) (drop-drop 1 at text)

after_opening : (text : List ℕ) (t : Token) (position after : Position) → Opens position after
    → t ∷ punctuate fresh (lex between (drop 1 (drop position.at text))) ≡ t ∷ tokens_from text after
after_opening text t position after o =
    ap (λ ts. t ∷ ts) (one_on text Fresh position.at ∙ sym (ap (tokens_from text) o.1))

after_closing : (text : List ℕ) (t : Token) (position after : Position) → Closes position after
    → t ∷ punctuate after_value (lex between (drop 1 (drop position.at text))) ≡ t ∷ tokens_from text after
after_closing text t position after o =
    ap (λ ts. t ∷ ts) (one_on text AfterValue position.at ∙ sym (ap (tokens_from text) o.1))

pub opens_object : (text : List ℕ) (position after : Position) → head (drop position.at text) ≡ 123
    → Opens position after → tokens_from text position ≡ begin_object ∷ tokens_from text after
opens_object text position after e o =
    opens_object_there _ (drop position.at text) e o.0 ∙ after_opening text _ position after o

pub opens_array : (text : List ℕ) (position after : Position) → head (drop position.at text) ≡ 91 → Opens position after
    → tokens_from text position ≡ begin_array ∷ tokens_from text after
opens_array text position after e o =
    opens_array_there _ (drop position.at text) e o.0 ∙ after_opening text _ position after o

pub closes_object : (text : List ℕ) (position after : Position) → head (drop position.at text) ≡ 125
    → Closes position after → tokens_from text position ≡ end_object ∷ tokens_from text after
closes_object text position after e o =
    closes_object_there _ (drop position.at text) e o.0 ∙ after_closing text _ position after o

pub closes_array : (text : List ℕ) (position after : Position) → head (drop position.at text) ≡ 93
    → Closes position after → tokens_from text position ≡ end_array ∷ tokens_from text after
closes_array text position after e o =
    closes_array_there _ (drop position.at text) e o.0 ∙ after_closing text _ position after o

-- a string that begins at `position`, is allowed there and decodes to `s`; the lexemes after it are those from `at` on
pub record IsStringAt (text : List ℕ) (position : Position) (s : List ℕ) (at : ℕ) : Type 0 where
  pub opens : head (drop position.at text) ≡ 34
  pub may : may_begin (grammar_state position.state) ≡ true
  pub found : content plain (drop (position.at + 1) text) ≡ Some s
  pub after : lex between (drop at text) ≡ lex in_string (drop (position.at + 1) text)

is_string : (text : List ℕ) (position : Position) (s : List ℕ) (at : ℕ) → IsStringAt text position s at
    → IsString (drop position.at text) s (drop at text)
is_string text position s at is =
    let next = drop-drop 1 position.at text in
    record {
      opens = is.opens;
      content = ap (content plain) next ∙ is.found;
      after = is.after ∙ sym (ap (lex in_string) next);
    }

pub key_at : (text : List ℕ) (position : Position) (s : List ℕ) (at : ℕ)
    → IsStringAt text position s at → head (drop at text) ≡ 58
    → tokens_from text position ≡ key s ∷ tokens_from text (record { at = at + 1; state = Fresh })
key_at text position s at is e =
    key_token _ _ s _ (is_string text position s at is) is.may e ∙ ap (λ ts. key s ∷ ts) (one_on text Fresh at)

pub string_at : (text : List ℕ) (position : Position) (s : List ℕ) (at : ℕ) → IsStringAt text position s at
    → (is_space (head (drop at text)) ≡ true → length text ≤ at) → head (drop at text) ≢ 58
    → tokens_from text position ≡ string s ∷ tokens_from text (record { at = at; state = AfterValue })
string_at text position s at is passed other_byte =
    value_string_token _ _ s _ (is_string text position s at is) is.may (λ e. drop_all at text (passed e)) other_byte

pub word_at : (text word : List ℕ) (t : Token) (position after : Position) → PassesWord text position word after
    → IsWordOf t word → IsValue t → tokens_from text position ≡ t ∷ tokens_from text after
word_at text word t position after h is value =
    let lexeme : lex between (drop position.at text) ≡ token t ∷ lex between (drop after.at text) =
    ap (lex between) h.1.0 ∙ is (drop after.at text) h.1.1 in
    ap (punctuate (grammar_state position.state)) lexeme ∙ value (grammar_state position.state) _ h.0
    ∙ ap (λ state. t ∷ punctuate (grammar_state state) (lex between (drop after.at text))) (sym h.2)
