-- The lexemes and the tokens of a text, by the first byte of the text.
use Rattle.std.proofs.Common.{◌≡◌, ◌≢◌, ◌+◌, ◌<◌, ℕ, Bool, true, false, cond, ◌==◌, List, [], ◌∷◌, ◌++◌, Some, ⊎_elim}
use Rattle.std.proofs.Common.{drop, refl, sym, ap, ◌∙◌, arith}
use Rattle.std.proofs.lemmas.List.{drop-drop}
use Rattle.std.proofs.lemmas.Bool.Decides.{nat_tests}
use Rattle.std.proofs.lemmas.Bool.{true≢false, false≢true, eqb-true, or_cases, cases_Bool}
use Rattle.json.specs.Token.{Token, begin_object, end_object, begin_array, end_array, key, string, number, boolean}
use Rattle.json.specs.Token.{null, bad}
use Rattle.json.specs.Text.{content, plain}
use Rattle.json.specs.Word.{head, word, is_operator, is_space, ends_word}
use Rattle.json.specs.Ascii.{true_text, false_text, null_text}
use Rattle.json.specs.Lex.{Lexeme, token, Class, quote, backslash, operator, space, other, class, operator_lexeme}
use Rattle.json.specs.Lex.{string_token, Mode, between, in_word, in_string, lex_byte, lex}
use Rattle.json.specs.Lex.{Place, fresh, after_value, after_comma, after_key, may_begin, may_close, if_allowed}
use Rattle.json.specs.Lex.{place_token, begins_colon, punctuate}

-- ---- classes of bytes

is_in : (k : Class) (x c : ℕ) → class c ≡ k → (x == c) ≡ true → class x ≡ k
is_in k x c is e = ap class (eqb-true x c e) ∙ is

space_class : (x : ℕ) → is_space x ≡ true → class x ≡ space
space_class x e =
    let is = is_in space x in
    ⊎_elim (λ e. ⊎_elim (λ e. ⊎_elim (is 32 refl) (is 9 refl) (or_cases _ _ e)) (is 10 refl) (or_cases _ _ e))
    (is 13 refl) (or_cases _ _ e)

operator_class : (x : ℕ) → is_operator x ≡ true → class x ≡ operator
operator_class x e =
    let is = is_in operator x in
    ⊎_elim (λ e. ⊎_elim (λ e. ⊎_elim (λ e. ⊎_elim (λ e. ⊎_elim (is 123 refl) (is 125 refl) (or_cases _ _ e))
    (is 91 refl) (or_cases _ _ e)) (is 93 refl) (or_cases _ _ e)) (is 58 refl) (or_cases _ _ e)) (is 44 refl)
    (or_cases _ _ e)

-- ---- lexemes

nothing : (m : Mode) → lex m [] ≡ []
unfolding lex
nothing m = refl

at_operator : (c : ℕ) (t : List ℕ) → class c ≡ operator → head t ≡ c
    → lex between t ≡ operator_lexeme c ∷ lex between (drop 1 t)
unfolding lex
at_operator c [] k e = cc (ap class e)
at_operator c (x ∷ xs) k e = rw (e, k) refl

abbrev is_quote_class : Class → Bool
is_quote_class quote = true
is_quote_class backslash = false
is_quote_class operator = false
is_quote_class space = false
is_quote_class other = false

at_quote : (t : List ℕ) → head t ≡ 34
    → lex between t ≡ token (string_token (content plain (drop 1 t))) ∷ lex in_string (drop 1 t)
unfolding lex
at_quote [] e = absurd (false≢true (ap (λ x. is_quote_class (class x)) e))
at_quote (x ∷ xs) e = rw e refl

at_space : (t : List ℕ) → is_space (head t) ≡ true → lex between (drop 1 t) ≡ lex between t
unfolding lex
at_space [] e = refl
at_space (x ∷ xs) e = rw (space_class x e) refl

pub space_is_ascii : (x : ℕ) → is_space x ≡ true → x < 128
space_is_ascii x white = grind (arith, nat_tests)

pub space_passed : (text : List ℕ) (at : ℕ) → is_space (head (drop at text)) ≡ true
    → lex between (drop (at + 1) text) ≡ lex between (drop at text)
space_passed text at white = ap (lex between) (sym (drop-drop 1 at text)) ∙ at_space (drop at text) white

at_word_end : (t : List ℕ) → ends_word t ≡ true → lex in_word t ≡ lex between t
unfolding lex
at_word_end [] e = refl
at_word_end (x ∷ xs) e = ⊎_elim (λ e. rw (operator_class x e) refl) (λ e. rw (space_class x e) refl) (or_cases _ _ e)

-- ---- tokens

allowed : (b : Bool) (t : Token) (k : Place → List Token) (next : Place) → b ≡ true → if_allowed b t k next ≡ t ∷ k next
allowed b t k next e = ap (λ b. if_allowed b t k next) e

pub opens_object : (p : Place) (t : List ℕ) → head t ≡ 123 → may_begin p ≡ true
    → punctuate p (lex between t) ≡ begin_object ∷ punctuate fresh (lex between (drop 1 t))
unfolding punctuate
opens_object p t e may = ap (punctuate p) (at_operator 123 t refl e) ∙ allowed (may_begin p) begin_object _ _ may

pub opens_array : (p : Place) (t : List ℕ) → head t ≡ 91 → may_begin p ≡ true
    → punctuate p (lex between t) ≡ begin_array ∷ punctuate fresh (lex between (drop 1 t))
unfolding punctuate
opens_array p t e may = ap (punctuate p) (at_operator 91 t refl e) ∙ allowed (may_begin p) begin_array _ _ may

pub closes_object : (p : Place) (t : List ℕ) → head t ≡ 125 → may_close p ≡ true
    → punctuate p (lex between t) ≡ end_object ∷ punctuate after_value (lex between (drop 1 t))
unfolding punctuate
closes_object p t e may = ap (punctuate p) (at_operator 125 t refl e) ∙ allowed (may_close p) end_object _ _ may

pub closes_array : (p : Place) (t : List ℕ) → head t ≡ 93 → may_close p ≡ true
    → punctuate p (lex between t) ≡ end_array ∷ punctuate after_value (lex between (drop 1 t))
unfolding punctuate
closes_array p t e may = ap (punctuate p) (at_operator 93 t refl e) ∙ allowed (may_close p) end_array _ _ may

pub passes_comma : (t : List ℕ) → head t ≡ 44
    → punctuate after_value (lex between t) ≡ punctuate after_comma (lex between (drop 1 t))
unfolding punctuate
passes_comma t e = ap (punctuate after_value) (at_operator 44 t refl e)

pub ends : (p : Place) (t : List ℕ) → t ≡ [] → may_close p ≡ true → punctuate p (lex between t) ≡ []
unfolding punctuate
ends fresh t e may = ap (punctuate fresh) (ap (lex between) e ∙ nothing between)
ends after_value t e may = ap (punctuate after_value) (ap (lex between) e ∙ nothing between)
ends after_comma t e may = absurd (false≢true may)
ends after_key t e may = absurd (false≢true may)

-- ---- strings

abbrev HasNoLeadingSpace : List ℕ → Type 0
HasNoLeadingSpace t = is_space (head t) ≡ true → t ≡ []

no_colon_mark : (x : ℕ) (ls : List Lexeme) → is_operator x ≡ true → x ≢ 58
    → begins_colon (operator_lexeme x ∷ ls) ≡ false
no_colon_mark x ls e other_byte =
    let is = λ (c : ℕ) (no : begins_colon (operator_lexeme c ∷ ls) ≡ false) (h : (x == c) ≡ true). ap (λ y. begins_colon
    (operator_lexeme y ∷ ls)) (eqb-true x c h) ∙ no in
    ⊎_elim (λ e. ⊎_elim (λ e. ⊎_elim (λ e. ⊎_elim (λ e. ⊎_elim (is 123 refl) (is 125 refl) (or_cases _ _ e))
    (is 91 refl) (or_cases _ _ e)) (is 93 refl) (or_cases _ _ e)) (λ h. absurd (other_byte (eqb-true x 58 h)))
    (or_cases _ _ e)) (is 44 refl) (or_cases _ _ e)

no_colon_word : (q b o s : Bool) (x : ℕ) (xs : List ℕ) (k : Mode → List Lexeme) → o ≡ false → s ≡ false → begins_colon
    (lex_byte between (cond q quote (cond b backslash (cond o operator (cond s space other)))) x xs k) ≡ false
no_colon_word true b o s x xs k e h = refl
no_colon_word false true o s x xs k e h = refl
no_colon_word false false true s x xs k e h = absurd (true≢false e)
no_colon_word false false false true x xs k e h = absurd (true≢false h)
no_colon_word false false false false x xs k e h = refl

no_colon : (t : List ℕ) → HasNoLeadingSpace t → head t ≢ 58 → begins_colon (lex between t) ≡ false
unfolding lex
no_colon [] after other_byte = refl
no_colon (x ∷ xs) after other_byte =
    ⊎_elim (λ e. rw (operator_class x e) (no_colon_mark x _ e other_byte))
    (λ e. ⊎_elim (λ s. cc (after s)) (λ s. no_colon_word (x == 34) (x == 92) (is_operator x) (is_space x) x xs
    (λ next. lex next xs) e s) (cases_Bool (is_space x)))
    (cases_Bool (is_operator x))

pub record IsString (t s u : List ℕ) : Type 0 where
  pub opens : head t ≡ 34
  pub content : content plain (drop 1 t) ≡ Some s
  pub after : lex between u ≡ lex in_string (drop 1 t)

string_lexemes : (t s u : List ℕ) → IsString t s u → lex between t ≡ token (string s) ∷ lex between u
string_lexemes t s u is = at_quote t is.opens ∙ ap (λ o. token (string_token o) ∷ lex in_string (drop 1 t)) is.content
    ∙ ap (λ ls. token (string s) ∷ ls) (sym is.after)

pub key_token : (p : Place) (t s u : List ℕ) → IsString t s u → may_begin p ≡ true → head u ≡ 58
    → punctuate p (lex between t) ≡ key s ∷ punctuate fresh (lex between (drop 1 u))
unfolding punctuate
key_token p t s u is may e = ap (punctuate p) (string_lexemes t s u is
    ∙ ap (λ ls. token (string s) ∷ ls) (at_operator 58 u refl e)) ∙ allowed (may_begin p) (key s) _ _ may

not_before_colon : (p : Place) (s : List ℕ) (ls : List Lexeme) → begins_colon ls ≡ false → may_begin p ≡ true
    → punctuate p (token (string s) ∷ ls) ≡ string s ∷ punctuate after_value ls
unfolding punctuate
not_before_colon p s ls none may =
    ap (λ b. place_token p (string s) b (λ next. punctuate next ls)) none ∙ allowed (may_begin p) (string s) _ _ may

pub value_string_token : (p : Place) (t s u : List ℕ) → IsString t s u → may_begin p ≡ true → HasNoLeadingSpace u
    → head u ≢ 58 → punctuate p (lex between t) ≡ string s ∷ punctuate after_value (lex between u)
value_string_token p t s u is may after other_byte =
    ap (punctuate p) (string_lexemes t s u is) ∙ not_before_colon p s _ (no_colon u after other_byte) may

-- ---- words

-- the word is the lexeme of a token
abbrev pub IsWordOf : Token → List ℕ → Type 0
IsWordOf t word = (rest : List ℕ) → ends_word rest ≡ true → lex between (word ++ rest) ≡ token t ∷ lex between rest

after_literal : (t : Token) (rest : List ℕ) → ends_word rest ≡ true
    → token (cond (ends_word rest) t bad) ∷ lex in_word rest ≡ token t ∷ lex between rest
after_literal t rest e =
    ap (λ b. token (cond b t bad) ∷ lex in_word rest) e ∙ ap (λ ls. token t ∷ ls) (at_word_end rest e)

pub true_word : IsWordOf (boolean true) true_text
unfolding lex word
true_word rest e = after_literal (boolean true) rest e

pub false_word : IsWordOf (boolean false) false_text
unfolding lex word
false_word rest e = after_literal (boolean false) rest e

pub null_word : IsWordOf null null_text
unfolding lex word
null_word rest e = after_literal null rest e

-- the token is a value by itself, whatever lexemes follow
abbrev pub IsValue : Token → Type 0
IsValue t =
    (p : Place) (ls : List Lexeme) → may_begin p ≡ true → punctuate p (token t ∷ ls) ≡ t ∷ punctuate after_value ls

pub boolean_value : (b : Bool) → IsValue (boolean b)
unfolding punctuate
boolean_value b p ls may = allowed (may_begin p) (boolean b) _ _ may

pub null_value : IsValue null
unfolding punctuate
null_value p ls may = allowed (may_begin p) null _ _ may

pub number_value : (digits : List ℕ) → IsValue (number digits)
unfolding punctuate
number_value digits p ls may = allowed (may_begin p) (number digits) _ _ may
