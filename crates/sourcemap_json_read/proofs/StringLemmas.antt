-- What parts of a string decode to, and how the lexer goes on after them.
use Rattle.std.proofs.Common.{◌≡◌, ℕ, zero, suc, ◌+◌, ◌<◌, ◌≤◌, Bool, true, false, ◌||◌, cond, ◌==◌, nat_lt, List, []}
use Rattle.std.proofs.Common.{◌∷◌, ◌++◌, length, take, drop, get_or, Option, Some, None, refl, sym, ap, ◌∙◌, subst}
use Rattle.std.proofs.Common.{arith, lt_of_not-le}
use Rattle.std.proofs.lemmas.List.{append_assoc, append-nil, drop_more, drop-drop, get_or_past}
use Rattle.std.proofs.lemmas.Bool.{or_parts, not-true, false≢true}
use Rattle.std.proofs.lemmas.Bool.Decides.{nat_tests}
use Rattle.std.specs.List.{prefix_len}
use Rattle.json.specs.Text.{content, plain, after_backslash, prepend}
use Rattle.json.specs.Word.{is_operator, is_space}
use Rattle.json.specs.Lex.{Lexeme, quote, backslash, operator, space, other, Mode, between, in_string, lex_byte, lex}
use Rattle.sourcemap_json_read.specs.Runs.{is_bare, is_plain}
use Rattle.sourcemap_json_read.specs.Strings.{IsUtf8UpTo, IsDecodedBetween}
use Rattle.sourcemap_json_read.proofs.Utf8Lemmas.{ascii_passed}

pub prepend-append : (a b : List ℕ) (rest : Option (List ℕ)) → prepend a (prepend b rest) ≡ prepend (a ++ b) rest
prepend-append a b None = refl
prepend-append a b (Some s) = ap Some (sym (append_assoc a b s))

pub prepend-nil : (rest : Option (List ℕ)) → prepend [] rest ≡ rest
prepend-nil None = refl
prepend-nil (Some s) = refl

pub IsDecodedBetween-nothing : (text : List ℕ) → IsDecodedBetween text [] text
IsDecodedBetween-nothing text = record { bytes = sym (prepend-nil (content plain text)); goes_on = refl }

pub IsDecodedBetween-then : (a b c x y : List ℕ) → IsDecodedBetween a x b → IsDecodedBetween b y c
    → IsDecodedBetween a (x ++ y) c
IsDecodedBetween-then a b c x y first second = record {
  bytes = first.bytes ∙ ap (prepend x) second.bytes ∙ prepend-append x y (content plain c);
  goes_on = first.goes_on ∙ second.goes_on;
}

passes : (o s : Bool) (x : ℕ) (xs : List ℕ) (k : Mode → List Lexeme)
    → lex_byte in_string (cond o operator (cond s space other)) x xs k ≡ k in_string
passes true s x xs k = refl
passes false true x xs k = refl
passes false false x xs k = refl

pub IsDecodedBetween-plain : (x : ℕ) (xs : List ℕ) → is_plain x ≡ true → IsDecodedBetween (x ∷ xs) (x ∷ []) xs
unfolding content lex
IsDecodedBetween-plain x xs plain_byte =
    let none = or_parts ((x == 34) || (x == 92)) (nat_lt x 32) (not-true _ plain_byte) in
    let tests = or_parts (x == 34) (x == 92) none.0 in
    record {
      bytes = λ i. cond (tests.0 i) (Some []) (cond (tests.1 i) (content after_backslash xs)
          (cond (none.1 i) None (prepend (x ∷ []) (content plain xs))));
      goes_on = (λ i. lex_byte in_string (cond (tests.0 i) quote (cond (tests.1 i) backslash
          (cond (is_operator x) operator (cond (is_space x) space other)))) x xs (λ next. lex next xs))
          ∙ passes (is_operator x) (is_space x) x xs (λ next. lex next xs);
    }

first_byte : (p : Bool) (x n : ℕ) (xs : List ℕ) → is_plain x ≡ p → suc n ≤ cond p (1 + prefix_len is_plain xs) 0
    → (n ≤ prefix_len is_plain xs → IsDecodedBetween xs (take n xs) (drop n xs))
    → IsDecodedBetween (x ∷ xs) (x ∷ take n xs) (drop n xs)
first_byte false x n xs e few rest = absurd (omega arith)
first_byte true x n xs e few rest = IsDecodedBetween-then (x ∷ xs) xs (drop n xs) (x
    ∷ []) (take n xs) (IsDecodedBetween-plain x xs e) (rest (omega arith))

-- plain bytes decode to themselves
pub IsDecodedBetween-run : (n : ℕ) (xs : List ℕ) → n ≤ prefix_len is_plain xs
    → IsDecodedBetween xs (take n xs) (drop n xs)
IsDecodedBetween-run zero xs few = IsDecodedBetween-nothing xs
IsDecodedBetween-run (suc n) [] few = absurd (omega arith)
IsDecodedBetween-run (suc n) (x ∷ xs) few = first_byte (is_plain x) x n xs refl few (IsDecodedBetween-run n xs)

-- ---- runs and quotes at an index of a text

plain_if_bare : (x : ℕ) → is_bare x ≡ true → is_plain x ≡ true
plain_if_bare x bare = grind (arith, nat_tests)

no_longer : (b p : Bool) (m n : ℕ) → (b ≡ true → p ≡ true) → m ≤ n → cond b (1 + m) 0 ≤ cond p (1 + n) 0
no_longer false p m n both rest = omega arith
no_longer true true m n both rest = omega (arith, rest)
no_longer true false m n both rest = absurd (false≢true (both refl))

bare_within : (xs : List ℕ) → prefix_len is_bare xs ≤ prefix_len is_plain xs
bare_within [] = omega arith
bare_within (x ∷ xs) = no_longer (is_bare x) (is_plain x) (prefix_len is_bare xs) (prefix_len is_plain xs)
    (plain_if_bare x) (bare_within xs)

pub IsDecodedBetween-bare : (text : List ℕ) (from n : ℕ) → n ≡ prefix_len is_bare (drop from text)
    → IsDecodedBetween (drop from text) (take n (drop from text)) (drop (from + n) text)
IsDecodedBetween-bare text from n is =
    subst (IsDecodedBetween (drop from text) (take n (drop from text))) (drop-drop n from text)
    (IsDecodedBetween-run n (drop from text) (omega (arith, bare_within (drop from text))))

-- a quote ends the string
pub quote_ends : (text decoded : List ℕ) (from at : ℕ) → IsDecodedBetween (drop from text) decoded (drop at text)
    → get_or text at 32 ≡ 34
    → (content plain (drop from text) ≡ Some decoded)
    × (lex in_string (drop from text) ≡ lex between (drop (at + 1) text)) × IsUtf8UpTo text at (at + 1)
unfolding content lex
quote_ends text decoded from at decodes quoted =
    let within : at < length text = lt_of_not-le (λ past. omega (arith, get_or_past text at 32 past)) in
    let first : drop at text ≡ 34 ∷ drop (at + 1) text =
    drop_more text at 32 within ∙ ap (λ x. x ∷ drop (at + 1) text) quoted in (
      decodes.bytes ∙ ap (λ after. prepend decoded (content plain after)) first ∙ ap Some (append-nil decoded),
      decodes.goes_on ∙ ap (lex in_string) first,
      ascii_passed text at within (omega (arith, quoted)),
    )
