-- VLQ digits, `,` and `;` need no escapes in JSON.
use Rattle.std.proofs.Common.{◌≡◌, ℕ, ◌+◌, ◌<◌, suc, zero, filter, List, [], ◌∷◌, ◌++◌, ℤ, Bool, true, false, not, ◌&&◌, nat_lt}
use Rattle.std.proofs.Common.{cond, Option, Some, None, is_none, replicate, refl, sym, ap, subst, ◌∙◌, arith}
use Rattle.std.specs.List.{AllByRecursion, join_with_byte}
use Rattle.std.specs.Str.{IsUtf8}
use Rattle.std.proofs.lemmas.Bool.{agree_below_at}
use Rattle.std.proofs.lemmas.Str.{IsUtf8-from_ascii}
use Rattle.json.specs.Print.{escape, escape_byte, escape_letter}
use Rattle.sourcemap_vlq.specs.Vlq.{digit_value, glyph, IsChain, Spells}
use Rattle.sourcemap_vlq.specs.Bits.{first_non_digit, IsBitText}
use Rattle.sourcemap_vlq.proofs.DigitLemmas.{digit_value-below, glyph-digit_value, glyph-ascii}
use Rattle.sourcemap_tokens.specs.Tokens.{without_repeats}
use Rattle.sourcemap_tokens.specs.declared.tokens.RawToken.{RawToken}
use Rattle.sourcemap_mappings.specs.Segment.{comma, semicolon}
use Rattle.sourcemap_mappings.specs.Write.{AreSegments, EachLine, IsLine, IsWritten, base, is_above, is_on, numbers}
use Rattle.sourcemap_mappings.proofs.BufferLemmas.{recursion-ascii}
use Rattle.sourcemap_map_encode.specs.Segments.{IsPlainByte, IsPlainText}

stays : ℕ → Bool
stays c = not (nat_lt 0 (escape_letter c)) && not (nat_lt c 32)

by_tests : (p q : Bool) (a b r : List ℕ) → not p && not q ≡ true → cond p a (cond q b r) ≡ r
by_tests true q a b r e = absurd cc
by_tests false true a b r e = absurd cc
by_tests false false a b r e = refl

stays-plain : (c : ℕ) → stays c ≡ true → escape_byte c ≡ c ∷ []
unfolding stays escape_byte
stays-plain c e = by_tests (nat_lt 0 (escape_letter c)) (nat_lt c 32) _ _ (c ∷ []) e

glyph-stays : (v : ℕ) → v < 64 → stays (glyph v) ≡ true
unfolding stays glyph
glyph-stays v h = agree_below_at (λ v. stays (glyph v)) (λ _. true) 64 v refl h

digit-plain : (c v : ℕ) → digit_value c ≡ Some v → IsPlainByte c
digit-plain c v e =
    let small = digit_value-below c v e in
    subst IsPlainByte (glyph-digit_value c v e) (glyph-ascii v small, stays-plain (glyph v) (glyph-stays v small))

chain-plain : (digits : List ℕ) → IsChain digits → IsPlainText digits
chain-plain [] chain = absurd chain
chain-plain (x ∷ []) chain = (digit-plain x chain.0 chain.1, tt)
chain-plain (x ∷ y ∷ ys) chain = (digit-plain x chain.0.0 chain.0.1, chain-plain (y ∷ ys) chain.1)

pub plain-append : (s t : List ℕ) → IsPlainText s → IsPlainText t → IsPlainText (s ++ t)
plain-append [] t a b = b
plain-append (x ∷ xs) t a b = (a.0, plain-append xs t a.1 b)

pub spells-plain : (numbers : List ℤ) (text : List ℕ) → Spells numbers text → IsPlainText text
spells-plain [] text spelled = subst IsPlainText (sym spelled) tt
spells-plain (n ∷ ns) text spelled =
    subst IsPlainText (sym spelled.3)
    (plain-append spelled.0 spelled.1 (chain-plain spelled.0 spelled.2.is_group.chain)
    (spells-plain ns spelled.1 spelled.4))

pub ends-plain : (n : ℕ) → IsPlainText (replicate n semicolon)
unfolding stays
ends-plain zero = tt
ends-plain (suc n) = ((omega arith, stays-plain semicolon refl), ends-plain n)

pub comma-plain : IsPlainText (comma ∷ [])
unfolding stays
comma-plain = ((omega arith, stays-plain comma refl), tt)

join-plain : (d : ℕ) (parts : List (List ℕ)) → IsPlainByte d → AllByRecursion IsPlainText parts
    → IsPlainText (join_with_byte d parts)
join-plain d [] byte all = tt
join-plain d (p ∷ []) byte all = all.0
join-plain d (p ∷ q ∷ ps) byte all =
    plain-append p (d ∷ join_with_byte d (q ∷ ps)) all.0 (byte, join-plain d (q ∷ ps) byte all.1)

segments-plain : (names : ℕ) (before ts : List RawToken) (segments : List (List ℕ))
    → AreSegments names before ts segments → AllByRecursion IsPlainText segments
segments-plain names before [] segments are = subst (λ ss. AllByRecursion IsPlainText ss) (sym are) tt
segments-plain names before (t ∷ ts) [] are = absurd are
segments-plain names before (t ∷ ts) (s ∷ ss) are = (
  spells-plain (numbers names (base names t.dst_line before) t) s are.0,
  segments-plain names (before ++ t ∷ []) ts ss are.1,
)

line-of-segments-plain : (names : ℕ) (tokens : List RawToken) (n : ℕ) (line : List ℕ) → IsLine names tokens n line
    → IsPlainText line
line-of-segments-plain names tokens n line (segments, are, is) = subst IsPlainText (sym is)
    (join-plain comma segments comma-plain.0
    (segments-plain names (filter (is_above n) tokens) (filter (is_on n) tokens) segments are))

lines-plain : (names : ℕ) (tokens : List RawToken) (n : ℕ) (lines : List (List ℕ))
    → EachLine (IsLine names tokens) n lines → AllByRecursion IsPlainText lines
lines-plain names tokens n [] each = tt
lines-plain names tokens n (l ∷ ls) each =
    (line-of-segments-plain names tokens n l each.0, lines-plain names tokens (n + 1) ls each.1)

-- a text of `mappings` needs no escapes
pub written-plain : (names : ℕ) (tokens : List RawToken) (text : List ℕ) → IsWritten names tokens text
    → IsPlainText text
written-plain names tokens text (lines, count, each, is) = subst IsPlainText (sym is)
    (join-plain semicolon lines (ends-plain 1).0 (lines-plain names (without_repeats tokens) 0 lines each))

found : (c : ℕ) (o : Option ℕ) → digit_value c ≡ o → is_none o ≡ false → IsPlainByte c
found c None e some = cc
found c (Some v) e some = digit-plain c v e

first_plain : (c : ℕ) (rest : Option ℕ) (P : Type 0) (b : Bool) → is_none (digit_value c) ≡ b
    → cond b (Some c) rest ≡ None → (rest ≡ None → P) → IsPlainByte c × P
first_plain c rest P true is e more = absurd cc
first_plain c rest P false is e more = (found c (digit_value c) refl is, more e)

digits-plain : (text : List ℕ) → first_non_digit text ≡ None → IsPlainText text
digits-plain [] e = tt
digits-plain (c ∷ cs) e =
    first_plain c (first_non_digit cs) (IsPlainText cs) (is_none (digit_value c)) refl e (λ rest. digits-plain cs rest)

pub bits-plain : (flags : List Bool) (bits : List ℕ) → IsBitText flags bits → IsPlainText bits
bits-plain flags bits is = digits-plain bits is.digits

pub plain-escape : (text : List ℕ) → IsPlainText text → escape text ≡ text
plain-escape [] plain = refl
plain-escape (c ∷ cs) plain = ap (λ e. e ++ escape cs) plain.0.1 ∙ ap (λ e. c ∷ e) (plain-escape cs plain.1)

ascii : (text : List ℕ) → IsPlainText text → AllByRecursion (λ c. c < 128) text
ascii [] plain = tt
ascii (c ∷ cs) plain = (plain.0.0, ascii cs plain.1)

pub plain-utf8 : (text : List ℕ) → IsPlainText text → IsUtf8 text
plain-utf8 text plain = IsUtf8-from_ascii text (recursion-ascii text (ascii text plain))
