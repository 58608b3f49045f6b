-- The characters of identifiers, and how far an identifier reaches.
use Rattle.std.proofs.Common.{◌≡◌, refl, sym, ap, subst, ◌∙◌, ℕ, ◌+◌, ◌-◌, ◌≤◌, ◌≢◌, ◌==◌, nat_lt, ◌&&◌, ◌||◌, Bool}
use Rattle.std.proofs.Common.{true, false, cond, List, [], ◌∷◌, ◌++◌, length, take, drop, take_while, arith, inl, inr}
use Rattle.std.proofs.Common.{one-add, Some, None, IsUtf8, IsCharBoundary, chars, encode_utf8, encode_utf8_all}
use Rattle.std.specs.List.{prefix_len, list_all}
use Rattle.std.specs.Char.{is_whitespace, is_not_whitespace}
use Rattle.std.specs.Str.{skip_leading_whitespace, trim_start, all_scalars}
use lib.Utf8.{scalar}
use Rattle.std.proofs.lemmas.Bool.{cases_Bool, or_cases, and_parts, eqb-true, agree_below_at, both_ways, cases_lt}
use Rattle.std.proofs.lemmas.Bool.{ltb-true}
use Rattle.std.proofs.lemmas.Bool.Decides.{nat_tests}
use Rattle.std.proofs.lemmas.Str.{chars_past_char, length-encode, len_utf8_bounds, chars-encodes, encodes-chars}
use Rattle.std.proofs.lemmas.Str.{scalars-chars, chars-nil, IsCharBoundary-at_seam, IsUtf8-past_char, encodes-append}
use Rattle.std.proofs.lemmas.List.{length-append, take-append-drop, take_at, drop_at, drop-drop}
use Rattle.unicode_ident.specs.Ident.{is_xid_start, is_xid_continue}
use Rattle.unicode_ident.proofs.Computing.{unicode_ident}
use Rattle.unicode_ident.proofs.IdentLemmas.{is_xid_start-is_xid_continue}
use Rattle.sourcemap_source_views.specs.Identifiers.{is_start, is_part, identifier_at_start, is_identifier, first_word}
use Rattle.sourcemap_source_views.specs.Identifiers.{unless_empty, token_at_start}

pub is_part-past_ascii : (c : ℕ) → 128 ≤ c → c ≢ 8204 → c ≢ 8205 → is_part c ≡ is_xid_continue c
is_part-past_ascii c l m n =
    elim (cases_Bool (is_xid_start c)) [
      | inl e ↦ (let continues = is_xid_start-is_xid_continue c e in grind (arith, nat_tests))
      | inr e ↦ grind (arith, nat_tests)
    ]

-- ---- how far characters pass a test

-- the length in bytes of the longest prefix whose characters all pass a test
abbrev pub passing_bytes : (ℕ → Bool) → List ℕ → ℕ
passing_bytes test cs = length (encode_utf8_all (take_while test cs))

pub take_while-more : (test : ℕ → Bool) (c : ℕ) (cs : List ℕ) → test c ≡ true
    → take_while test (c ∷ cs) ≡ c ∷ take_while test cs
take_while-more test c cs e =
    let one = one-add (prefix_len test cs) in
    rw (e, one) refl

pub take_while-end : (test : ℕ → Bool) (c : ℕ) (cs : List ℕ) → test c ≡ false → take_while test (c ∷ cs) ≡ []
take_while-end test c cs e = rw e refl

pub encoded_len : (c : ℕ) (cs : List ℕ)
    → length (encode_utf8_all (c ∷ cs)) ≡ length (encode_utf8 c) + length (encode_utf8_all cs)
encoded_len c cs = length-append (encode_utf8 c) (encode_utf8_all cs)

pub encoded_some : (c : ℕ) (cs : List ℕ) → 1 ≤ length (encode_utf8_all (c ∷ cs))
encoded_some c cs =
    let all = encoded_len c cs in
    let some = length-encode c in
    let few = len_utf8_bounds c in
    omega (arith, all, some, few)

pub passing-more : (test : ℕ → Bool) (rest left : List ℕ) (c : ℕ) → IsUtf8 rest → rest ≡ encode_utf8 c ++ left
    → test c ≡ true
    → passing_bytes test (chars rest) ≡ length (encode_utf8 c) + passing_bytes test (chars left)
passing-more test rest left c u e passes =
    ap (passing_bytes test) (chars_past_char rest left c u e)
    ∙ ap (λ cs. length (encode_utf8_all cs)) (take_while-more test c (chars left) passes)
    ∙ encoded_len c (take_while test (chars left))

pub passing-end : (test : ℕ → Bool) (rest left : List ℕ) (c : ℕ) → IsUtf8 rest → rest ≡ encode_utf8 c ++ left
    → test c ≡ false
    → passing_bytes test (chars rest) ≡ 0
passing-end test rest left c u e fails =
    ap (passing_bytes test) (chars_past_char rest left c u e)
    ∙ ap (λ cs. length (encode_utf8_all cs)) (take_while-end test c (chars left) fails)

pub passing-none : (test : ℕ → Bool) (rest : List ℕ) → length rest ≡ 0 → passing_bytes test (chars rest) ≡ 0
passing-none test [] e = ap (passing_bytes test) chars-nil
passing-none test (b ∷ rest) e = absurd (omega arith)

-- all characters of `cs` pass exactly if `passing_bytes` is the number of bytes of `cs`; `more` is added on both sides
pub all_pass : (test : ℕ → Bool) (cs : List ℕ) (more : ℕ)
    → (more + passing_bytes test cs == more + length (encode_utf8_all cs)) ≡ list_all test cs
all_pass test [] more = grind (arith, nat_tests)
all_pass test (c ∷ cs) more =
    elim (cases_Bool (test c)) [
      | inl e ↦
          let later = all_pass test cs (more + length (encode_utf8 c)) in
          let first : passing_bytes test (c ∷ cs) ≡ length (encode_utf8 c) + passing_bytes test cs =
          ap (λ xs. length (encode_utf8_all xs)) (take_while-more test c cs e) ∙ encoded_len c (take_while test cs) in
          let all = encoded_len c cs in
          let left : more + passing_bytes test (c ∷ cs) ≡ more + length (encode_utf8 c) + passing_bytes test cs =
          omega arith in
          let right : more + length (encode_utf8_all (c ∷ cs))
          ≡ more + length (encode_utf8 c) + length (encode_utf8_all cs) = omega arith in
          rw (left, right, e) later
      | inr e ↦
          let none : passing_bytes test (c ∷ cs) ≡ 0 =
          ap (λ xs. length (encode_utf8_all xs)) (take_while-end test c cs e) in
          let all = encoded_len c cs in
          let some = length-encode c in
          let few = len_utf8_bounds c in
          rw e (grind (arith, nat_tests))
    ]

-- ---- identifiers at the start of a text

-- the length of the identifier at the start of characters, in bytes
abbrev pub identifier_bytes : List ℕ → ℕ
identifier_bytes cs = length (encode_utf8_all (identifier_at_start cs))

whole_identifier : (cs : List ℕ) → (identifier_bytes cs == length (encode_utf8_all cs)) ≡ is_identifier cs
whole_identifier [] = refl
whole_identifier (c ∷ cs) =
    elim (cases_Bool (is_start c)) [
      | inl e ↦
          let later = all_pass is_part cs (length (encode_utf8 c)) in
          let at : identifier_bytes (c ∷ cs) ≡ length (encode_utf8 c) + passing_bytes is_part cs = ap (λ b. length
          (encode_utf8_all (cond b (c ∷ take_while is_part cs) []))) e ∙ encoded_len c (take_while is_part cs) in
          let all = encoded_len c cs in
          rw (at, all, e) later
      | inr e ↦
          let none : identifier_bytes (c ∷ cs) ≡ 0 =
          ap (λ b. length (encode_utf8_all (cond b (c ∷ take_while is_part cs) []))) e in
          let all = encoded_len c cs in
          let some = length-encode c in
          let few = len_utf8_bounds c in
          rw e (grind (arith, nat_tests))
    ]

pub is_identifier-bytes : (text : List ℕ) → IsUtf8 text
    → (identifier_bytes (chars text) == length text) ≡ is_identifier (chars text)
is_identifier-bytes text u = ap (λ bytes. identifier_bytes (chars text) == length bytes) (sym (encodes-chars text u))
    ∙ whole_identifier (chars text)

-- ---- words

ascii_white : (c : ℕ) → ((nat_lt 8 c && nat_lt c 14) || (c == 32)) ≡ true → 128 ≤ c → ⊥
ascii_white c e l = grind (arith, nat_tests)

-- white space past ASCII does not have XID_Continue
continues_not : (c : ℕ) → is_whitespace c ≡ true → 128 ≤ c → is_xid_continue c ≡ false
unfolding unicode_ident
continues_not c white l =
    elim (or_cases _ _ white) [
      | inr e ↦ subst (λ n. is_xid_continue n ≡ false) (sym (eqb-true c 12288 e)) refl
      | inl w1 ↦ elim (or_cases _ _ w1) [
        | inr e ↦ subst (λ n. is_xid_continue n ≡ false) (sym (eqb-true c 8287 e)) refl
        | inl w2 ↦ elim (or_cases _ _ w2) [
          | inr e ↦ subst (λ n. is_xid_continue n ≡ false) (sym (eqb-true c 8239 e)) refl
          | inl w3 ↦ elim (or_cases _ _ w3) [
            | inr e ↦ subst (λ n. is_xid_continue n ≡ false) (sym (eqb-true c 8233 e)) refl
            | inl w4 ↦ elim (or_cases _ _ w4) [
              | inr e ↦ subst (λ n. is_xid_continue n ≡ false) (sym (eqb-true c 8232 e)) refl
              | inl w5 ↦ elim (or_cases _ _ w5) [
                | inr e ↦
                    let both = and_parts (nat_lt 8191 c) (nat_lt c 8203) e in
                    let low = ltb-true 8191 c both.0 in
                    let high = ltb-true c 8203 both.1 in
                    let back : 8192 + (c - 8192) ≡ c = omega arith in
                    subst (λ n. is_xid_continue n ≡ false) back
                    (agree_below_at (λ d. is_xid_continue (8192 + d)) (λ _. false) 11 (c - 8192) refl (omega arith))
                | inl w6 ↦ elim (or_cases _ _ w6) [
                  | inr e ↦ subst (λ n. is_xid_continue n ≡ false) (sym (eqb-true c 5760 e)) refl
                  | inl w7 ↦ elim (or_cases _ _ w7) [
                    | inr e ↦ subst (λ n. is_xid_continue n ≡ false) (sym (eqb-true c 160 e)) refl
                    | inl w8 ↦ elim (or_cases _ _ w8) [
                      | inr e ↦ subst (λ n. is_xid_continue n ≡ false) (sym (eqb-true c 133 e)) refl
                      | inl w9 ↦ absurd (ascii_white c w9 l)
                    ]
                  ]
                ]
              ]
            ]
          ]
        ]
      ]
    ]

starts_not : (c : ℕ) → is_xid_continue c ≡ false → is_xid_start c ≡ false
starts_not c e = elim (cases_Bool (is_xid_start c)) [
  | inl s ↦ absurd (both_ways _ e (is_xid_start-is_xid_continue c s))
  | inr n ↦ n
]

part_seen : (c : ℕ) → is_part c ≡ true → is_not_whitespace c ≡ true
part_seen c part =
    elim (cases_Bool (is_whitespace c)) [
      | inr e ↦ rw e refl
      | inl white ↦ elim (cases_lt c 128) [
        | inl l ↦ absurd (grind (arith, nat_tests))
        | inr l ↦ (let continues = continues_not c white l in let starts = starts_not c continues in
            absurd (grind (arith, nat_tests)))
      ]
    ]

pub start_is_part : (c : ℕ) → is_start c ≡ true → is_part c ≡ true
start_is_part c e = rw e refl

parts_of_word : (cs : List ℕ) → take_while is_part (take_while is_not_whitespace cs) ≡ take_while is_part cs
parts_of_word [] = refl
parts_of_word (c ∷ cs) =
    let later = parts_of_word cs in
    elim (cases_Bool (is_part c)) [
      | inl e ↦
          ap (take_while is_part) (take_while-more is_not_whitespace c cs (part_seen c e))
          ∙ take_while-more is_part c (take_while is_not_whitespace cs) e ∙ ap (λ xs. c ∷ xs) later
          ∙ sym (take_while-more is_part c cs e)
      | inr e ↦ elim (cases_Bool (is_not_whitespace c)) [
        | inl seen ↦
            ap (take_while is_part) (take_while-more is_not_whitespace c cs seen)
            ∙ take_while-end is_part c (take_while is_not_whitespace cs) e ∙ sym (take_while-end is_part c cs e)
        | inr white ↦
            ap (take_while is_part) (take_while-end is_not_whitespace c cs white) ∙ sym (take_while-end is_part c cs e)
      ]
    ]

pub identifier_of_word : (cs : List ℕ) → identifier_at_start (take_while is_not_whitespace cs) ≡ identifier_at_start cs
identifier_of_word [] = refl
identifier_of_word (c ∷ cs) =
    elim (cases_Bool (is_start c)) [
      | inl e ↦
          let seen = part_seen c (start_is_part c e) in
          let same = parts_of_word cs in
          ap identifier_at_start (take_while-more is_not_whitespace c cs seen)
          ∙ ap (λ xs. cond (is_start c) (c ∷ xs) []) same
      | inr e ↦ elim (cases_Bool (is_not_whitespace c)) [
        | inl seen ↦ ap identifier_at_start (take_while-more is_not_whitespace c cs seen) ∙ (rw e refl)
        | inr white ↦ ap identifier_at_start (take_while-end is_not_whitespace c cs white) ∙ (rw e refl)
      ]
    ]

scalars_skipped : (cs : List ℕ) → all_scalars cs ≡ true → all_scalars (skip_leading_whitespace cs) ≡ true
scalars_skipped [] e = e
scalars_skipped (c ∷ cs) e =
    let here = and_parts (scalar c) (all_scalars cs) e in
    let later = scalars_skipped cs here.1 in
    elim (cases_Bool (is_whitespace c)) [ inl w ↦ rw w later | inr w ↦ rw w e ]

pub chars-trim_start : (text : List ℕ) → IsUtf8 text → chars (trim_start text) ≡ skip_leading_whitespace (chars text)
unfolding trim_start
chars-trim_start text u =
    chars-encodes (skip_leading_whitespace (chars text)) (scalars_skipped (chars text) (scalars-chars text u))

word_identifier : (text words : List ℕ) → IsUtf8 text → words ≡ trim_start text
    → identifier_at_start (first_word (chars text)) ≡ identifier_at_start (chars words)
word_identifier text words u e =
    identifier_of_word (skip_leading_whitespace (chars text)) ∙ ap identifier_at_start (sym (chars-trim_start text u))
    ∙ ap (λ t. identifier_at_start (chars t)) (sym e)

no_bytes : (cs : List ℕ) → length (encode_utf8_all cs) ≡ 0 → unless_empty cs ≡ None
no_bytes [] e = refl
no_bytes (c ∷ cs) e =
    let all = encoded_len c cs in
    let some = length-encode c in
    let few = len_utf8_bounds c in
    absurd (omega arith)

some_bytes : (cs : List ℕ) → length (encode_utf8_all cs) ≢ 0 → unless_empty cs ≡ Some (encode_utf8_all cs)
some_bytes [] e = absurd (e refl)
some_bytes (c ∷ cs) e = refl

pub token-none : (text words : List ℕ) (len : ℕ) → IsUtf8 text → words ≡ trim_start text
    → len ≡ identifier_bytes (chars words) → len ≡ 0 → None ≡ token_at_start text
token-none text words len u e is none = sym (ap unless_empty (word_identifier text words u e)
    ∙ no_bytes (identifier_at_start (chars words)) (sym is ∙ none))

-- the characters before the first one that fails a test, or all characters if none fails, are a prefix
begins : (test : ℕ → Bool) (cs : List ℕ) → (rest : List ℕ) × (cs ≡ take_while test cs ++ rest)
begins test cs = (drop (prefix_len test cs) cs, sym (take-append-drop (prefix_len test cs) cs))

pub identifier_begins : (cs : List ℕ) → (rest : List ℕ) × (cs ≡ identifier_at_start cs ++ rest)
identifier_begins [] = ([], refl)
identifier_begins (c ∷ cs) =
    elim (cases_Bool (is_start c)) [
      | inl e ↦ (let b = begins is_part cs in (b.0, rw e (ap (λ xs. c ∷ xs) b.1)))
      | inr e ↦ (c ∷ cs, rw e refl)
    ]

pub identifier_front : (words : List ℕ) (len : ℕ) → IsUtf8 words → len ≡ identifier_bytes (chars words) → len ≢ 0
    → Some (take len words) ≡ unless_empty (identifier_at_start (chars words))
identifier_front words len v is some =
    let whole = identifier_begins (chars words) in
    let spelt : words ≡ encode_utf8_all (identifier_at_start (chars words)) ++ encode_utf8_all whole.0 = sym
    (encodes-chars words v) ∙ ap encode_utf8_all whole.1 ∙ encodes-append (identifier_at_start (chars words)) whole.0 in
    let front : take len words ≡ encode_utf8_all (identifier_at_start (chars words)) = ap (take len) spelt
    ∙ take_at (encode_utf8_all (identifier_at_start (chars words))) (encode_utf8_all whole.0) len (sym is) in
    ap Some front ∙ sym (some_bytes (identifier_at_start (chars words)) (λ z. some (is ∙ z)))

pub token-there : (text words : List ℕ) (len : ℕ) → IsUtf8 text → IsUtf8 words → words ≡ trim_start text
    → len ≡ identifier_bytes (chars words) → len ≢ 0 → Some (take len words) ≡ token_at_start text
token-there text words len u v e is some =
    identifier_front words len v is some ∙ sym (ap unless_empty (word_identifier text words u e))

-- ---- the walk along the characters of an identifier

-- the walk is at this offset, all characters before it pass, and this rest of the text is left
pub record Passed (test : ℕ → Bool) (text rest : List ℕ) (offset : ℕ) : Type 0 where
  pub rest_is : drop offset text ≡ rest
  pub inside : offset + length rest ≡ length text
  pub utf8 : IsUtf8 rest
  pub left : offset + passing_bytes test (chars rest) ≡ passing_bytes test (chars text)

pub Passed-step : (test : ℕ → Bool) (text rest left : List ℕ) (offset next c : ℕ) → rest ≡ encode_utf8 c ++ left
    → next ≡ offset + length (encode_utf8 c) → test c ≡ true → Passed test text rest offset → Passed test text left next
Passed-step test text rest left offset next c e n passes p =
    let more = passing-more test rest left c p.utf8 e passes in
    let before = p.left in
    let inside = p.inside in
    let all : length rest ≡ length (encode_utf8 c) + length left = ap length e ∙ length-append (encode_utf8 c) left in
    record {
      rest_is = ap (λ k. drop k text) n ∙ sym (drop-drop (length (encode_utf8 c)) offset text)
          ∙ ap (drop (length (encode_utf8 c))) (p.rest_is ∙ e)
          ∙ drop_at (encode_utf8 c) left (length (encode_utf8 c)) refl;
      inside = omega arith;
      utf8 = IsUtf8-past_char rest left c p.utf8 e;
      left = omega arith;
    }

-- the rest of a text after its first character starts at a character boundary
pub after_first : (text rest : List ℕ) (c width : ℕ) → IsUtf8 text → text ≡ encode_utf8 c ++ rest
    → width ≡ length (encode_utf8 c) → IsCharBoundary text width × (drop width text ≡ rest)
after_first text rest c width u e n = (
  subst (λ k. IsCharBoundary text k) (sym n)
      (IsCharBoundary-at_seam text (encode_utf8 c) rest e (IsUtf8-past_char text rest c u e)),
  ap (drop width) e ∙ drop_at (encode_utf8 c) rest width (sym n),
)
