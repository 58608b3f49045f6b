-- How the word at an offset of a line follows from the word at a later offset, and which identifier a word starts with.
use Rattle.std.proofs.Common.{◌≡◌, refl, sym, ap, ap₂, subst, ◌∙◌, ℕ, zero, suc, ◌+◌, ◌-◌, ◌<◌, ◌≤◌, ◌≢◌, ◌==◌, nat_le}
use Rattle.std.proofs.Common.{Bool, true, false, not, cond, List, [], ◌∷◌, ◌++◌, length, drop, take_while, arith, inl}
use Rattle.std.proofs.Common.{inr, Some, None, IsUtf8, IsCharBoundary, chars, encode_utf8_all, slice_range, append-nil}
use Rattle.std.specs.List.{list_all}
use Rattle.std.specs.Char.{is_whitespace}
use Rattle.std.specs.Str.{bytes_eq, skip_leading_whitespace, trim_start}
use Rattle.std.proofs.lemmas.Bool.{cases_Bool, cases_lt, and_parts}
use Rattle.std.proofs.lemmas.Bool.Decides.{Decides-eqb, nat_tests}
use Rattle.std.proofs.lemmas.Slice.Eq.{bytes_eq-Decides}
use Rattle.std.proofs.lemmas.Str.{chars-append, chars-nil, encodes-append, encodes-chars, IsUtf8-drop, IsUtf8-append}
use Rattle.std.proofs.lemmas.Str.{IsUtf8-between, IsCharBoundary-from_drop, IsCharBoundary-from_rest}
use Rattle.std.proofs.lemmas.List.{length-append, length-drop, drop-drop, nil_from_length}
use Rattle.std.proofs.lemmas.List.Folds.{drop_split}
use Rattle.sourcemap_source_views.specs.Identifiers.{first_passes, identifier_at_start, is_identifier, is_part}
use Rattle.sourcemap_source_views.specs.Identifiers.{is_start, is_text, token_at_start, unless_empty}
use Rattle.sourcemap_source_views.specs.Walk.{IsWord, IsWordEnd, identifier_from}
use Rattle.sourcemap_source_views.proofs.IdentifiersLemmas.{passing_bytes, all_pass, encoded_some, chars-trim_start}
use Rattle.sourcemap_source_views.proofs.IdentifiersLemmas.{identifier_begins, identifier_front, identifier_of_word}
use Rattle.sourcemap_source_views.proofs.IdentifiersLemmas.{start_is_part, take_while-end, take_while-more}

-- ---- the first character

pub first-none : (test : ℕ → Bool) (text : List ℕ) → length text ≡ 0 → first_passes test (chars text) ≡ false
first-none test [] e = ap (first_passes test) chars-nil
first-none test (b ∷ text) e = absurd (omega arith)

pub identifier-by-parts : (cs : List ℕ)
    → identifier_at_start cs ≡ cond (first_passes is_start cs) (take_while is_part cs) []
identifier-by-parts [] = refl
identifier-by-parts (c ∷ cs) =
    elim (cases_Bool (is_start c)) [
      | inl e ↦
          ap (λ b. cond b (c ∷ take_while is_part cs) []) e ∙ sym (take_while-more is_part c cs (start_is_part c e))
          ∙ sym (ap (λ b. cond b (take_while is_part (c ∷ cs)) []) e)
      | inr e ↦
          ap (λ b. cond b (c ∷ take_while is_part cs) []) e ∙ sym (ap (λ b. cond b (take_while is_part (c ∷ cs)) []) e)
    ]

-- ---- white space

skip-all : (xs ys : List ℕ) → skip_leading_whitespace xs ≡ []
    → skip_leading_whitespace (xs ++ ys) ≡ skip_leading_whitespace ys
skip-all [] ys e = refl
skip-all (x ∷ xs) ys e =
    elim (cases_Bool (is_whitespace x)) [
      | inl w ↦ (let later = skip-all xs ys (rw w at e) in rw w later)
      | inr w ↦ absurd (let none : x ∷ xs ≡ [] = rw w at e in cc)
    ]

skip-some : (xs ys : List ℕ) → skip_leading_whitespace xs ≢ []
    → skip_leading_whitespace (xs ++ ys) ≡ skip_leading_whitespace xs ++ ys
skip-some [] ys e = absurd (e refl)
skip-some (x ∷ xs) ys e =
    elim (cases_Bool (is_whitespace x)) [
      | inl w ↦ (let later = skip-some xs ys (λ none. e (rw w none)) in rw w later)
      | inr w ↦ rw w refl
    ]

skipped_none : (gap : List ℕ) → trim_start gap ≡ [] → skip_leading_whitespace (chars gap) ≡ []
unfolding trim_start
skipped_none gap e = none (skip_leading_whitespace (chars gap)) e
  where
    none : (cs : List ℕ) → encode_utf8_all cs ≡ [] → cs ≡ []
    none [] e = refl
    none (c ∷ cs) e = let some = encoded_some c cs in let empty = ap length e in absurd (omega arith)

skipped_some : (gap : List ℕ) → trim_start gap ≢ [] → skip_leading_whitespace (chars gap) ≢ []
unfolding trim_start
skipped_some gap e none = e (ap encode_utf8_all none)

drop_all : (xs : List ℕ) → drop (length xs) xs ≡ []
drop_all [] = refl
drop_all (x ∷ xs) = drop_all xs

-- if `rest` is a suffix of `text`, then `rest` starts at index `length text - length rest` of `text`
pub suffix_at : (text rest : List ℕ) (n : ℕ) → rest ≡ drop n text → length rest ≤ length text
    → drop (length text - length rest) text ≡ rest
suffix_at text rest n e few =
    let left : length rest ≡ length text - n = ap length e ∙ length-drop n text in
    elim (cases_lt (length text) n) [
      | inl g ↦
          let none : length text - length rest ≡ length text = omega arith in
          ap (λ k. drop k text) none ∙ drop_all text ∙ sym (nil_from_length rest (omega arith))
      | inr l ↦
          let same : length text - length rest ≡ n = omega arith in
          ap (λ k. drop k text) same ∙ sym e
    ]

drop_front : (i : ℕ) (front back : List ℕ) → i ≤ length front → drop i (front ++ back) ≡ drop i front ++ back
drop_front zero front back l = refl
drop_front (suc i) [] back l = absurd (omega arith)
drop_front (suc i) (x ∷ front) back l = drop_front i front back (omega arith)

-- if `front` and `back` are UTF-8, a character boundary of `front` is also a character boundary of `front ++ back`
boundary_in_front : (front back : List ℕ) (i : ℕ) → IsUtf8 front → IsUtf8 back → IsCharBoundary front i
    → IsCharBoundary (front ++ back) i
boundary_in_front front back i u v b =
    let few = b.0 in
    let all = length-append front back in
    IsCharBoundary-from_drop (front ++ back) i (omega (arith, few, all))
    (subst IsUtf8 (sym (drop_front i front back few)) (IsUtf8-append (drop i front) back (IsUtf8-drop front i u b) v))

-- ---- the first word from an offset on

pub word_at : (line : List ℕ) (offset blank : ℕ) → IsUtf8 line → IsCharBoundary line offset
    → IsCharBoundary (drop offset line) blank → drop blank (drop offset line) ≡ trim_start (drop offset line)
    → IsWord line offset (offset + blank)
word_at line offset blank u b inside is = (
  IsCharBoundary-from_rest line offset blank b.0 inside,
  ap chars (sym (drop-drop blank offset line) ∙ is) ∙ chars-trim_start (drop offset line) (IsUtf8-drop line offset u b),
)

-- let `offset` be at most `next`, and let both be character boundaries of a UTF-8 line. If the line has only white
-- space from `offset` up to `next`, the first word from `next` on is also the first word from `offset` on (`IsWord`)
pub word_kept : (line : List ℕ) (offset next word blank : ℕ) → IsUtf8 line → offset ≤ next → IsCharBoundary line offset
    → IsCharBoundary line next
    → drop blank (slice_range line offset next) ≡ trim_start (slice_range line offset next)
    → blank ≡ length (slice_range line offset next)
    → IsWord line next word → IsWord line offset word
word_kept line offset next word blank u l b d is all w =
    let gap = slice_range line offset next in
    let none : trim_start gap ≡ [] = sym is ∙ ap (λ n. drop n gap) all ∙ drop_all gap in
    let split : chars (drop offset line) ≡ chars gap ++ chars (drop next line) = ap chars
    (drop_split line offset next l) ∙ chars-append gap (drop next line) (IsUtf8-between line offset next u l b d) in (
      w.0,
      w.1
          ∙ sym
          (ap skip_leading_whitespace split ∙ skip-all (chars gap) (chars (drop next line)) (skipped_none gap none)),
    )

-- let `offset` be at most `next`, and let both be character boundaries of a UTF-8 line. Let `blank` be the length in
-- bytes of the white space at the start of the slice from `offset` to `next`. If this slice has a character that is not
-- white space, the first word from `offset` on starts at `offset + blank`, which is before `next`
pub word_found : (line : List ℕ) (offset next blank : ℕ) → IsUtf8 line → offset ≤ next → IsCharBoundary line offset
    → IsCharBoundary line next
    → drop blank (slice_range line offset next) ≡ trim_start (slice_range line offset next)
    → blank ≢ length (slice_range line offset next) → IsCharBoundary (slice_range line offset next) blank
    → IsWord line offset (offset + blank)
word_found line offset next blank u l b d is few inside =
    let gap = slice_range line offset next in
    let rest = drop next line in
    let split : drop offset line ≡ gap ++ rest = drop_split line offset next l in
    let v = IsUtf8-between line offset next u l b d in
    let w = IsUtf8-drop line next u d in
    let within = inside.0 in
    let left : length (drop blank gap) ≡ length gap - blank = length-drop blank gap in
    let some : trim_start gap ≢ [] =
    λ none. (let empty : length (drop blank gap) ≡ 0 = ap length (is ∙ none) in few (omega arith)) in
    let at : drop (offset + blank) line ≡ drop blank gap ++ rest =
    sym (drop-drop blank offset line) ∙ ap (drop blank) split ∙ drop_front blank gap rest within in (
      IsCharBoundary-from_rest line offset blank b.0
          (subst (λ t. IsCharBoundary t blank) (sym split) (boundary_in_front gap rest blank v w inside)),
      ap chars at ∙ chars-append (drop blank gap) rest (IsUtf8-drop gap blank v inside)
          ∙ ap (λ cs. cs ++ chars rest) (ap chars is ∙ chars-trim_start gap v)
          ∙ sym (skip-some (chars gap) (chars rest) (skipped_some gap some))
          ∙ sym (ap skip_leading_whitespace (ap chars split ∙ chars-append gap rest v)),
    )

-- ---- the end of the characters of an identifier

pass-all : (test : ℕ → Bool) (xs ys : List ℕ) → list_all test xs ≡ true
    → take_while test (xs ++ ys) ≡ xs ++ take_while test ys
pass-all test [] ys e = refl
pass-all test (x ∷ xs) ys e =
    let both = and_parts (test x) (list_all test xs) e in
    take_while-more test x (xs ++ ys) both.0 ∙ ap (λ zs. x ∷ zs) (pass-all test xs ys both.1)

pass-some : (test : ℕ → Bool) (xs ys : List ℕ) → list_all test xs ≡ false
    → take_while test (xs ++ ys) ≡ take_while test xs
pass-some test [] ys e = cc
pass-some test (x ∷ xs) ys e =
    elim (cases_Bool (test x)) [
      | inl t ↦ take_while-more test x (xs ++ ys) t ∙ ap (λ zs. x ∷ zs) (pass-some test xs ys (rw t at e))
          ∙ sym (take_while-more test x xs t)
      | inr t ↦ take_while-end test x (xs ++ ys) t ∙ sym (take_while-end test x xs t)
    ]

all_pass-bytes : (test : ℕ → Bool) (text : List ℕ) → IsUtf8 text
    → (passing_bytes test (chars text) == length text) ≡ list_all test (chars text)
all_pass-bytes test text u =
    let passing : passing_bytes test (chars text) ≡ 0 + passing_bytes test (chars text) = omega arith in
    let all : length text ≡ 0 + length (encode_utf8_all (chars text)) =
    ap length (sym (encodes-chars text u)) ∙ omega arith in
    ap₂ (λ a b. a == b) passing all ∙ all_pass test (chars text) 0

passing-all : (test : ℕ → Bool) (gap rest : List ℕ) → IsUtf8 gap → passing_bytes test (chars gap) ≡ length gap
    → passing_bytes test (chars (gap ++ rest)) ≡ length gap + passing_bytes test (chars rest)
passing-all test gap rest u e =
    let all : list_all test (chars gap) ≡ true =
    sym (all_pass-bytes test gap u) ∙ (Decides-eqb (passing_bytes test (chars gap)) (length gap)).1 e in
    ap (passing_bytes test) (chars-append gap rest u)
    ∙ ap (λ cs. length (encode_utf8_all cs)) (pass-all test (chars gap) (chars rest) all)
    ∙ ap length (encodes-append (chars gap) (take_while test (chars rest)))
    ∙ length-append (encode_utf8_all (chars gap)) (encode_utf8_all (take_while test (chars rest)))
    ∙ ap (λ t. length t + passing_bytes test (chars rest)) (encodes-chars gap u)

passing-some : (test : ℕ → Bool) (gap rest : List ℕ) → IsUtf8 gap → passing_bytes test (chars gap) ≢ length gap
    → passing_bytes test (chars (gap ++ rest)) ≡ passing_bytes test (chars gap)
passing-some test gap rest u few =
    let part : list_all test (chars gap) ≡ false = sym (all_pass-bytes test gap u) ∙ apart in
    ap (passing_bytes test) (chars-append gap rest u)
    ∙ ap (λ cs. length (encode_utf8_all cs)) (pass-some test (chars gap) (chars rest) part)
  where
    apart : (passing_bytes test (chars gap) == length gap) ≡ false
    apart = elim (cases_Bool (passing_bytes test (chars gap) == length gap)) [
      | inl e ↦ absurd (few ((Decides-eqb (passing_bytes test (chars gap)) (length gap)).0 e))
      | inr e ↦ e
    ]

pub end_at : (line : List ℕ) (word len : ℕ) → IsCharBoundary line word → IsCharBoundary (drop word line) len
    → len ≡ passing_bytes is_part (chars (drop word line)) → IsWordEnd line word (word + len)
end_at line word len b inside e = (IsCharBoundary-from_rest line word len b.0 inside, ap (λ n. word + n) e)

-- if all characters from `word` up to `next` can continue an identifier, the runs from both offsets have the same end
pub end_kept : (line : List ℕ) (word next end len : ℕ) → IsUtf8 line → word ≤ next → IsCharBoundary line word
    → IsCharBoundary line next
    → len ≡ passing_bytes is_part (chars (slice_range line word next)) → len ≡ length (slice_range line word next)
    → IsWordEnd line next end → IsWordEnd line word end
end_kept line word next end len u l b d is all e =
    let gap = slice_range line word next in
    let passed = passing-all is_part gap (drop next line) (IsUtf8-between line word next u l b d) (sym is ∙ all) in
    let whole : passing_bytes is_part (chars (drop word line)) ≡ length gap + passing_bytes is_part (chars
    (drop next line)) = ap (λ t. passing_bytes is_part (chars t)) (drop_split line word next l) ∙ passed in
    let long : length line - word ≡ length gap + (length line - next) =
    sym (length-drop word line) ∙ ap length (drop_split line word next l) ∙ length-append gap (drop next line)
    ∙ ap (λ n. length gap + n) (length-drop next line) in
    let within = d.0 in
    let end_is = e.1 in
    (e.0, omega (arith, whole, long, within, end_is))

-- if not all characters from `word` up to `next` can continue an identifier, the run from `word` ends before `next`
pub end_found : (line : List ℕ) (word next len : ℕ) → IsUtf8 line → word ≤ next → IsCharBoundary line word
    → IsCharBoundary line next
    → len ≡ passing_bytes is_part (chars (slice_range line word next)) → len ≢ length (slice_range line word next)
    → IsCharBoundary (slice_range line word next) len
    → IsWordEnd line word (word + len)
end_found line word next len u l b d is few inside =
    let gap = slice_range line word next in
    let split : drop word line ≡ gap ++ drop next line = drop_split line word next l in
    let v = IsUtf8-between line word next u l b d in
    let passed = passing-some is_part gap (drop next line) v (λ all. few (is ∙ all)) in
    end_at line word len b (subst (λ t. IsCharBoundary t len) (sym split)
    (boundary_in_front gap (drop next line) len v (IsUtf8-drop line next u d) inside))
    (is ∙ sym (ap (λ t. passing_bytes is_part (chars t)) split ∙ passed))

-- ---- the identifier of a word

passing_none : (cs : List ℕ) → first_passes is_start cs ≡ true → passing_bytes is_part cs ≢ 0
passing_none [] e none = cc
passing_none (c ∷ cs) e none =
    let some = encoded_some c (take_while is_part cs) in
    let same : passing_bytes is_part (c ∷ cs) ≡ length (encode_utf8_all (c ∷ take_while is_part cs)) =
    ap (λ xs. length (encode_utf8_all xs)) (take_while-more is_part c cs (start_is_part c e)) in
    absurd (omega arith)

pub token_of_word : (line : List ℕ) (offset word : ℕ) → IsWord line offset word
    → token_at_start (drop offset line) ≡ unless_empty (identifier_at_start (chars (drop word line)))
token_of_word line offset word w =
    ap unless_empty
    (identifier_of_word (skip_leading_whitespace (chars (drop offset line))) ∙ ap identifier_at_start (sym w.1))

pub identifier_there : (line : List ℕ) (offset word end : ℕ) → IsUtf8 (drop word line) → IsWord line offset word
    → IsWordEnd line word end
    → first_passes is_start (chars (drop word line)) ≡ true
    → Some (slice_range line word end) ≡ token_at_start (drop offset line)
identifier_there line offset word end u w e starts =
    let words = chars (drop word line) in
    let same : identifier_at_start words ≡ take_while is_part words =
    identifier-by-parts words ∙ ap (λ t. cond t (take_while is_part words) []) starts in
    let end_is = e.1 in
    let len : end - word ≡ passing_bytes is_part words = omega (arith, end_is) in
    identifier_front (drop word line) (end - word) u (len ∙ ap (λ cs. length (encode_utf8_all cs)) (sym same))
    (λ none. passing_none words starts (sym len ∙ none))
    ∙ sym (token_of_word line offset word w)

pub identifier_none : (line : List ℕ) (offset word : ℕ) → IsWord line offset word
    → first_passes is_start (chars (drop word line)) ≡ false → None ≡ token_at_start (drop offset line)
identifier_none line offset word w starts =
    let words = chars (drop word line) in
    let same : identifier_at_start words ≡ [] =
    identifier-by-parts words ∙ ap (λ t. cond t (take_while is_part words) []) starts in
    sym (token_of_word line offset word w ∙ ap unless_empty same)

-- `identifier_from` is what `token_at_start` finds from `offset` on if `units` is at least `col`, otherwise `None`
pub identifier_far : (line : List ℕ) (col offset units : ℕ) → col ≤ units
    → token_at_start (drop offset line) ≡ identifier_from line col offset units
identifier_far line col offset units l = let far : nat_le col units ≡ true = grind (arith, nat_tests) in rw far refl

pub identifier_short : (line : List ℕ) (col offset units : ℕ) → units < col
    → None ≡ identifier_from line col offset units
identifier_short line col offset units l = let short : nat_le col units ≡ false = grind (arith, nat_tests) in
    rw short refl

-- ---- an identifier that is compared with a name

named : (n : ℕ) (ns rest : List ℕ) → is_start n ≡ true → list_all is_part ns ≡ true
    → identifier_at_start (n ∷ (ns ++ rest)) ≡ (n ∷ ns) ++ take_while is_part rest
named n ns rest starts all = rw starts (ap (λ cs. n ∷ cs) (pass-all is_part ns rest all))

same_name : (name more : List ℕ) (cs : List ℕ) → more ≡ encode_utf8_all (take_while is_part cs)
    → not (first_passes is_part cs) ≡ bytes_eq (name ++ more) name
same_name name more [] e = let none = ap (λ m. name ++ m) e ∙ append-nil name in
    sym ((bytes_eq-Decides (name ++ more) name).1 none)
same_name name more (c ∷ cs) e =
    elim (cases_Bool (is_part c)) [
      | inl part ↦
          let some = encoded_some c (take_while is_part cs) in
          let long : more ≡ encode_utf8_all (c ∷ take_while is_part cs) =
          e ∙ ap encode_utf8_all (take_while-more is_part c cs part) in
          let bytes = ap length long in
          let all = length-append name more in
          rw part (elim (cases_Bool (bytes_eq (name ++ more) name)) [
            | inl same ↦ (let equal = ap length ((bytes_eq-Decides (name ++ more) name).0 same) in absurd (omega arith))
            | inr apart ↦ sym apart
          ])
      | inr part ↦
          let none =
          ap (λ m. name ++ m) (e ∙ ap encode_utf8_all (take_while-end is_part c cs part)) ∙ append-nil name in
          rw part (sym ((bytes_eq-Decides (name ++ more) name).1 none))
    ]

named_bytes : (cs rest name : List ℕ) → is_identifier cs ≡ true → encode_utf8_all cs ≡ name → name ≢ []
    → not (first_passes is_part rest) ≡ is_text name (unless_empty (identifier_at_start (cs ++ rest)))
named_bytes [] rest name valid spelt some = absurd (some (sym spelt))
named_bytes (n ∷ ns) rest name valid spelt some =
    let both = and_parts (is_start n) (list_all is_part ns) valid in
    let is : identifier_at_start (n ∷ (ns ++ rest)) ≡ n ∷ (ns ++ take_while is_part rest) =
    named n ns rest both.0 both.1 in
    let bytes : encode_utf8_all (n ∷ (ns ++ take_while is_part rest))
    ≡ name ++ encode_utf8_all (take_while is_part rest) = encodes-append (n ∷ ns) (take_while is_part rest) ∙ ap (λ t. t
    ++ encode_utf8_all (take_while is_part rest)) spelt in
    same_name name (encode_utf8_all (take_while is_part rest)) rest refl ∙ sym (ap (λ t. bytes_eq t name) bytes)
    ∙ sym (ap (λ i. is_text name (unless_empty i)) is)

-- let `text` be `name ++ rest`, and let `name` be an identifier and not empty. The longest identifier at the start of
-- `text` is `name` exactly if `rest` does not start with a character that can continue an identifier
pub named_if : (text rest name : List ℕ) → IsUtf8 name → is_identifier (chars name) ≡ true → name ≢ []
    → text ≡ name ++ rest
    → not (first_passes is_part (chars rest)) ≡ is_text name (unless_empty (identifier_at_start (chars text)))
named_if text rest name u valid some e =
    named_bytes (chars name) (chars rest) name valid (encodes-chars name u) some
    ∙ ap (λ cs. is_text name (unless_empty (identifier_at_start cs))) (sym (ap chars e ∙ chars-append name rest u))

-- let `text` be UTF-8. If `text` does not start with `name`, or `name` is empty, then the longest identifier at the
-- start of `text`, if any, is not `name`
pub named_not : (text name : List ℕ) → IsUtf8 text → ((rest : List ℕ) → text ≡ name ++ rest → name ≡ [])
    → false ≡ is_text name (unless_empty (identifier_at_start (chars text)))
named_not text name u apart =
    let whole = identifier_begins (chars text) in
    let spelt : text ≡ encode_utf8_all (identifier_at_start (chars text)) ++ encode_utf8_all whole.0 = sym
    (encodes-chars text u) ∙ ap encode_utf8_all whole.1 ∙ encodes-append (identifier_at_start (chars text)) whole.0 in
    other (identifier_at_start (chars text)) (encode_utf8_all whole.0) spelt
  where
    other : (cs rest : List ℕ) → text ≡ encode_utf8_all cs ++ rest → false ≡ is_text name (unless_empty cs)
    other [] rest e = refl
    other (c ∷ cs) rest e = elim (cases_Bool (bytes_eq (encode_utf8_all (c ∷ cs)) name)) [
      | inl same ↦
          let equal : encode_utf8_all (c ∷ cs) ≡ name = (bytes_eq-Decides (encode_utf8_all (c ∷ cs)) name).0 same in
          let none = ap length (equal ∙ apart rest (e ∙ ap (λ t. t ++ rest) equal)) in
          let some = encoded_some c cs in
          absurd (omega arith)
      | inr differs ↦ sym differs
    ]

pub empty_from_length : (xs : List ℕ) → (length xs == 0) ≡ true → xs ≡ []
empty_from_length [] e = refl
empty_from_length (x ∷ xs) e = absurd (grind (arith, nat_tests))

pub some_from_length : (xs : List ℕ) → (length xs == 0) ≡ false → xs ≢ []
some_from_length [] e none = absurd (grind (arith, nat_tests))
some_from_length (x ∷ xs) e none = cc
