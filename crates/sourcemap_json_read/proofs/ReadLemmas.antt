-- Decoding of a string up to an index, step by step.
use Rattle.std.proofs.Common.{◌≡◌, ℕ, ◌+◌, ◌-◌, ◌<◌, ◌≤◌, true, List, [], ◌∷◌, ◌++◌, length, take, drop, get_or, Some}
use Rattle.std.proofs.Common.{sym, ap, ap₂, ◌∙◌, subst, arith, lit<, append_assoc, take-take, length-take-le}
use Rattle.std.proofs.lemmas.List.{drop-drop, drop_more, take_rest, take-append-drop, take-append-le, get_or_default}
use Rattle.std.proofs.lemmas.Str.{IsUtf8-append}
use Rattle.std.specs.List.{prefix_len}
use Rattle.std.specs.Str.{IsUtf8}
use Rattle.json.specs.Filled.{Placed}
use Rattle.json.specs.Lex.{between, in_string, lex}
use Rattle.json.specs.Text.{content, plain, prepend, short_escape}
use Rattle.sourcemap_json_read.specs.Runs.{is_plain}
use Rattle.sourcemap_json_read.specs.Strings.{IsReadUpTo, IsUtf8UpTo, IsDecodedBetween, SpellsByte}
use Rattle.sourcemap_json_read.proofs.EscapeLemmas.{escape_there, IsDecodedBetween-escape}
use Rattle.sourcemap_json_read.proofs.RunLemmas.{cut_back}
use Rattle.sourcemap_json_read.proofs.StringLemmas.{prepend-append, prepend-nil, quote_ends, IsDecodedBetween-plain}
use Rattle.sourcemap_json_read.proofs.StringLemmas.{IsDecodedBetween-run}
use Rattle.sourcemap_json_read.proofs.Utf8Lemmas.{cut_around, utf8_cons, utf8_one}

pub read_on : (a b c text : List ℕ) (i j k : ℕ) → IsReadUpTo a text i b j → IsReadUpTo b text j c k
    → IsReadUpTo a text i c k
read_on a b c text i j k first second = record {
  bytes = second.bytes ∙ first.bytes;
  goes_on = second.goes_on ∙ first.goes_on;
  utf8 = λ u. first.utf8 (second.utf8 u);
}

step : (old new added text : List ℕ) (at next : ℕ)
    → new ≡ old ++ added → IsDecodedBetween (drop at text) added (drop next text)
    → (IsUtf8 (new ++ drop next text) → IsUtf8 (old ++ drop at text))
    → IsReadUpTo old text at new next
step old new added text at next put decodes utf8 = record {
  bytes = ap (λ s. prepend s (content plain (drop next text))) put
      ∙ sym (prepend-append old added (content plain (drop next text))) ∙ ap (prepend old) (sym decodes.bytes);
  goes_on = sym decodes.goes_on;
  utf8 = utf8;
}

-- plain bytes decode to themselves
pub run_read : (old new text : List ℕ) (at n : ℕ) → n ≤ prefix_len is_plain (drop at text)
    → new ≡ old ++ take n (drop at text) → IsReadUpTo old text at new (at + n)
run_read old new text at n few put =
    let xs = drop at text in
    let after : drop n xs ≡ drop (at + n) text = drop-drop n at text in
    let whole : old ++ xs ≡ new ++ drop (at + n) text = ap (λ ys. old ++ ys) (sym (take-append-drop n xs))
    ∙ sym (append_assoc old (take n xs) (drop n xs)) ∙ ap₂ (λ a b. a ++ b) (sym put) after in
    step old new (take n xs) text at (at + n) put
    (subst (IsDecodedBetween xs (take n xs)) after (IsDecodedBetween-run n xs few)) (subst IsUtf8 (sym whole))

pub byte_read : (old new text : List ℕ) (at : ℕ) → at < length text → is_plain (get_or text at 0) ≡ true
    → new ≡ old ++ get_or text at 0 ∷ [] → IsReadUpTo old text at new (at + 1)
byte_read old new text at inside plain_byte put =
    let x = get_or text at 0 in
    let rest = drop (at + 1) text in
    let there : drop at text ≡ x ∷ rest = drop_more text at 0 inside in
    let whole : old ++ drop at text ≡ new ++ rest =
    ap (λ ys. old ++ ys) there ∙ sym (append_assoc old (x ∷ []) rest) ∙ ap (λ bytes. bytes ++ rest) (sym put) in
    step old new (x ∷ []) text at (at + 1) put (subst (λ before. IsDecodedBetween before (x ∷ []) rest) (sym there)
    (IsDecodedBetween-plain x rest plain_byte)) (subst IsUtf8 (sym whole))

-- ---- escapes

-- let the bytes from `at` to `next` decode to `added`, and let `added` be UTF-8 and not empty. If the text from `at` on
-- is UTF-8 whenever the text from `next` on is UTF-8 (`IsUtf8UpTo`), appending `added` is a step of decoding
-- (`IsReadUpTo`)
pub added_read : (old new added text : List ℕ) (at next : ℕ) → IsUtf8 added → 0 < length added
    → IsDecodedBetween (drop at text) added (drop next text) → IsUtf8UpTo text at next → new ≡ old ++ added
    → IsReadUpTo old text at new next
added_read old new added text at next added_is some decodes passed put =
    step old new added text at next put decodes (λ utf8.
    let parts = cut_around old added (drop next text) added_is some (subst IsUtf8
    (ap (λ bytes. bytes ++ drop next text) put ∙ append_assoc old added (drop next text)) utf8) in
    IsUtf8-append old (drop at text) parts.0 (passed parts.1))

pub escape_read : (old new text : List ℕ) (at c : ℕ) → at + 2 ≤ length text → SpellsByte text at c → new ≡ old ++ c ∷ []
    → IsReadUpTo old text at new (at + 2)
escape_read old new text at c inside spells put =
    let rest = drop (at + 2) text in
    let x = get_or text (at + 1) 32 in
    let same : x ≡ get_or text (at + 1) 0 = omega (arith, get_or_default text (at + 1) 0 32 (omega arith)) in
    let slash : get_or text at 32 ≡ 92 = omega (arith, get_or_default text at 0 32 (omega arith), spells.backslash) in
    let is : short_escape x ≡ Some c = ap short_escape same ∙ spells.letter in
    let there = escape_there text at c slash is in
    let low : x < 128 = omega (arith, same, spells.ascii.1) in
    let passed : IsUtf8UpTo text at (at + 2) =
    λ rest_is. subst IsUtf8 (sym there) (utf8_cons 92 (x ∷ rest) (lit< tt) (utf8_cons x rest low rest_is)) in
    added_read old new (c ∷ []) text at (at + 2) (utf8_one c spells.ascii.0) (lit< tt)
    (IsDecodedBetween-escape text at c slash is) passed put

-- ---- the buffer

-- storing a block at `to` keeps the first `to` bytes of the buffer; the next `n` bytes are the first `n` of the block
pub first_stored : (a b xs : List ℕ) (to n most : ℕ) → to ≤ length a → n ≤ most
    → Placed a b to (take most xs) (to + most) → take (to + n) b ≡ take to a ++ take n xs
first_stored a b xs to n most within few placed =
    sym (take-take (to + n) (to + most) b (omega arith))
    ∙ ap (λ k. take (k + n) (take (to + most) b)) (sym (length-take-le to a within))
    ∙ cut_back (take to a) xs (take (to + most) b) n most few placed.bytes

-- if a stored block is the first `n` bytes of the slice `text[at..]`, the block is `n` bytes of `text` from `at` on
pub rest_stored : (a b text : List ℕ) (at to n : ℕ)
    → Placed a b to (take n (take (length text - at) (drop at text))) (to + n)
    → Placed a b to (take n (drop at text)) (to + n)
rest_stored a b text at to n placed = subst (λ xs. Placed a b to (take n xs) (to + n)) (take_rest text at) placed

-- if `filled` overwrites the start of a buffer of `len` bytes, the buffer begins with the first `n` bytes of `filled`
pub front_kept : (n len : ℕ) (filled old : List ℕ) → n ≤ length filled → n ≤ len
    → take n (take len (filled ++ drop (length filled) old)) ≡ take n filled
front_kept n len filled old within few =
    take-take n len (filled ++ drop (length filled) old) few ∙ take-append-le n filled (drop (length filled) old) within

-- ---- the end of a string

-- if the bytes of a string from `start` to `stop` decode to `decoded`, a quote at `stop` ends the string
pub string_ends : (text first front decoded : List ℕ) (start at stop : ℕ) → IsReadUpTo [] text start first at
    → front ≡ first → IsReadUpTo front text at decoded stop → get_or text stop 32 ≡ 34
    → (content plain (drop start text) ≡ Some decoded) × (lex in_string (drop start text)
    ≡ lex between (drop (stop + 1) text)) × (IsUtf8 decoded → IsUtf8UpTo text start (stop + 1))
string_ends text first front decoded start at stop before same last quoted =
    let read =
    read_on [] first decoded text start at stop before (subst (λ xs. IsReadUpTo xs text at decoded stop) same last) in
    let decodes : IsDecodedBetween (drop start text) decoded (drop stop text) =
    record { bytes = sym (read.bytes ∙ prepend-nil (content plain (drop start text))); goes_on = sym read.goes_on } in
    let ends = quote_ends text decoded start stop decodes quoted in (
      ends.0,
      ends.1,
      λ decoded_is rest_is. read.utf8 (IsUtf8-append decoded (drop stop text) decoded_is (ends.2 rest_is)),
    )
