-- UTF-8 along a text, character by character.
use Rattle.std.proofs.Common.{◌≡◌, ℕ, zero, suc, ◌+◌, ◌<◌, ◌≤◌, Bool, true, false, ◌&&◌, cond, nat_lt, List, [], ◌∷◌}
use Rattle.std.proofs.Common.{◌++◌, length, take, drop, get_or, refl, sym, subst, arith, lit<, length-append}
use Rattle.std.proofs.lemmas.Bool.{and_parts}
use Rattle.std.proofs.lemmas.Bool.Decides.{nat_tests}
use Rattle.std.proofs.lemmas.List.{drop-drop, drop_at, drop_more, take_at, take-append-drop}
use Rattle.std.proofs.lemmas.Str.{IsCharBoundary-from_take, IsCharBoundary-start, IsUtf8-append, IsUtf8-drop}
use Rattle.std.proofs.lemmas.Str.{IsUtf8-from_ascii, IsUtf8-nil, IsUtf8-take}
use Rattle.std.specs.List.{prefix_len}
use Rattle.std.specs.Str.{IsAscii, IsCharBoundary, IsUtf8}
use Rattle.sourcemap_json_read.specs.Runs.{is_bare}
use Rattle.sourcemap_json_read.specs.Strings.{IsUtf8UpTo}
use Rattle.sourcemap_json_read.specs.Words.{IsWordAt}
use lib.Seq.{get_or-append_seam}

one_ascii : (c : ℕ) → c < 128 → IsAscii (c ∷ [])
one_ascii c small zero = small
one_ascii c small (suc i) = lit< tt

pub utf8_one : (c : ℕ) → c < 128 → IsUtf8 (c ∷ [])
utf8_one c small = IsUtf8-from_ascii (c ∷ []) (one_ascii c small)

pub utf8_cons : (x : ℕ) (xs : List ℕ) → x < 128 → IsUtf8 xs → IsUtf8 (x ∷ xs)
utf8_cons x xs small rest = IsUtf8-append (x ∷ []) xs (utf8_one x small) rest

-- ---- where a text may be cut

-- if a UTF-8 text contains `added`, which is UTF-8 and not empty, the parts before and after `added` are UTF-8
pub cut_around : (front added rest : List ℕ) → IsUtf8 added → 0 < length added → IsUtf8 (front ++ (added ++ rest))
    → IsUtf8 front × IsUtf8 rest
cut_around front [] rest added_is some utf8 = absurd (omega (arith, some))
cut_around front (x ∷ xs) rest added_is some utf8 =
    let tail = xs ++ rest in
    let bytes = front ++ x ∷ tail in
    let n = length front in
    let inside : n < length bytes = omega (arith, length-append front (x ∷ tail)) in
    let is_step = (IsCharBoundary-start (x ∷ xs) added_is).1 (omega arith) in
    let here : get_or bytes n 0 ≡ x = omega (arith, get_or-append_seam front x tail 0) in
    let cut : IsCharBoundary bytes n =
    (omega (arith, inside), λ _ high. omega (arith, here, is_step (omega (arith, here, high)))) in
    let after : IsUtf8 ((x ∷ xs) ++ rest) =
    subst IsUtf8 (drop_at front (x ∷ tail) n refl) (IsUtf8-drop bytes n utf8 cut) in
    let m = length (x ∷ xs) in
    let second = IsCharBoundary-from_take ((x ∷ xs) ++ rest) m after (omega
    (arith, length-append (x ∷ xs) rest)) (subst IsUtf8 (sym (take_at (x ∷ xs) rest m refl)) added_is) in (
      subst IsUtf8 (take_at front (x ∷ tail) n refl) (IsUtf8-take bytes n utf8 cut),
      subst IsUtf8 (drop_at (x ∷ xs) rest m refl) (IsUtf8-drop ((x ∷ xs) ++ rest) m after second),
    )

-- ---- UTF-8 up to an index

pub utf8_on : (text : List ℕ) (i j k : ℕ) → IsUtf8UpTo text i j → IsUtf8UpTo text j k → IsUtf8UpTo text i k
utf8_on text i j k first second = λ rest. first (second rest)

pub ascii_passed : (text : List ℕ) (at : ℕ) → at < length text → get_or text at 32 < 128 → IsUtf8UpTo text at (at + 1)
ascii_passed text at inside small =
    λ rest. subst IsUtf8 (sym (drop_more text at 32 inside))
    (utf8_cons (get_or text at 32) (drop (at + 1) text) small rest)

pub word_passed : (text : List ℕ) (from : ℕ) (word : List ℕ) (end : ℕ) → IsWordAt text from word end → IsUtf8 word
    → IsUtf8UpTo text from end
word_passed text from word end there word_is =
    λ rest. subst IsUtf8 (sym there.0) (IsUtf8-append word (drop end text) word_is rest)

pub run_passed : (text : List ℕ) (from n : ℕ) → IsUtf8 (take n (drop from text)) → IsUtf8UpTo text from (from + n)
run_passed text from n run_is =
    λ rest. subst IsUtf8 (take-append-drop n (drop from text)) (IsUtf8-append (take n (drop from text))
    (drop n (drop from text)) run_is (subst IsUtf8 (sym (drop-drop n from text)) rest))

-- ---- runs of ASCII

abbrev are_low : List ℕ → Bool
are_low [] = true
are_low (x ∷ xs) = nat_lt x 128 && are_low xs

below_128 : (x : ℕ) → nat_lt x 128 ≡ true → x < 128
below_128 x low = grind (arith, nat_tests)

pub low_utf8 : (xs : List ℕ) → are_low xs ≡ true → IsUtf8 xs
low_utf8 [] low = IsUtf8-nil
low_utf8 (x ∷ xs) low =
    let both = and_parts (nat_lt x 128) (are_low xs) low in
    utf8_cons x xs (below_128 x both.0) (low_utf8 xs both.1)

bare_is_ascii : (x : ℕ) → is_bare x ≡ true → x < 128
bare_is_ascii x bare = grind (arith, nat_tests)

first_bare : (b : Bool) (x n : ℕ) (xs : List ℕ) → is_bare x ≡ b → suc n ≤ cond b (1 + prefix_len is_bare xs) 0
    → (n ≤ prefix_len is_bare xs → IsUtf8 (take n xs)) → IsUtf8 (x ∷ take n xs)
first_bare false x n xs e few rest = absurd (omega arith)
first_bare true x n xs e few rest = utf8_cons x (take n xs) (bare_is_ascii x e) (rest (omega arith))

pub bare_run_utf8 : (n : ℕ) (xs : List ℕ) → n ≤ prefix_len is_bare xs → IsUtf8 (take n xs)
bare_run_utf8 zero xs few = IsUtf8-nil
bare_run_utf8 (suc n) [] few = absurd (omega arith)
bare_run_utf8 (suc n) (x ∷ xs) few = first_bare (is_bare x) x n xs refl few (bare_run_utf8 n xs)
