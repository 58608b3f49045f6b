-- The escapes of the bytes that end a run.
use Rattle.std.proofs.Common.{◌-◌, take, take-add, drop-drop, ◌≡◌, ◌≢◌, ℕ, ◌+◌, ◌/◌, ◌%◌, ◌<◌, true, List, [], ◌∷◌}
use Rattle.std.proofs.Common.{◌++◌, map, get_or, length, drop, refl, sym, ap, ◌∙◌, arith, lt-ltb, append_assoc}
use Rattle.std.proofs.lemmas.Bool.{not-false}
use Rattle.std.proofs.lemmas.List.{get_or-drop, length-drop}
use Rattle.std.proofs.lemmas.List.FromFn.{get_or-map-range_with_len}
use Rattle.std.proofs.lemmas.List.Sums.{prefix_len_stops}
use Rattle.std.specs.Char.{digit_char}
use Rattle.std.specs.List.{prefix_len, range_with_len}
use Rattle.json.specs.Print.{escape, escape_byte, escape_letter}
use Rattle.json.proofs.Printed.Room.{moved}
use Rattle.json.proofs.Printed.Strings.{escape_to_stop, escape_at}
use Rattle.sourcemap_json_read.specs.Runs.{is_plain, is_stop}
use Rattle.sourcemap_json_write.specs.declared.quoting.TheConstants.{LETTERS}

-- for each control byte, `LETTERS` has the letter of its short escape, or 0 if the byte has no short escape
table_is : LETTERS ≡ map escape_letter (range_with_len 0 32)
table_is = refl

pub letter_of_control : (x : ℕ) → x < 32 → get_or LETTERS x 0 ≡ escape_letter x
letter_of_control x h =
    ap (λ t. get_or t x 0) table_is ∙ get_or-map-range_with_len escape_letter 0 32 x x 0 h (omega arith)

pub escape_by_letter : (x : ℕ) → escape_letter x ≢ 0 → escape_byte x ≡ 92 ∷ escape_letter x ∷ []
unfolding escape_byte
escape_by_letter x some = rw (lt-ltb 0 (escape_letter x) (omega arith))

pub escape_by_code : (x : ℕ) → x < 32 → escape_letter x ≡ 0
    → escape_byte x ≡ 92 ∷ 117 ∷ 48 ∷ 48 ∷ (48 + x / 16) ∷ digit_char (x % 16) ∷ []
unfolding escape_byte
escape_by_code x control none =
    let first : digit_char (x / 16) ≡ 48 + x / 16 = rw (lt-ltb (x / 16) 10 (omega arith)) in
    rw (none, lt-ltb x 32 control, first) refl

-- the byte after a run of plain bytes is a stop
pub stop_at : (text : List ℕ) (at end : ℕ) → end ≡ at + prefix_len is_plain (drop at text) → end < length text
    → is_stop (get_or text end 0) ≡ true
stop_at text at end is inside =
    let n = prefix_len is_plain (drop at text) in
    let here : get_or (drop at text) n 0 ≡ get_or text end 0 =
    get_or-drop at text n 0 ∙ ap (λ k. get_or text k 0) (omega (arith, is)) in
    let stops = prefix_len_stops is_plain (drop at text) 0 (omega (arith, is, length-drop at text)) in
    not-false _ (sym (ap is_plain here) ∙ stops)

pub then : (a b c xs ys : List ℕ) → b ≡ a ++ xs → c ≡ b ++ ys → c ≡ a ++ (xs ++ ys)
then a b c xs ys first second = second ∙ ap (λ l. l ++ ys) first ∙ append_assoc a xs ys

-- ---- bytes that are written, and those that are left

abbrev left : List ℕ → ℕ → List ℕ
left text at = escape (drop at text) ++ 34 ∷ []

-- a block of plain bytes is its own escaped text
plain_block : (text : List ℕ) (at n : ℕ) → prefix_len is_plain (drop at text)
    ≡ n + prefix_len is_plain (drop (at + n) text) → left text at ≡ take n (drop at text) ++ left text (at + n)
plain_block text at n goes_on =
    let m = prefix_len is_plain (drop (at + n) text) in
    let xs = drop at text in
    let stop = at + n + m in
    let rest = left text stop in
    let count : stop - at ≡ n + m = omega arith in
    let more : m ≡ stop - (at + n) = omega arith in
    escape_to_stop text at stop (34 ∷ []) (omega (arith, goes_on)) ∙ ap (λ k. take k xs ++ rest) count
    ∙ ap (λ l. l ++ rest) (take-add n m xs) ∙ append_assoc (take n xs) (take m (drop n xs)) rest
    ∙ ap (λ l. take n xs ++ l) (ap (λ ys. take m ys ++ rest) (drop-drop n at text) ∙ ap (λ k. take k
    (drop (at + n) text) ++ rest) more ∙ sym (escape_to_stop text (at + n) stop (34 ∷ []) (omega arith)))

-- a whole run of plain bytes is its own escaped text
whole_run : (text : List ℕ) (at n : ℕ) → prefix_len is_plain (drop at text) ≡ n
    → left text at ≡ take n (drop at text) ++ left text (at + n)
whole_run text at n is =
    let count : at + n - at ≡ n = omega arith in
    escape_to_stop text at (at + n) (34 ∷ []) (omega (arith, is))
    ∙ ap (λ k. take k (drop at text) ++ left text (at + n)) count

pub block_put : (old new whole text : List ℕ) (at n : ℕ)
    → prefix_len is_plain (drop at text) ≡ n + prefix_len is_plain (drop (at + n) text)
    → new ≡ old ++ take n (drop at text) → old ++ left text at ≡ whole → new ++ left text (at + n) ≡ whole
block_put old new whole text at n goes_on put is = moved old new _ _ _ whole put (plain_block text at n goes_on) is

pub run_put : (old new whole text : List ℕ) (at n : ℕ) → prefix_len is_plain (drop at text) ≡ n
    → new ≡ old ++ take n (drop at text) → old ++ left text at ≡ whole → new ++ left text (at + n) ≡ whole
run_put old new whole text at n ends put is = moved old new _ _ _ whole put (whole_run text at n ends) is

pub escape_put : (old new whole text : List ℕ) (at letter : ℕ)
    → at < length text → letter ≡ escape_letter (get_or text at 0) → letter ≢ 0 → new ≡ old ++ 92 ∷ letter ∷ []
    → old ++ left text at ≡ whole → new ++ left text (at + 1) ≡ whole
escape_put old new whole text at letter inside named some put is =
    let letters : escape_byte (get_or text at 0) ≡ 92 ∷ letter ∷ [] =
    escape_by_letter (get_or text at 0) (λ none. some (named ∙ none)) ∙ ap (λ l. 92 ∷ l ∷ []) (sym named) in
    moved old new _ _ _ whole put (escape_at text at (34 ∷ []) inside ∙ ap (λ l. l ++ left text (at + 1)) letters) is
