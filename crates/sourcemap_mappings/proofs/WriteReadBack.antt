-- Let there be fewer than 2^32 sources and fewer than 2^32 names. If sorted tokens satisfy `AllWithin` and `IsSmall`,
-- decoding the encoded texts of the tokens gives the reduced list (`reduced`).
use Rattle.std.proofs.Common.{◌≡◌, ℕ, ◌+◌, ◌^◌, ◌||◌, ◌<◌, ◌≤◌, suc, zero, Bool, true, false, cond, List, [], ◌∷◌, ◌++◌}
use Rattle.std.proofs.Common.{length, map, filter, Option, Some, None, Ok, refl, sym, ap, subst, ◌∙◌, inl, inr}
use Rattle.std.proofs.Common.{append_assoc, append-nil, arith, add-zero, zero-add}
use Rattle.std.specs.List.{join_with_byte, AllByRecursion, slice_index_or, last_or, list_any}
use Rattle.std.specs.Option.{option_map_or}
use Rattle.std.proofs.lemmas.List.{map-append, nil_from_length}
use Rattle.std.proofs.lemmas.Bool.Decides.{nat_tests}
use Rattle.std.proofs.lemmas.Bool.{eq-eqb}
use Rattle.sourcemap_tokens.specs.declared.tokens.RawToken.{RawToken}
use Rattle.sourcemap_tokens.specs.Tokens.{AreInOrder, AllWithin, IsWithin, with_valid_name, without_repeats, reduced}
use Rattle.sourcemap_tokens.specs.Tokens.{in_order}
use Rattle.sourcemap_vlq.specs.Bits.{bit_of, first_non_digit}
use Rattle.sourcemap_mappings.specs.Segment.{Segment, sum_at, comma, semicolon, parts_of}
use Rattle.sourcemap_mappings.specs.Read.{Line, LineText, line_tokens, tokens_of_lines, PartsRead, LineRead, LinesRead}
use Rattle.sourcemap_mappings.specs.Read.{with_range_bits, line_texts, MappingsAnswer, lines_of}
use Rattle.sourcemap_mappings.specs.Write.{is_on, is_above, last_field, base, numbers, AreSegments, IsLine, IsRangeLine}
use Rattle.sourcemap_mappings.specs.Write.{EachLine, LineByLine, line_count, IsWritten, IsRangeText}
use Rattle.sourcemap_tokens.proofs.TokensLemmas.{All-without_repeats, in_order-ordered, AreInOrder-reduced}
use Rattle.sourcemap_vlq.proofs.VlqLemmas.{Spells-Reads}
use Rattle.sourcemap_mappings.proofs.WriteTokens.{Rises, above_more, last_field-push_yes}
use Rattle.sourcemap_mappings.proofs.WriteSums.{IsSound, IsSmall, all_sound_from, segment_of, Carries, Carries-none}
use Rattle.sourcemap_mappings.proofs.WriteSums.{Carries-more, column_more, segment_sound, token_back}
use Rattle.sourcemap_mappings.proofs.WriteRanges.{no_bit}
use Rattle.sourcemap_mappings.proofs.WriteBytes.{IsFree, IsMark, Spells-free, Spells-nonempty, digits_free, join_free}
use Rattle.sourcemap_mappings.proofs.WriteBytes.{split_join}

-- Segments of a line.

-- the segments of the tokens `ts` of one line. The tokens `before` come before `ts`, and the first segment has the
-- index `at`
segments_of : ℕ → ℕ → List RawToken → List RawToken → List Segment
segments_of names at before [] = []
segments_of names at before (t ∷ ts) = segment_of names at before t ∷ segments_of names (at + 1) (before ++ t ∷ []) ts

segments_read : (sources names at : ℕ) (before ts : List RawToken) (all : List Segment) (parts : List (List ℕ))
    → sources < 2 ^ 32 → names < 2 ^ 32 → AllByRecursion (IsSound sources names) ts → Carries names before all
    → AreSegments names before ts parts
    → PartsRead (record { sources = sources; names = names }) at all parts (segments_of names at before ts)
unfolding segments_of
segments_read sources names at before [] all parts few few_names sound c are =
    subst (λ (ps : List (List ℕ)). PartsRead (record { sources = sources; names = names }) at all ps []) (sym are) refl
segments_read sources names at before (t ∷ ts) all [] few few_names sound c are = absurd are
segments_read sources names at before (t ∷ ts) all ([] ∷ parts) few few_names sound c are =
    absurd (Spells-nonempty _ _ are.0)
segments_read sources names at before (t ∷ ts) all ((x ∷ xs) ∷ parts) few few_names sound c are =
    let more = Carries-more sources names at before all t few few_names sound.0 c in (
      (
        refl,
        Spells-Reads (numbers names (base names t.dst_line before) t) (x ∷ xs) are.0,
        segment_sound sources names at before (all ++ segment_of names at before t ∷ []) t few sound.0 more,
      ),
      segments_read sources names (at + 1) (before ++ t ∷ []) ts
          (all ++ segment_of names at before t ∷ []) parts few few_names sound.1 more are.1,
    )

carries_line : (sources names at : ℕ) (before ts : List RawToken) (all : List Segment)
    → sources < 2 ^ 32 → names < 2 ^ 32 → AllByRecursion (IsSound sources names) ts → Carries names before all
    → Carries names (before ++ ts) (all ++ segments_of names at before ts)
unfolding segments_of
carries_line sources names at before [] all few few_names sound c =
    subst (λ (us : List RawToken). Carries names us (all ++ [])) (sym (append-nil before))
    (subst (λ (ss : List Segment). Carries names before ss) (sym (append-nil all)) c)
carries_line sources names at before (t ∷ ts) all few few_names sound c =
    let s = segment_of names at before t in
    let later = segments_of names (at + 1) (before ++ t ∷ []) ts in
    let rest = carries_line sources names (at + 1) (before ++ t ∷ []) ts (all ++ s ∷ []) few few_names sound.1
    (Carries-more sources names at before all t few few_names sound.0 c) in
    subst (λ (us : List RawToken). Carries names us (all ++ s ∷ later)) (append_assoc before (t ∷ []) ts)
    (subst (λ (ss : List Segment). Carries names ((before ++ t ∷ []) ++ ts) ss) (append_assoc all (s ∷ []) later) rest)

-- from index `at` on, the bits of the text `bits` begin with the range flags of the tokens `ts`. A bit past the end of
-- the text is false
Flags : List ℕ → ℕ → List RawToken → Type 0
Flags bits at ts = (k : ℕ) → k < length ts → bit_of bits (at + k) ≡ slice_index_or (map (λ t. t.is_range) ts) k false

line_back : (sources names n at : ℕ) (bits : List ℕ) (before ts : List RawToken) (above here : List Segment)
    → sources < 2 ^ 32 → names < 2 ^ 32 → AllByRecursion (IsSound sources names) ts
    → AllByRecursion (λ t. n ≡ t.dst_line) ts
    → Flags bits at ts → sum_at 0 here ≡ last_field (is_on n) (λ t. t.dst_col) before
    → Carries names before (above ++ here)
    → line_tokens n bits above here (segments_of names at before ts) ≡ map (with_valid_name names) ts
unfolding segments_of Flags
line_back sources names n at bits before [] above here few few_names sound on flags column c = refl
line_back sources names n at bits before (t ∷ ts) above here few few_names sound on flags column c =
    let s = segment_of names at before t in
    let here' = here ++ s ∷ [] in
    let more : Carries names (before ++ t ∷ []) (above ++ here') =
    subst (λ (ss : List Segment). Carries names (before ++ t ∷ []) ss) (append_assoc above here (s ∷ []))
    (Carries-more sources names at before (above ++ here) t few few_names sound.0 c) in
    let line : n ≡ t.dst_line = on.0 in
    let col : sum_at 0 here' ≡ t.dst_col =
    column_more sources names at before here t sound.0
    (subst (λ (m : ℕ). sum_at 0 here ≡ last_field (is_on m) (λ u. u.dst_col) before) line column) in
    let bit : bit_of bits at ≡ t.is_range = ap (bit_of bits) (sym (add-zero at)) ∙ flags 0 (omega arith) in
    let first = token_back sources names n at bits before here' (above ++ here') t few sound.0 line bit col more in
    let next : sum_at 0 here' ≡ last_field (is_on n) (λ u. u.dst_col) (before ++ t ∷ []) =
    col ∙ sym (last_field-push_yes (is_on n) (λ u. u.dst_col) before t (eq-eqb t.dst_line n (sym line))) in
    let rest = line_back sources names n (at + 1) bits (before ++ t ∷ []) ts above here' few few_names sound.1 on.1
    (λ k h. ap (bit_of bits) (omega arith) ∙ flags (suc k) (omega arith)) next more in
    ap (λ u. u ∷ line_tokens n bits above here' (segments_of names (at + 1) (before ++ t ∷ []) ts)) first
    ∙ ap (λ us. with_valid_name names t ∷ us) rest

-- Lists of tokens.

filter_passing : (p : RawToken → Bool) (P : RawToken → Type 0) → ((t : RawToken) → p t ≡ true → P t)
    → (ts : List RawToken) → AllByRecursion P (filter p ts)
filter_passing p P f [] = tt
filter_passing p P f (t ∷ ts) = go (p t) refl (filter_passing p P f ts) where
  go : (b : Bool) → p t ≡ b → AllByRecursion P (filter p ts) → AllByRecursion P (cond b (t ∷ filter p ts) (filter p ts))
  go true e rest = (f t e, rest)
  go false e rest = rest

filter_keeps : (p : RawToken → Bool) (P : RawToken → Type 0) (ts : List RawToken) → AllByRecursion P ts
    → AllByRecursion P (filter p ts)
filter_keeps p P [] all = tt
filter_keeps p P (t ∷ ts) all = go (p t) (filter_keeps p P ts all.1) where
  go : (b : Bool) → AllByRecursion P (filter p ts) → AllByRecursion P (cond b (t ∷ filter p ts) (filter p ts))
  go true rest = (all.0, rest)
  go false rest = rest

none_pass : (p : RawToken → Bool) (ts : List RawToken) → AllByRecursion (λ t. p t ≡ false) ts → filter p ts ≡ []
none_pass p [] all = refl
none_pass p (t ∷ ts) all = ap (λ b. cond b (t ∷ filter p ts) (filter p ts)) all.0 ∙ none_pass p ts all.1

on_is : (n : ℕ) (t : RawToken) → is_on n t ≡ true → n ≡ t.dst_line
on_is n t e = grind (arith, nat_tests)

above_is_off : (n : ℕ) (t : RawToken) → is_above n t ≡ true → is_on n t ≡ false
above_is_off n t e = grind (arith, nat_tests)

none_on_above : (n : ℕ) (ts : List RawToken) → filter (is_on n) (filter (is_above n) ts) ≡ []
none_on_above n ts = none_pass (is_on n) (filter (is_above n) ts) (filter_passing (is_above n) (λ t. is_on n t ≡ false)
    (above_is_off n) ts)

not_above_first : (t : RawToken) → is_above 0 t ≡ false
not_above_first t = grind (arith, nat_tests)

none_above_first : (ts : List RawToken) → filter (is_above 0) ts ≡ []
none_above_first [] = refl
none_above_first (t ∷ ts) =
    ap (λ b. cond b (t ∷ filter (is_above 0) ts) (filter (is_above 0) ts)) (not_above_first t) ∙ none_above_first ts

-- One line.

segments_free : (c names : ℕ) (before ts : List RawToken) (parts : List (List ℕ)) → IsMark c
    → AreSegments names before ts parts
    → AllByRecursion (IsFree c) parts
segments_free c names before [] parts mark are =
    subst (λ (ps : List (List ℕ)). AllByRecursion (IsFree c) ps) (sym are) tt
segments_free c names before (t ∷ ts) [] mark are = absurd are
segments_free c names before (t ∷ ts) (p ∷ ps) mark are = (
  Spells-free c (numbers names (base names t.dst_line before) t) p mark are.0,
  segments_free c names (before ++ t ∷ []) ts ps mark are.1,
)

-- if the text of a line is empty, the line has no tokens
empty_on : (names : ℕ) (before ts : List RawToken) (parts : List (List ℕ)) → AreSegments names before ts parts
    → [] ≡ join_with_byte comma parts → ts ≡ []
empty_on names before [] parts are e = refl
empty_on names before (t ∷ ts) [] are e = absurd are
empty_on names before (t ∷ ts) ([] ∷ ps) are e = absurd (Spells-nonempty _ _ are.0)
empty_on names before (t ∷ ts) ((x ∷ xs) ∷ []) are e = absurd cc
empty_on names before (t ∷ ts) ((x ∷ xs) ∷ q ∷ qs) are e = absurd cc

-- if the text of a line is not empty, the parts of this text are the segments, and the line has tokens
some_on : (names : ℕ) (before ts : List RawToken) (parts : List (List ℕ)) (c : ℕ) (cs : List ℕ)
    → AreSegments names before ts parts → c ∷ cs ≡ join_with_byte comma parts
    → (parts_of (c ∷ cs) ≡ parts) × ((t : RawToken) × (us : List RawToken) × (ts ≡ t ∷ us))
some_on names before [] parts c cs are e = absurd (let none = e ∙ ap (join_with_byte comma) are in cc)
some_on names before (t ∷ ts) [] c cs are e = absurd are
some_on names before (t ∷ ts) (p ∷ ps) c cs are e = (
  ap parts_of e ∙ split_join comma p ps (segments_free comma names before (t ∷ ts) (p ∷ ps) (inl refl) are),
  (t, ts, refl),
)

-- the text `bits` has only base64 digits, and the bits begin with the range flags of the tokens on line `n` (`Flags`)
FitBits : List RawToken → ℕ → List ℕ → Type 0
FitBits ts n bits = (first_non_digit bits ≡ None) × Flags bits 0 (filter (is_on n) ts)

-- the bits of an empty line are ignored
bits_of : List ℕ → List ℕ → List ℕ
bits_of [] bits = []
bits_of (c ∷ cs) bits = bits

line_of : ℕ → List RawToken → ℕ → List ℕ → List ℕ → Line
line_of names ts n part bits =
    record { bits = bits_of part bits; segments = segments_of names 0 (filter (is_above n) ts) (filter (is_on n) ts) }

small_line : (sources names n : ℕ) (ts us : List RawToken) (t : RawToken) → ts ≡ t ∷ us
    → AllByRecursion (IsSound sources names) ts
    → AllByRecursion (λ u. n ≡ u.dst_line) ts → n < 2 ^ 32
small_line sources names n [] us t e sound on = absurd cc
small_line sources names n (u ∷ ws) us t e sound on = (let small = sound.0.dst_line in let is = on.0 in omega arith)

line_read : (sources names n : ℕ) (ts : List RawToken) (all : List Segment) (part bits : List ℕ)
    → sources < 2 ^ 32 → names < 2 ^ 32 → AllByRecursion (IsSound sources names) ts
    → Carries names (filter (is_above n) ts) all
    → IsLine names ts n part → FitBits ts n bits
    → LineRead (record { sources = sources; names = names }) n all (part, bits) (line_of names ts n part bits)
unfolding line_of bits_of segments_of FitBits
line_read sources names n ts all [] bits few few_names sound c line fit =
    let none = empty_on names (filter (is_above n) ts) (filter (is_on n) ts) line.0 line.1 line.2 in
    ap (λ us. record { bits = []; segments = segments_of names 0 (filter (is_above n) ts) us }) none
line_read sources names n ts all (x ∷ xs) bits few few_names sound c line fit =
    let on = filter (is_on n) ts in
    let some = some_on names (filter (is_above n) ts) on line.0 x xs line.1 line.2 in
    let on_sound = filter_keeps (is_on n) (IsSound sources names) ts sound in
    let on_line = filter_passing (is_on n) (λ t. n ≡ t.dst_line) (on_is n) ts in (
      small_line sources names n on some.1.1 some.1.0 some.1.2 on_sound on_line,
      fit.0,
      refl,
      subst (λ (ps : List (List ℕ)). PartsRead (record { sources = sources; names = names }) 0 all ps
          (segments_of names 0 (filter (is_above n) ts) on)) (sym some.0)
          (segments_read sources names 0 (filter (is_above n) ts) on all line.0 few few_names on_sound c line.1),
    )

line_tokens_back : (sources names n : ℕ) (ts : List RawToken) (all : List Segment) (part bits : List ℕ)
    → sources < 2 ^ 32 → names < 2 ^ 32 → AllByRecursion (IsSound sources names) ts
    → Carries names (filter (is_above n) ts) all
    → IsLine names ts n part → FitBits ts n bits
    → line_tokens n (bits_of part bits) all [] (segments_of names 0 (filter (is_above n) ts) (filter (is_on n) ts))
    ≡ map (with_valid_name names) (filter (is_on n) ts)
unfolding FitBits bits_of Flags
line_tokens_back sources names n ts all part bits few few_names sound c line fit =
    line_back sources names n 0 (bits_of part bits) (filter (is_above n) ts) (filter (is_on n) ts) all [] few few_names
    (filter_keeps (is_on n) (IsSound sources names) ts sound)
    (filter_passing (is_on n) (λ t. n ≡ t.dst_line) (on_is n) ts)
    (flags part line)
    (sym (ap (λ us. option_map_or (λ t. t.dst_col) (last_or None us) 0) (none_on_above n ts)))
    (subst (λ (ss : List Segment). Carries names (filter (is_above n) ts) ss) (sym (append-nil all)) c) where
      flags : (p : List ℕ) → IsLine names ts n p → Flags (bits_of p bits) 0 (filter (is_on n) ts)
      flags [] l = subst (λ (us : List RawToken). Flags [] 0 us) (sym
          (empty_on names (filter (is_above n) ts) (filter (is_on n) ts) l.0 l.1 l.2)) (λ k h. absurd (omega arith))
      flags (x ∷ xs) l = fit.1

-- All lines.

EachText : (ℕ → List ℕ → Type 0) → (ℕ → List ℕ → Type 0) → ℕ → List LineText → Type 0
EachText P B n [] = Unit {0}
EachText P B n ((part, bits) ∷ texts) = P n part × B n bits × EachText P B (n + 1) texts

decoded_lines_of : ℕ → List RawToken → ℕ → List LineText → List Line
decoded_lines_of names ts n [] = []
decoded_lines_of names ts n ((part, bits) ∷ texts) =
    line_of names ts n part bits ∷ decoded_lines_of names ts (n + 1) texts

next_carries : (sources names n : ℕ) (ts : List RawToken) (all : List Segment) → sources < 2 ^ 32 → names < 2 ^ 32
    → AllByRecursion (IsSound sources names) ts → Rises ts → Carries names (filter (is_above n) ts) all
    → Carries names (filter (is_above (n + 1)) ts)
    (all ++ segments_of names 0 (filter (is_above n) ts) (filter (is_on n) ts))
next_carries sources names n ts all few few_names sound rises c =
    subst (λ (us : List RawToken). Carries names us
    (all ++ segments_of names 0 (filter (is_above n) ts) (filter (is_on n) ts))) (sym (above_more n ts rises))
    (carries_line sources names 0 (filter (is_above n) ts) (filter (is_on n) ts) all few few_names
    (filter_keeps (is_on n) (IsSound sources names) ts sound) c)

lines_read : (sources names n : ℕ) (ts : List RawToken) (all : List Segment) (texts : List LineText)
    → sources < 2 ^ 32 → names < 2 ^ 32 → AllByRecursion (IsSound sources names) ts → Rises ts
    → Carries names (filter (is_above n) ts) all
    → EachText (IsLine names ts) (FitBits ts) n texts
    → LinesRead (record { sources = sources; names = names }) n all texts (decoded_lines_of names ts n texts)
unfolding EachText decoded_lines_of line_of
lines_read sources names n ts all [] few few_names sound rises c each = refl
lines_read sources names n ts all ((part, bits) ∷ texts) few few_names sound rises c each = (
  line_read sources names n ts all part bits few few_names sound c each.0 each.1,
  lines_read sources names (n + 1) ts _ texts few few_names sound rises
      (next_carries sources names n ts all few few_names sound rises c) each.2,
)

lines_back : (sources names n : ℕ) (ts : List RawToken) (all : List Segment) (texts : List LineText)
    → sources < 2 ^ 32 → names < 2 ^ 32 → AllByRecursion (IsSound sources names) ts → Rises ts
    → Carries names (filter (is_above n) ts) all
    → EachText (IsLine names ts) (FitBits ts) n texts
    → map (with_valid_name names) (filter (is_above n) ts) ++ tokens_of_lines n all (decoded_lines_of names ts n texts)
    ≡ map (with_valid_name names) (filter (is_above (n + length texts)) ts)
unfolding EachText decoded_lines_of line_of
lines_back sources names n ts all [] few few_names sound rises c each =
    append-nil (map (with_valid_name names) (filter (is_above n) ts))
    ∙ ap (λ m. map (with_valid_name names) (filter (is_above m) ts)) (sym (add-zero n))
lines_back sources names n ts all ((part, bits) ∷ texts) few few_names sound rises c each =
    let sounded = map (with_valid_name names) in
    let above = filter (is_above n) ts in
    let on = filter (is_on n) ts in
    let segments = segments_of names 0 above on in
    let later = tokens_of_lines (n + 1) (all ++ segments) (decoded_lines_of names ts (n + 1) texts) in
    let line = line_tokens_back sources names n ts all part bits few few_names sound c each.0 each.1 in
    let count : n + 1 + length texts ≡ n + suc (length texts) = omega arith in
    ap (λ us. map (with_valid_name names) above ++ (us ++ later)) line
    ∙ sym (append_assoc (map (with_valid_name names) above) (map (with_valid_name names) on) later)
    ∙ ap (λ us. us ++ later)
    (sym (map-append (with_valid_name names) above on) ∙ ap (map (with_valid_name names)) (sym (above_more n ts rises)))
    ∙ lines_back sources names (n + 1) ts (all ++ segments) texts few few_names sound rises
    (next_carries sources names n ts all few few_names sound rises c) each.2
    ∙ ap (λ m. map (with_valid_name names) (filter (is_above m) ts)) count

-- Whole texts.

each_beside : (P B : ℕ → List ℕ → Type 0) (n : ℕ) (parts ranges : List (List ℕ)) → EachLine P n parts
    → EachLine B n ranges
    → ((m : ℕ) → n + length ranges ≤ m → m < n + length parts → B m []) → EachText P B n (with_range_bits parts ranges)
unfolding EachText
each_beside P B n [] ranges each bits past = tt
each_beside P B n (p ∷ ps) [] each bits past = (
  each.0,
  past n (omega arith) (omega arith),
  each_beside P B (n + 1) ps [] each.1 tt (λ m h k. past m (omega arith) (omega arith)),
)
each_beside P B n (p ∷ ps) (r ∷ rs) each bits past =
    (each.0, bits.0, each_beside P B (n + 1) ps rs each.1 bits.1 (λ m h k. past m (omega arith) (omega arith)))

length_with_range_bits : (parts ranges : List (List ℕ)) → length (with_range_bits parts ranges) ≡ length parts
length_with_range_bits [] ranges = refl
length_with_range_bits (p ∷ ps) [] = ap (λ n. suc n) (length_with_range_bits ps [])
length_with_range_bits (p ∷ ps) (r ∷ rs) = ap (λ n. suc n) (length_with_range_bits ps rs)

each_line_map : (P Q : ℕ → List ℕ → Type 0) (n : ℕ) (parts : List (List ℕ))
    → ((m : ℕ) (part : List ℕ) → P m part → Q m part)
    → EachLine P n parts → EachLine Q n parts
each_line_map P Q n [] f each = tt
each_line_map P Q n (p ∷ ps) f each = (f n p each.0, each_line_map P Q (n + 1) ps f each.1)

each_line_all : (P : ℕ → List ℕ → Type 0) (Q : List ℕ → Type 0) (n : ℕ) (parts : List (List ℕ))
    → ((m : ℕ) (part : List ℕ) → P m part → Q part)
    → EachLine P n parts → AllByRecursion Q parts
each_line_all P Q n [] f each = tt
each_line_all P Q n (p ∷ ps) f each = (f n p each.0, each_line_all P Q (n + 1) ps f each.1)

-- suppose that no part that satisfies `P` contains `;`. If a text satisfies `LineByLine` and has at least one line, the
-- text splits at `;` into one part for each line, and each part satisfies `P`
lines_split : (P : ℕ → List ℕ → Type 0) (tokens : List RawToken) (text : List ℕ) → 0 < line_count tokens
    → ((m : ℕ) (part : List ℕ) → P m part → IsFree semicolon part) → LineByLine P tokens text
    → (EachLine P 0 (lines_of text)) × (length (lines_of text) ≡ line_count tokens)
lines_split P tokens text some free ([], count, each, is) = absurd (omega arith)
lines_split P tokens text some free (p ∷ ps, count, each, is) =
    let split : lines_of text ≡ p ∷ ps =
    ap lines_of is ∙ split_join semicolon p ps (each_line_all P (IsFree semicolon) 0 (p ∷ ps) free each) in
    (subst (λ (parts : List (List ℕ)). EachLine P 0 parts) (sym split) each, ap length split ∙ count)

IsLine-free : (names : ℕ) (ts : List RawToken) (m : ℕ) (part : List ℕ) → IsLine names ts m part → IsFree semicolon part
IsLine-free names ts m part line =
    subst (λ (t : List ℕ). IsFree semicolon t) (sym line.2)
    (join_free semicolon comma line.0 refl
    (segments_free semicolon names (filter (is_above m) ts) (filter (is_on m) ts) line.0 (inr refl) line.1))

IsRangeLine-free : (ts : List RawToken) (m : ℕ) (bits : List ℕ) → IsRangeLine ts m bits → IsFree semicolon bits
IsRangeLine-free ts m bits is = digits_free semicolon bits (inr refl) is.digits

fit_range : (ts : List RawToken) (m : ℕ) (bits : List ℕ) → IsRangeLine ts m bits → FitBits ts m bits
unfolding FitBits Flags
fit_range ts m bits is = (is.digits, λ k h. ap (bit_of bits) (zero-add k) ∙ is.each k)

none_range : (ts : List RawToken) (k : ℕ) → AllByRecursion (λ t. t.is_range ≡ false) ts
    → slice_index_or (map (λ t. t.is_range) ts) k false ≡ false
none_range [] k all = refl
none_range (t ∷ ts) zero all = all.0
none_range (t ∷ ts) (suc k) all = none_range ts k all.1

fit_none : (ts : List RawToken) → AllByRecursion (λ t. t.is_range ≡ false) ts → (m : ℕ) → FitBits ts m []
unfolding FitBits Flags
fit_none ts all m = (
  refl,
  λ k h. no_bit (0 + k)
      ∙ sym (none_range (filter (is_on m) ts) k (filter_keeps (is_on m) (λ t. t.is_range ≡ false) ts all)),
)

none_any : (ts : List RawToken) → list_any (λ t. t.is_range) ts ≡ false → AllByRecursion (λ t. t.is_range ≡ false) ts
none_any [] e = tt
none_any (t ∷ ts) e = go t.is_range refl e (none_any ts) where
  go : (b : Bool) → t.is_range ≡ b → (b || list_any (λ u. u.is_range) ts) ≡ false
      → (list_any (λ u. u.is_range) ts ≡ false → AllByRecursion (λ u. u.is_range ≡ false) ts)
      → AllByRecursion (λ u. u.is_range ≡ false) (t ∷ ts)
  go true is h rest = absurd cc
  go false is h rest = (is, rest h)

-- the text of the range bits; empty for `None`
abbrev range_text : Option (List ℕ) → List ℕ
range_text ranges = option_map_or (λ bits. bits) ranges []

some_lines : (t : RawToken) (ts : List RawToken) → 0 < line_count (t ∷ ts)
some_lines t [] = omega arith
some_lines t (u ∷ us) = some_lines u us

texts_fit : (names : ℕ) (tokens : List RawToken) (text : List ℕ) (ranges : Option (List ℕ)) → 0 < line_count tokens
    → IsWritten names tokens text → IsRangeText tokens ranges
    → EachText (IsLine names (without_repeats tokens)) (FitBits (without_repeats tokens)) 0
    (line_texts text (range_text ranges))
texts_fit names tokens text None some written is =
    let ts = without_repeats tokens in
    let lines = lines_split (IsLine names ts) tokens text some (IsLine-free names ts) written in
    let none = fit_none ts (All-without_repeats (λ t. t.is_range ≡ false) tokens (none_any tokens is)) in
    each_beside (IsLine names ts) (FitBits ts) 0 (lines_of text) ([] ∷ []) lines.0 (none 0, tt) (λ m h k. none m)
texts_fit names tokens text (Some bits) some written is =
    let ts = without_repeats tokens in
    let lines = lines_split (IsLine names ts) tokens text some (IsLine-free names ts) written in
    let ranges = lines_split (IsRangeLine ts) tokens bits some (IsRangeLine-free ts) is.1 in
    let fit = each_line_map (IsRangeLine ts) (FitBits ts) 0 (lines_of bits) (fit_range ts) ranges.0 in
    each_beside (IsLine names ts) (FitBits ts) 0 (lines_of text) (lines_of bits) lines.0 fit
    (λ m h k. absurd (omega (arith, lines.1, ranges.1)))

-- let there be fewer than 2^32 sources and fewer than 2^32 names. If sorted tokens satisfy `AllWithin` and `IsSmall`,
-- the encoded texts of the tokens decode to the reduced list (`reduced`)
pub reads_back : (sources names : ℕ) (tokens : List RawToken) (text : List ℕ) (ranges : Option (List ℕ))
    → sources < 2 ^ 32 → names < 2 ^ 32 → AreInOrder tokens → AllWithin sources names tokens
    → AllByRecursion IsSmall (without_repeats tokens)
    → Rises (without_repeats tokens)
    → filter (is_above (line_count tokens)) (without_repeats tokens) ≡ without_repeats tokens
    → IsWritten names tokens text → IsRangeText tokens ranges
    → MappingsAnswer text (range_text ranges) (record { sources = sources; names = names }) (Ok (reduced names tokens))
reads_back sources names [] text None few few_names order within small rises upto written is =
    let text_is : text ≡ [] = written.3 ∙ ap (join_with_byte semicolon) (nil_from_length written.0 written.1) in
    subst (λ (t : List ℕ). MappingsAnswer t [] (record { sources = sources; names = names }) (Ok [])) (sym text_is)
    (record { bits = []; segments = [] } ∷ [], (refl, refl), refl)
reads_back sources names [] text (Some bits) few few_names order within small rises upto written is =
    absurd (let no = is.0 in cc)
reads_back sources names (t ∷ rest) text ranges few few_names order within small rises upto written is =
    let tokens = t ∷ rest in
    let ts = without_repeats tokens in
    let texts = line_texts text (range_text ranges) in
    let some = some_lines t rest in
    let each = texts_fit names tokens text ranges some written is in
    let all_sound =
    all_sound_from sources names ts few (All-without_repeats (IsWithin sources names) tokens within) small in
    let begun : Carries names (filter (is_above 0) ts) [] =
    subst (λ (us : List RawToken). Carries names us []) (sym (none_above_first ts)) (Carries-none names) in
    let back = lines_back sources names 0 ts [] texts few few_names all_sound rises begun each in
    let lines = lines_split (IsLine names ts) tokens text some (IsLine-free names ts) written in
    let count : 0 + length texts ≡ line_count tokens =
    zero-add (length texts) ∙ length_with_range_bits (lines_of text) (lines_of (range_text ranges)) ∙ lines.1 in
    let all_back : tokens_of_lines 0 [] (decoded_lines_of names ts 0 texts) ≡ reduced names tokens =
    ap (λ us. map (with_valid_name names) us ++ tokens_of_lines 0 [] (decoded_lines_of names ts 0 texts))
    (sym (none_above_first ts))
    ∙ back ∙ ap (λ m. map (with_valid_name names) (filter (is_above m) ts)) count
    ∙ ap (map (with_valid_name names)) upto in (
      decoded_lines_of names ts 0 texts,
      lines_read sources names 0 ts [] texts few few_names all_sound rises begun each,
      sym (in_order-ordered (reduced names tokens) (AreInOrder-reduced names tokens order))
          ∙ ap in_order (sym all_back),
    )
