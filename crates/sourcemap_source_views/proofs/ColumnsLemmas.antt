-- How a walk along the characters of a line finds the shortest prefix that has at least `col` UTF-16 units.
use Rattle.std.proofs.Common.{◌≡◌, refl, sym, ap, subst, ◌∙◌, ℕ, zero, suc, ◌+◌, ◌-◌, ◌<◌, ◌≤◌, List, [], ◌∷◌, ◌++◌}
use Rattle.std.proofs.Common.{length, take, drop, nat_le, Bool, true, false, Some, None, Option, option_map, map, arith}
use Rattle.std.proofs.Common.{inl, inr, chars, encode_utf8_all, encode_utf8, IsUtf8, IsAscii, IsCharBoundary}
use Rattle.std.proofs.Common.{append_assoc, append-nil, find, get_or, add-one, le_refl, ap₂, slice_range}
use Rattle.std.specs.Char.{IsScalar}
use Rattle.std.specs.Bool.{⊤}
use Rattle.std.proofs.lemmas.Bool.{cases_Bool, cases_lt, and_parts, and_from, lt-leb}
use Rattle.std.proofs.lemmas.Bool.Decides.{nat_tests}
use Rattle.std.specs.Char.{len_utf8}
use Rattle.std.proofs.lemmas.Str.{encodes-append, length-encode, chars_past_char, IsUtf8-past_char, chars-append}
use Rattle.std.proofs.lemmas.Str.{IsCharBoundary-at_seam, IsUtf8-take, IsUtf8-drop, encodes-chars, chars-encodes}
use Rattle.std.proofs.lemmas.Str.{chars-IsAscii, encodes-IsAscii, IsUtf8-from_ascii, IsCharBoundary-start}
use Rattle.std.proofs.lemmas.Str.{IsCharBoundary-after_ascii, IsCharBoundary-before_ascii, IsCharBoundary-from_take}
use Rattle.std.proofs.lemmas.Str.{IsUtf8-encode, chars-nil, scalars-chars}
use Rattle.std.specs.Str.{all_scalars}
use lib.Utf8.{scalar}
use Rattle.std.proofs.lemmas.Option.{none-some, same_Some}
use Rattle.std.proofs.lemmas.List.{append_cancel_right, take-append-drop, length-append, length-take-le, take_at}
use Rattle.std.proofs.lemmas.List.{nil_from_length}
use Rattle.std.proofs.lemmas.List.{drop_at, get_or-take, get_or-drop, length-drop, take_all, take-take}
use Rattle.std.proofs.Common.{take-add}
use Rattle.std.proofs.lemmas.Iterator.Adapters.{option_map_id}
use Rattle.sourcemap_source_views.specs.Columns.{IsOffset, units_of, width, prefixes, first_reaching, column_offset}
use Rattle.sourcemap_source_views.specs.Columns.{reached_offset, part_between, slice_of}

-- ---- searches in lists

find-map : {X Y : Type 0} (test : Y → Bool) (f : X → Y) (xs : List X)
    → find test (map f xs) ≡ option_map f (find (λ x. test (f x)) xs)
find-map test f [] = refl
find-map test f (x ∷ xs) =
    let later = find-map test f xs in
    elim (cases_Bool (test (f x))) [ inl e ↦ rw e refl | inr e ↦ rw e later ]

find-same : {X : Type 0} (test other : X → Bool) → ((x : X) → test x ≡ other x) → (xs : List X)
    → find test xs ≡ find other xs
find-same test other same [] = refl
find-same test other same (x ∷ xs) =
    let later = find-same test other same xs in
    let here = same x in
    elim (cases_Bool (other x)) [ inl e ↦ rw (here, e) refl | inr e ↦ rw (here, e) later ]

-- ---- one more character

less_wide : (col units rest : ℕ) → nat_le col (units + rest) ≡ nat_le (col - units) rest
less_wide col units rest = grind (arith, nat_tests)

pub reaching-nothing : (cs : List ℕ) → first_reaching 0 cs ≡ Some []
reaching-nothing [] = refl
reaching-nothing (c ∷ cs) = refl

pub reaching-past : (col : ℕ) → 0 < col → first_reaching col [] ≡ None
reaching-past col l = let e = lt-leb col 0 l in rw e refl

reaching-step : (col c : ℕ) (cs : List ℕ) → 0 < col
    → first_reaching col (c ∷ cs) ≡ option_map (λ prefix. c ∷ prefix) (first_reaching (col - units_of c) cs)
reaching-step col c cs l =
    let e = lt-leb col 0 l in
    let same = find-same (λ prefix. nat_le col (width (c ∷ prefix))) (λ prefix. nat_le (col - units_of c)
    (width prefix)) (λ prefix. less_wide col (units_of c) (width prefix)) (prefixes cs) in
    rw e (find-map (λ prefix. nat_le col (width prefix)) (λ prefix. c ∷ prefix) (prefixes cs)
    ∙ ap (option_map (λ prefix. c ∷ prefix)) same)

option_map-map : {X Y Z : Type 0} (f : Y → Z) (g : X → Y) (o : Option X)
    → option_map f (option_map g o) ≡ option_map (λ x. f (g x)) o
option_map-map f g None = refl
option_map-map f g (Some x) = refl

-- ---- characters that start before a column

-- each character of a list starts before column `col`, so each shorter prefix of the list has fewer than `col` units
abbrev pub BeginBefore : ℕ → List ℕ → Type 0
BeginBefore col [] = ⊤
BeginBefore col (c ∷ cs) = (0 < col) × BeginBefore (col - units_of c) cs

minus_minus : (a b c : ℕ) → a - b - c ≡ a - (b + c)
minus_minus a b c = omega arith

pub reaching-after : (xs cs : List ℕ) (col : ℕ) → BeginBefore col xs
    → first_reaching col (xs ++ cs) ≡ option_map (λ prefix. xs ++ prefix) (first_reaching (col - width xs) cs)
reaching-after [] cs col b =
    let same : col ≡ col - 0 = omega arith in
    sym (option_map_id (first_reaching col cs)) ∙ ap (λ n. option_map (λ prefix. prefix) (first_reaching n cs)) same
reaching-after (x ∷ xs) cs col b =
    let later = reaching-after xs cs (col - units_of x) b.1 in
    let to = minus_minus col (units_of x) (width xs) in
    reaching-step col x (xs ++ cs) b.0 ∙ ap (option_map (λ prefix. x ∷ prefix)) later
    ∙ option_map-map (λ prefix. x ∷ prefix) (λ prefix. xs ++ prefix) (first_reaching (col - units_of x - width xs) cs)
    ∙ ap (λ n. option_map (λ prefix. x ∷ (xs ++ prefix)) (first_reaching n cs)) to

pub BeginBefore-more : (xs : List ℕ) (c col : ℕ) → width xs < col → BeginBefore col (xs ++ c ∷ [])
BeginBefore-more [] c col l = (l, tt)
BeginBefore-more (x ∷ xs) c col l = (omega arith, BeginBefore-more xs c (col - units_of x) (omega arith))

BeginBefore-none : (xs : List ℕ) (n : ℕ) → BeginBefore 0 xs → BeginBefore n xs
BeginBefore-none [] n b = tt
BeginBefore-none (x ∷ xs) n b = let never = b.0 in absurd (omega arith)

pub BeginBefore-further : (xs : List ℕ) (col more : ℕ) → BeginBefore col xs → BeginBefore (col + more) xs
BeginBefore-further [] col more b = tt
BeginBefore-further (x ∷ xs) col more b =
    let first = b.0 in
    let later : BeginBefore (col + more - units_of x) xs = elim (cases_lt (units_of x) col) [
      | inl l ↦ (let e : col - units_of x + more ≡ col + more - units_of x = omega arith in
          subst (λ n. BeginBefore n xs) e (BeginBefore-further xs (col - units_of x) more b.1))
      | inr g ↦ (let e : col - units_of x ≡ 0 = omega arith in
          BeginBefore-none xs (col + more - units_of x) (subst (λ n. BeginBefore n xs) e b.1))
    ] in
    (omega arith, later)

-- `prefix` is a prefix of `cs`, and each character of `prefix` starts before column `col`
record Found (col : ℕ) (cs prefix : List ℕ) : Type 0 where
  rest : List ℕ
  is : cs ≡ prefix ++ rest
  begin : BeginBefore col prefix

found_more : (col c : ℕ) (cs prefix tail : List ℕ) → 0 < col → c ∷ tail ≡ prefix → Found (col - units_of c) cs tail
    → Found col (c ∷ cs) prefix
found_more col c cs prefix tail l e f =
    subst (λ p. Found col (c ∷ cs) p) e (record { rest = f.rest; is = ap (λ r. c ∷ r) f.is; begin = (l, f.begin) })

some_from_map : {X Y : Type 0} (f : X → Y) (o : Option X) (y : Y) → option_map f o ≡ Some y
    → (x : X) × (o ≡ Some x) × (f x ≡ y)
some_from_map f None y e = absurd (none-some y e)
some_from_map f (Some x) y e = (x, refl, same_Some (f x) y e)

found_none : (cs prefix : List ℕ) (col : ℕ) → col ≡ 0 → first_reaching col cs ≡ Some prefix → Found col cs prefix
found_none cs prefix col none e =
    let empty : [] ≡ prefix =
    same_Some [] prefix (sym (reaching-nothing cs) ∙ ap (λ n. first_reaching n cs) (sym none) ∙ e) in
    subst (λ p. Found col cs p) empty (record { rest = cs; is = refl; begin = tt })

found : (cs prefix : List ℕ) (col : ℕ) → first_reaching col cs ≡ Some prefix → Found col cs prefix
found [] prefix col e =
    elim (cases_lt 0 col) [
      | inl l ↦ absurd (none-some prefix (sym (reaching-past col l) ∙ e))
      | inr g ↦ found_none [] prefix col (omega arith) e
    ]
found (c ∷ cs) prefix col e =
    elim (cases_lt 0 col) [
      | inl l ↦
          let m = some_from_map (λ p. c
          ∷ p) (first_reaching (col - units_of c) cs) prefix (sym (reaching-step col c cs l) ∙ e) in
          found_more col c cs prefix m.0 l m.2 (found cs m.0 (col - units_of c) m.1)
      | inr g ↦ found_none (c ∷ cs) prefix col (omega arith) e
    ]

encoded_more : (done : List ℕ) (c : ℕ) → encode_utf8_all (done ++ c ∷ []) ≡ encode_utf8_all done ++ encode_utf8 c
encoded_more done c = encodes-append done (c ∷ []) ∙ ap (λ t. encode_utf8_all done ++ t) (append-nil (encode_utf8 c))

-- ---- offsets

-- characters have at most as many UTF-16 units as bytes
units_few : (c : ℕ) → units_of c ≤ len_utf8 c
units_few c = grind (arith, nat_tests)

pub width-bytes : (cs : List ℕ) → width cs ≤ length (encode_utf8_all cs)
width-bytes [] = omega arith
width-bytes (c ∷ cs) =
    let later = width-bytes cs in
    let here = units_few c in
    let is = length-encode c in
    let all = length-append (encode_utf8 c) (encode_utf8_all cs) in
    omega arith

pub width-append : (xs ys : List ℕ) → width (xs ++ ys) ≡ width xs + width ys
width-append [] ys = omega arith
width-append (x ∷ xs) ys = let later = width-append xs ys in omega arith

width_more : (done : List ℕ) (c : ℕ) → width (done ++ c ∷ []) ≡ width done + units_of c
width_more done c = let e = width-append done (c ∷ []) in omega arith

-- a walk to column `col` has read the characters `done` at the start of `line`. Each of these characters starts before
-- column `col`, and together they have `units` UTF-16 units. `rest` is the part of `line` that the walk has not read,
-- and is UTF-8
pub record Walked (line : List ℕ) (col : ℕ) (rest : List ℕ) (units : ℕ) : Type 0 where
  pub done : List ℕ
  pub bytes : line ≡ encode_utf8_all done ++ rest
  pub spelt : chars line ≡ done ++ chars rest
  pub counted : units ≡ width done
  pub begin : BeginBefore col done
  pub utf8 : IsUtf8 rest

pub Walked-step : (line rest left : List ℕ) (col units c : ℕ) → units < col → rest ≡ encode_utf8 c ++ left
    → Walked line col rest units → Walked line col left (units + units_of c)
Walked-step line rest left col units c l e w =
    let counted = w.counted in
    record {
      done = w.done ++ c ∷ [];
      bytes = w.bytes ∙ ap (λ r. encode_utf8_all w.done ++ r) e ∙ sym (append_assoc (encode_utf8_all w.done)
          (encode_utf8 c) left) ∙ ap (λ front. front ++ left) (sym (encoded_more w.done c));
      spelt = w.spelt ∙ ap (λ r. w.done ++ r) (chars_past_char rest left c w.utf8 e)
          ∙ sym (append_assoc w.done (c ∷ []) (chars left));
      counted = ap (λ n. n + units_of c) w.counted ∙ sym (width_more w.done c);
      begin = BeginBefore-more w.done c col (subst (λ n. n < col) w.counted l);
      utf8 = IsUtf8-past_char rest left c w.utf8 e;
    }

pub Walked-few : (line rest : List ℕ) (col units : ℕ) → Walked line col rest units → units + length rest ≤ length line
Walked-few line rest col units w =
    let counted = w.counted in
    let few = width-bytes w.done in
    let all : length line ≡ length (encode_utf8_all w.done) + length rest =
    ap length w.bytes ∙ length-append (encode_utf8_all w.done) rest in
    omega arith

offset_is : (line rest : List ℕ) (col units : ℕ) (w : Walked line col rest units)
    → length (encode_utf8_all w.done) ≡ length line - length rest
offset_is line rest col units w =
    let all : length line ≡ length (encode_utf8_all w.done) + length rest =
    ap length w.bytes ∙ length-append (encode_utf8_all w.done) rest in
    omega arith

-- once the units that are read reach the column, the walk is at the offset of the column
pub Walked-reaches : (line rest : List ℕ) (col units : ℕ) → col ≤ units → Walked line col rest units
    → Some (length line - length rest) ≡ column_offset line col
Walked-reaches line rest col units l w =
    let counted = w.counted in
    let enough : col - width w.done ≡ 0 = omega arith in
    let all = reaching-after w.done (chars rest) col w.begin in
    let here : first_reaching col (chars line) ≡ Some (w.done ++ []) =
    ap (first_reaching col) w.spelt ∙ all ∙ ap (λ n. option_map (λ prefix. w.done ++ prefix) (first_reaching n
    (chars rest))) enough ∙ ap (option_map (λ prefix. w.done ++ prefix)) (reaching-nothing (chars rest)) in
    sym (ap (option_map (λ prefix. length (encode_utf8_all prefix))) here ∙ ap (λ prefix. Some
    (length (encode_utf8_all prefix))) (append-nil w.done) ∙ ap Some (offset_is line rest col units w))

pub Walked-boundary : (line rest : List ℕ) (col units : ℕ) → Walked line col rest units
    → IsCharBoundary line (length line - length rest)
Walked-boundary line rest col units w =
    subst (λ n. IsCharBoundary line n) (offset_is line rest col units w)
    (IsCharBoundary-at_seam line (encode_utf8_all w.done) rest w.bytes w.utf8)

pub Walked-units : (line rest : List ℕ) (col units : ℕ) → IsUtf8 line → Walked line col rest units
    → units ≡ width (chars (take (length line - length rest) line))
Walked-units line rest col units u w =
    let offset = length line - length rest in
    let front : take offset line ≡ encode_utf8_all w.done =
    ap (take offset) w.bytes ∙ take_at (encode_utf8_all w.done) rest offset (offset_is line rest col units w) in
    let utf8 : IsUtf8 (encode_utf8_all w.done) =
    subst IsUtf8 front (IsUtf8-take line offset u (Walked-boundary line rest col units w)) in
    let cut : chars (encode_utf8_all w.done) ++ chars rest ≡ w.done ++ chars rest =
    sym (chars-append (encode_utf8_all w.done) rest utf8) ∙ sym (ap chars w.bytes) ∙ w.spelt in
    let same = append_cancel_right (chars (encode_utf8_all w.done)) w.done (chars rest) cut in
    w.counted ∙ ap width (sym (ap chars front ∙ same))

-- if the line ends before the column, the column has no offset
pub Walked-short : (line rest : List ℕ) (col units : ℕ) → units < col → length rest ≡ 0 → Walked line col rest units
    → None ≡ column_offset line col
Walked-short line [] col units l e w =
    let counted = w.counted in
    let all = reaching-after w.done [] col w.begin in
    let none = reaching-past (col - width w.done) (omega arith) in
    let here : first_reaching col (chars line) ≡ None =
    ap (first_reaching col) (w.spelt ∙ ap (λ r. w.done ++ r) chars-nil) ∙ all
    ∙ ap (option_map (λ prefix. w.done ++ prefix)) none in
    sym (ap (option_map (λ prefix. length (encode_utf8_all prefix))) here)
Walked-short line (b ∷ rest) col units l e w = absurd (omega arith)

-- ---- lines of ASCII

ascii_begin : (xs : List ℕ) (col : ℕ) → length xs ≤ col → IsAscii xs → BeginBefore col xs × (width xs ≡ length xs)
ascii_begin [] col l a = (tt, refl)
ascii_begin (x ∷ xs) col l a =
    let first : x < 128 = a 0 in
    let one : units_of x ≡ 1 = grind (arith, nat_tests) in
    let later = ascii_begin xs (col - 1) (omega arith) (λ i. a (suc i)) in
    ((omega arith, subst (λ n. BeginBefore (col - n) xs) (sym one) later.0), (let w = later.1 in omega arith))

-- if a UTF-8 line starts with `n` ASCII bytes, `n` is a character boundary of the line
IsCharBoundary-in_ascii : (line : List ℕ) (n : ℕ) → IsUtf8 line → n ≤ length line → IsAscii (take n line)
    → IsCharBoundary line n
IsCharBoundary-in_ascii line zero u l a = IsCharBoundary-start line u
IsCharBoundary-in_ascii line (suc n) u l a =
    let last : get_or line n 0 < 128 = subst (λ b. b < 128) (get_or-take (suc n) line n 0 (omega arith)) (a n) in
    subst (λ m. IsCharBoundary line m) (add-one n) (IsCharBoundary-after_ascii line n u (omega arith) last)

-- if the first `n` bytes of a UTF-8 line are ASCII, and `n` is at most `col`, then a walk to column `col` that has read
-- these `n` bytes has read `n` units
pub Walked-ascii : (line : List ℕ) (col n : ℕ) → IsUtf8 line → n ≤ length line → n ≤ col → IsAscii (take n line)
    → Walked line col (drop n line) n
Walked-ascii line col n u l m a =
    let len : length (take n line) ≡ n = length-take-le n line l in
    let begin = ascii_begin (take n line) col (omega arith) a in
    let whole : take n line ++ drop n line ≡ line = take-append-drop n line in
    let front : IsUtf8 (take n line) = IsUtf8-from_ascii (take n line) a in
    let boundary : IsCharBoundary line n = IsCharBoundary-in_ascii line n u l a in
    record {
      done = take n line;
      bytes = sym whole ∙ ap (λ t. t ++ drop n line) (sym (encodes-IsAscii (take n line) a));
      spelt = ap chars (sym whole) ∙ chars-append (take n line) (drop n line) front ∙ ap (λ t. t
          ++ chars (drop n line)) (chars-IsAscii (take n line) a);
      counted = sym (begin.1 ∙ len);
      begin = begin.0;
      utf8 = IsUtf8-drop line n u boundary;
    }

-- the byte offset of column `col` is `col` itself: offset `col` is a character boundary, and `col` UTF-16 units are
-- before it. `ascii-offset` proves this if the first `col` bytes of a UTF-8 line are ASCII
pub record IsOwnOffset (line : List ℕ) (col : ℕ) : Type 0 where
  pub offset : Some col ≡ column_offset line col
  pub boundary : IsCharBoundary line col
  pub units : col ≡ width (chars (take col line))

pub ascii-offset : (line : List ℕ) (col : ℕ) → IsUtf8 line → col ≤ length line → IsAscii (take col line)
    → IsOwnOffset line col
ascii-offset line col u l a =
    let walked = Walked-ascii line col col u l (le_refl col) a in
    let left = length-drop col line in
    let offset : length line - length (drop col line) ≡ col = omega arith in
    record {
      offset = subst (λ n. Some n
          ≡ column_offset line col) offset (Walked-reaches line (drop col line) col col (le_refl col) walked);
      boundary = IsCharBoundary-in_ascii line col u l a;
      units =
          subst (λ n. col ≡ width (chars (take n line))) offset (Walked-units line (drop col line) col col u walked);
    }

pub ascii-short : (line : List ℕ) (col : ℕ) → IsUtf8 line → length line < col → IsAscii (take col line)
    → None ≡ column_offset line col
ascii-short line col u l a =
    let ascii : IsAscii (take (length line) line) =
    subst IsAscii (take_all col line (omega arith) ∙ sym (take_all (length line) line (le_refl (length line)))) a in
    let left = length-drop (length line) line in
    Walked-short line (drop (length line) line) col (length line) l (omega arith)
    (Walked-ascii line col (length line) u (le_refl (length line)) (omega arith) ascii)

-- ---- slices

option_map-same : {X Y : Type 0} (f g : X → Y) → ((x : X) → f x ≡ g x) → (o : Option X)
    → option_map f o ≡ option_map g o
option_map-same f g same None = refl
option_map-same f g same (Some x) = ap Some (same x)

bytes_after : (front prefix : List ℕ) (offset : ℕ) → length (encode_utf8_all front) ≡ offset
    → length (encode_utf8_all (front ++ prefix)) ≡ offset + length (encode_utf8_all prefix)
bytes_after front prefix offset e = ap length (encodes-append front prefix)
    ∙ length-append (encode_utf8_all front) (encode_utf8_all prefix) ∙ ap (λ n. n + length (encode_utf8_all prefix)) e

scalars_parts : (xs ys : List ℕ) → all_scalars (xs ++ ys) ≡ true → (all_scalars xs ≡ true) × (all_scalars ys ≡ true)
scalars_parts [] ys e = (refl, e)
scalars_parts (x ∷ xs) ys e =
    let here = and_parts (scalar x) (all_scalars (xs ++ ys)) e in
    let later = scalars_parts xs ys here.1 in
    (and_from (scalar x) (all_scalars xs) here.0 later.0, later.1)

-- the characters before the offset of a column, and those after it
record Cut (line : List ℕ) (col offset : ℕ) : Type 0 where
  front : List ℕ
  back : List ℕ
  is : chars line ≡ front ++ back
  begin : BeginBefore col front
  offset_is : length (encode_utf8_all front) ≡ offset
  before : chars (take offset line) ≡ front
  after : chars (drop offset line) ≡ back
  enough : nat_le col (width front) ≡ true

cut_at : (line front back : List ℕ) (col offset : ℕ) → IsUtf8 line → chars line ≡ front ++ back → BeginBefore col front
    → length (encode_utf8_all front) ≡ offset → nat_le col (width front) ≡ true → Cut line col offset
cut_at line front back col offset u is begin e enough =
    let spelt : line ≡ encode_utf8_all front ++ encode_utf8_all back =
    sym (encodes-chars line u) ∙ ap encode_utf8_all is ∙ encodes-append front back in
    let scalars = scalars_parts front back (ap all_scalars (sym is) ∙ scalars-chars line u) in
    record {
      front = front;
      back = back;
      is = is;
      begin = begin;
      offset_is = e;
      before = ap (λ t. chars (take offset t)) spelt
          ∙ ap chars (take_at (encode_utf8_all front) (encode_utf8_all back) offset e) ∙ chars-encodes front scalars.0;
      after = ap (λ t. chars (drop offset t)) spelt
          ∙ ap chars (drop_at (encode_utf8_all front) (encode_utf8_all back) offset e) ∙ chars-encodes back scalars.1;
      enough = enough;
    }

found_passes : {X : Type 0} (test : X → Bool) (xs : List X) (x : X) → find test xs ≡ Some x → test x ≡ true
found_passes test [] x e = absurd (none-some x e)
found_passes test (y ∷ ys) x e =
    elim (cases_Bool (test y)) [
      | inl t ↦ subst (λ z. test z ≡ true) (same_Some y x (rw t at e)) t
      | inr t ↦ found_passes test ys x (rw t at e)
    ]

offset_cuts : (line : List ℕ) (col offset : ℕ) → IsUtf8 line → Some offset ≡ column_offset line col
    → Cut line col offset
offset_cuts line col offset u e =
    let m =
    some_from_map (λ prefix. length (encode_utf8_all prefix)) (first_reaching col (chars line)) offset (sym e) in
    let f = found (chars line) m.0 col m.1 in
    cut_at line m.0 f.rest col offset u f.is f.begin m.2
    (found_passes (λ prefix. nat_le col (width prefix)) (prefixes (chars line)) m.0 m.1)

-- let `offset` be the offset of column `col` in a UTF-8 line, with `units` UTF-16 units before `offset`. Then the
-- offset of column `col + more` is `offset` plus the offset of column `col + more - units` (at least 0) in the rest of
-- the line, from `offset` on. If the rest has no offset for that column, the line has none for column `col + more`
pub offset-further : (line : List ℕ) (col more offset units : ℕ) → IsUtf8 line
    → Some offset ≡ column_offset line col → units ≡ width (chars (take offset line))
    → column_offset line (col + more)
    ≡ option_map (λ n. offset + n) (column_offset (drop offset line) (col + more - units))
offset-further line col more offset units u e w =
    let cut = offset_cuts line col offset u e in
    let wide : width cut.front ≡ units = sym (w ∙ ap width cut.before) in
    let after = reaching-after cut.front cut.back (col + more) (BeginBefore-further cut.front col more cut.begin) in
    let bytes = λ (prefix : List ℕ). length (encode_utf8_all prefix) in
    let moved = option_map-same (λ prefix. bytes (cut.front ++ prefix)) (λ prefix. offset + bytes prefix) (λ prefix.
    bytes_after cut.front prefix offset cut.offset_is) (first_reaching (col + more - width cut.front) cut.back) in
    ap (λ cs. option_map bytes (first_reaching (col + more) cs)) cut.is
    ∙ ap (option_map bytes) after
    ∙ option_map-map bytes (λ prefix. cut.front ++ prefix) (first_reaching (col + more - width cut.front) cut.back)
    ∙ moved
    ∙ sym (option_map-map (λ n. offset + n) bytes (first_reaching (col + more - width cut.front) cut.back))
    ∙ ap₂ (λ n cs. option_map (λ m. offset + m) (option_map bytes (first_reaching (col + more - n) cs))) wide
    (sym cut.after)

slice_at_offset : (line : List ℕ) (col span offset : ℕ) → Some offset ≡ column_offset line col → (end : Option ℕ)
    → column_offset line (col + span) ≡ end → slice_of line col span ≡ part_between line (Some offset) end
slice_at_offset line col span offset e end f = ap₂ (part_between line) (sym e) f

pub slice-short : (line : List ℕ) (col span offset units : ℕ) → IsUtf8 line
    → Some offset ≡ column_offset line col → units ≡ width (chars (take offset line))
    → None ≡ column_offset (drop offset line) (col + span - units)
    → None ≡ slice_of line col span
slice-short line col span offset units u e w f =
    let end = offset-further line col span offset units u e w ∙ ap (option_map (λ n. offset + n)) (sym f) in
    sym (slice_at_offset line col span offset e None end)

pub slice-there : (line : List ℕ) (col span offset units len : ℕ) → IsUtf8 line
    → Some offset ≡ column_offset line col → units ≡ width (chars (take offset line))
    → Some len ≡ column_offset (drop offset line) (col + span - units)
    → Some (take len (drop offset line)) ≡ slice_of line col span
slice-there line col span offset units len u e w f =
    let end = offset-further line col span offset units u e w ∙ ap (option_map (λ n. offset + n)) (sym f) in
    let between : offset + len - offset ≡ len = omega arith in
    sym (slice_at_offset line col span offset e (Some (offset + len)) end
    ∙ ap (λ n. Some (take n (drop offset line))) between)

within_back : (offset len all : ℕ) → offset ≤ all → offset - len ≤ all
within_back offset len all l = omega arith

sum_back : (offset count : ℕ) → count ≤ offset → offset ≡ offset - count + count
sum_back offset count l = omega arith

chars-one : (c : ℕ) → IsScalar c → chars (encode_utf8 c) ≡ c ∷ []
chars-one c s =
    let one : encode_utf8 c ≡ encode_utf8 c ++ [] = sym (append-nil (encode_utf8 c)) in
    chars_past_char (encode_utf8 c) [] c (IsUtf8-encode c s) one ∙ ap (λ cs. c ∷ cs) chars-nil

ascii_boundary : (line : List ℕ) (offset count : ℕ) → IsUtf8 line → IsCharBoundary line offset → count ≤ offset
    → IsAscii (take count (drop (offset - count) line)) → IsCharBoundary line (offset - count)
ascii_boundary line offset zero u b l a = let same : offset ≡ offset - 0 = omega arith in
    subst (λ n. IsCharBoundary line n) same b
ascii_boundary line offset (suc count) u b l a =
    let at = offset - suc count in
    let inside = b.0 in
    let start : at + 0 ≡ at = omega arith in
    let first : get_or line at 0 < 128 = subst (λ n. n < 128) (get_or-take (suc count) (drop at line) 0 0 (omega arith)
    ∙ get_or-drop at line 0 0 ∙ ap (λ n. get_or line n 0) start) (a 0) in
    IsCharBoundary-before_ascii line at (omega arith) first

-- ---- the search back from an offset to a column

pub units_some : (c : ℕ) → 0 < units_of c
units_some c = grind (arith, nat_tests)

BeginBefore-own : (xs : List ℕ) → BeginBefore (width xs) xs
BeginBefore-own [] = tt
BeginBefore-own (x ∷ xs) =
    let some = units_some x in
    let left : width xs ≡ units_of x + width xs - units_of x = omega arith in
    (omega arith, subst (λ n. BeginBefore n xs) left (BeginBefore-own xs))

-- the character boundary `offset` is the offset of column `col` if at least `col` units are before `offset`, and each
-- character before `offset` starts before column `col`
pub offset-reached : (line : List ℕ) (offset units col : ℕ) → IsUtf8 line → IsOffset line offset units → col ≤ units
    → BeginBefore col (chars (take offset line)) → Some offset ≡ column_offset line col
offset-reached line offset units col u p l b =
    let before = IsUtf8-take line offset u p.0 in
    let front = chars (take offset line) in
    let back = chars (drop offset line) in
    let whole : chars line ≡ front ++ back =
    sym (ap chars (take-append-drop offset line)) ∙ chars-append (take offset line) (drop offset line) before in
    let wide = p.1 in
    let enough : col - width front ≡ 0 = omega arith in
    let here : first_reaching col (chars line) ≡ Some (front ++ []) =
    ap (first_reaching col) whole ∙ reaching-after front back col b ∙ ap (λ n. option_map (λ prefix. front ++ prefix)
    (first_reaching n back)) enough ∙ ap (option_map (λ prefix. front ++ prefix)) (reaching-nothing back) in
    let bytes : length (encode_utf8_all (front ++ [])) ≡ offset =
    ap (λ prefix. length (encode_utf8_all prefix)) (append-nil front)
    ∙ ap length (encodes-chars (take offset line) before) ∙ length-take-le offset line p.0.0 in
    sym (ap (option_map (λ prefix. length (encode_utf8_all prefix))) here ∙ ap Some bytes)

-- if `units` units are before the character boundary `offset`, then `offset` is the offset of column `units`
pub offset-own : (line : List ℕ) (offset units : ℕ) → IsUtf8 line → IsOffset line offset units
    → Some offset ≡ column_offset line units
offset-own line offset units u p =
    offset-reached line offset units units u p (le_refl units)
    (subst (λ n. BeginBefore n (chars (take offset line))) (sym p.1) (BeginBefore-own (chars (take offset line))))

-- one step back from `offset` over the character `c`: the start of `c` is a character boundary, and each column after
-- the start of `c`, up to column `units`, has the offset `offset`
pub record SteppedBack (line : List ℕ) (offset units c : ℕ) : Type 0 where
  pub some : length (encode_utf8 c) ≤ offset
  pub wide : units_of c ≤ units
  pub at : IsOffset line (offset - length (encode_utf8 c)) (units - units_of c)
  pub short : (col : ℕ) → col ≤ units → units - units_of c < col → Some offset ≡ column_offset line col

pub stepped-back : (line rest : List ℕ) (offset units c : ℕ) → IsUtf8 line → IsOffset line offset units → IsScalar c
    → take offset line ≡ rest ++ encode_utf8 c → SteppedBack line offset units c
stepped-back line rest offset units c u p s e =
    let front = IsUtf8-take line offset u p.0 in
    let seam = IsCharBoundary-at_seam (take offset line) rest (encode_utf8 c) e (IsUtf8-encode c s) in
    let rest_is : take (length rest) (take offset line) ≡ rest =
    ap (take (length rest)) e ∙ take_at rest (encode_utf8 c) (length rest) refl in
    let utf8 : IsUtf8 rest = subst IsUtf8 rest_is (IsUtf8-take (take offset line) (length rest) front seam) in
    let spelt : chars (take offset line) ≡ chars rest ++ c ∷ [] =
    ap chars e ∙ chars-append rest (encode_utf8 c) utf8 ∙ ap (λ cs. chars rest ++ cs) (chars-one c s) in
    let wide : units ≡ width (chars rest) + units_of c = p.1 ∙ ap width spelt ∙ width_more (chars rest) c in
    let len : offset ≡ length rest + length (encode_utf8 c) =
    sym (length-take-le offset line p.0.0) ∙ ap length e ∙ length-append rest (encode_utf8 c) in
    let back : length rest ≡ offset - length (encode_utf8 c) = omega arith in
    let left : width (chars rest) ≡ units - units_of c = omega arith in
    let cut : take (offset - length (encode_utf8 c)) line ≡ rest = sym (take-take (offset
    - length (encode_utf8 c)) offset line (omega arith)) ∙ ap (λ n. take n (take offset line)) (sym back) ∙ rest_is in
    record {
      some = omega arith;
      wide = omega arith;
      at = (
        IsCharBoundary-from_take line (offset - length (encode_utf8 c)) u
            (within_back offset (length (encode_utf8 c)) (length line) p.0.0) (subst IsUtf8 (sym cut) utf8),
        sym (ap (λ t. width (chars t)) cut ∙ left),
      );
      short = λ col l m. offset-reached line offset units col u p l (subst (BeginBefore col) (sym spelt)
          (BeginBefore-more (chars rest) c col (subst (λ n. n < col) (sym left) m)));
    }

-- if the `count` bytes before an offset are ASCII, they are `count` columns
pub ascii-back : (line : List ℕ) (offset units count col : ℕ) → IsUtf8 line → IsOffset line offset units
    → col + count ≡ units → count ≤ offset → IsAscii (slice_range line (offset - count) offset)
    → (Some (offset - count) ≡ column_offset line col) × IsOffset line (offset - count) col
ascii-back line offset units count col u p e l a =
    let at = offset - count in
    let len : offset - at ≡ count = omega arith in
    let ascii : IsAscii (take count (drop at line)) = subst (λ n. IsAscii (take n (drop at line))) len a in
    let inside = p.0.0 in
    let boundary = ascii_boundary line offset count u p.0 l ascii in
    let whole : take offset line ≡ take at line ++ take count (drop at line) =
    ap (λ n. take n line) (sum_back offset count l) ∙ take-add at count line in
    let before = IsUtf8-take line at u boundary in
    let left = length-drop at line in
    let many : length (take count (drop at line)) ≡ count = length-take-le count (drop at line) (omega arith) in
    let spelt : chars (take offset line) ≡ chars (take at line) ++ take count (drop at line) =
    ap chars whole ∙ chars-append (take at line) (take count (drop at line)) before ∙ ap (λ cs. chars (take at line)
    ++ cs) (chars-IsAscii (take count (drop at line)) ascii) in
    let wide : units ≡ width (chars (take at line)) + width (take count (drop at line)) =
    p.1 ∙ ap width spelt ∙ width-append (chars (take at line)) (take count (drop at line)) in
    let own = (ascii_begin (take count (drop at line)) count (omega arith) ascii).1 in
    let units_is : col ≡ width (chars (take at line)) = omega arith in
    let here : IsOffset line at col = (boundary, units_is) in
    (offset-own line at col u here, here)

pub no_step : (line : List ℕ) (offset units col : ℕ) → IsUtf8 line → IsOffset line offset units → col ≤ units
    → length (take offset line) ≡ 0 → Some offset ≡ column_offset line col
no_step line offset units col u p l e =
    let front = nil_from_length (take offset line) e in
    let wide : units ≡ 0 = p.1 ∙ ap (λ t. width (chars t)) front ∙ ap width chars-nil in
    let none : col ≡ 0 = omega arith in
    subst (λ n. Some offset ≡ column_offset line n) (wide ∙ sym none) (offset-own line offset units u p)

pub units_is : (c r : ℕ) → (c < 65536 → r ≡ 1) → (65536 ≤ c → r ≡ 2) → r ≡ units_of c
units_is c r one two = grind (arith, nat_tests)

-- ---- a walk that skips blocks of the line

BeginBefore-wide : (xs : List ℕ) (col : ℕ) → width xs ≤ col → BeginBefore col xs
BeginBefore-wide [] col l = tt
BeginBefore-wide (x ∷ xs) col l = let some = units_some x in
    (omega arith, BeginBefore-wide xs (col - units_of x) (omega arith))

-- a walk may start at an offset that is not after the column
pub Walked-at : (line : List ℕ) (col offset units : ℕ) → IsUtf8 line → IsOffset line offset units → units ≤ col
    → Walked line col (drop offset line) units
Walked-at line col offset units u p l =
    let before = IsUtf8-take line offset u p.0 in
    let whole : take offset line ++ drop offset line ≡ line = take-append-drop offset line in
    record {
      done = chars (take offset line);
      bytes = sym whole ∙ ap (λ t. t ++ drop offset line) (sym (encodes-chars (take offset line) before));
      spelt = ap chars (sym whole) ∙ chars-append (take offset line) (drop offset line) before;
      counted = p.1;
      begin = BeginBefore-wide (chars (take offset line)) col (subst (λ n. n ≤ col) p.1 l);
      utf8 = IsUtf8-drop line offset u p.0;
    }

pub offset-start : (line : List ℕ) → IsUtf8 line → IsOffset line 0 0
offset-start line u = (IsCharBoundary-start line u, sym (ap width chars-nil))

-- in a UTF-8 line, the number of UTF-16 units before a character boundary is at most the number of bytes before this
-- boundary
pub offset-few : (line : List ℕ) (offset units : ℕ) → IsUtf8 line → IsOffset line offset units → units ≤ offset
offset-few line offset units u p =
    let few = width-bytes (chars (take offset line)) in
    let bytes : length (encode_utf8_all (chars (take offset line))) ≡ offset =
    ap length (encodes-chars (take offset line) (IsUtf8-take line offset u p.0)) ∙ length-take-le offset line p.0.0 in
    let wide = p.1 in
    omega arith

-- `units + more` units are before the later boundary `end`: `units` before `offset`, and `more` from `offset` to `end`
pub offset-ahead : (line : List ℕ) (offset units end more : ℕ) → IsUtf8 line → IsOffset line offset units
    → IsCharBoundary line end → offset ≤ end → more ≡ width (chars (slice_range line offset end))
    → IsOffset line end (units + more)
offset-ahead line offset units end more u p b l m =
    let between : offset + (end - offset) ≡ end = omega arith in
    let whole : take end line ≡ take offset line ++ slice_range line offset end =
    ap (λ n. take n line) (sym between) ∙ take-add offset (end - offset) line in
    let before = IsUtf8-take line offset u p.0 in
    let spelt : chars (take end line) ≡ chars (take offset line) ++ chars (slice_range line offset end) =
    ap chars whole ∙ chars-append (take offset line) (slice_range line offset end) before in
    let wide : width (chars (take end line))
    ≡ width (chars (take offset line)) + width (chars (slice_range line offset end)) =
    ap width spelt ∙ width-append (chars (take offset line)) (chars (slice_range line offset end)) in
    let first = p.1 in
    (b, omega arith)

-- `total` units of a text are counted, and `rest` has as many units as are left
pub record Counted (text rest : List ℕ) (total : ℕ) : Type 0 where
  pub utf8 : IsUtf8 rest
  pub left : total + width (chars rest) ≡ width (chars text)
  pub few : total + length rest ≤ length text

pub Counted-start : (text : List ℕ) → IsUtf8 text → Counted text text 0
Counted-start text u = record { utf8 = u; left = omega arith; few = omega arith }

pub Counted-step : (text rest left : List ℕ) (total c : ℕ) → rest ≡ encode_utf8 c ++ left → Counted text rest total
    → Counted text left (total + units_of c)
Counted-step text rest left total c e t =
    let cut : width (chars rest) ≡ units_of c + width (chars left) = ap width (chars_past_char rest left c t.utf8 e) in
    let bytes : length rest ≡ length (encode_utf8 c) + length left = ap length e ∙ length-append (encode_utf8 c) left in
    let small = units_few c in
    let len = length-encode c in
    let before = t.left in
    let few = t.few in
    record { utf8 = IsUtf8-past_char rest left c t.utf8 e; left = omega arith; few = omega arith }

pub Counted-end : (text rest : List ℕ) (total : ℕ) → length rest ≡ 0 → Counted text rest total
    → total ≡ width (chars text)
Counted-end text [] total e t =
    let left = t.left in
    let none = ap width chars-nil in
    omega arith
Counted-end text (b ∷ rest) total e t = absurd (omega arith)

pub ascii-width : (text : List ℕ) → IsAscii text → length text ≡ width (chars text)
ascii-width text a =
    sym (ap width (chars-IsAscii text a) ∙ (ascii_begin text (length text) (le_refl (length text)) a).1)

-- ---- the offset of a column, or the end of the line

pub reached-there : (line : List ℕ) (col offset units : ℕ) → IsUtf8 line → Some offset ≡ column_offset line col
    → units ≡ width (chars (take offset line)) → reached_offset col offset units ≡ column_offset line col
reached-there line col offset units u e w =
    let cut = offset_cuts line col offset u e in
    let far : nat_le col units ≡ true = ap (nat_le col) (w ∙ ap width cut.before) ∙ cut.enough in
    rw far e

none_from_map : {X Y : Type 0} (f : X → Y) (o : Option X) → option_map f o ≡ None → o ≡ None
none_from_map f None e = refl
none_from_map f (Some x) e = absurd (none-some (f x) (sym e))

none_whole : (test : List ℕ → Bool) (cs : List ℕ) → find test (prefixes cs) ≡ None → test cs ≡ false
none_whole test [] e =
    elim (cases_Bool (test [])) [ inl t ↦ absurd (none-some [] (sym (rw t at e))) | inr t ↦ t ]
none_whole test (c ∷ cs) e =
    elim (cases_Bool (test [])) [
      | inl t ↦ absurd (none-some [] (sym (rw t at e)))
      | inr t ↦
          let later : option_map (λ prefix. c ∷ prefix) (find (λ prefix. test (c ∷ prefix)) (prefixes cs)) ≡ None =
          sym (find-map test (λ prefix. c ∷ prefix) (prefixes cs)) ∙ (rw t at e) in
          none_whole (λ prefix. test (c ∷ prefix)) cs (none_from_map (λ prefix. c ∷ prefix) _ later)
    ]

pub reached-short : (line : List ℕ) (col offset units : ℕ) → None ≡ column_offset line col → units ≡ width (chars line)
    → reached_offset col offset units ≡ column_offset line col
reached-short line col offset units e w =
    let short : nat_le col units ≡ false =
    ap (nat_le col) w ∙ none_whole (λ prefix. nat_le col (width prefix)) (chars line) (none_from_map
    (λ prefix. length (encode_utf8_all prefix)) (first_reaching col (chars line)) (sym e)) in
    rw short e

pub reached-end : (line : List ℕ) (col offset units : ℕ) → IsUtf8 line → IsOffset line offset units
    → offset ≡ length line → units < col → reached_offset col offset units ≡ column_offset line col
reached-end line col offset units u p end l =
    let none : length (drop offset line) ≡ 0 = length-drop offset line ∙ omega arith in
    let short : nat_le col units ≡ false = grind (arith, nat_tests) in
    rw short (Walked-short line (drop offset line) col units l none (Walked-at line col offset units u p (omega arith)))
