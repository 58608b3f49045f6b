-- The common first parts of two paths, byte by byte.
use Rattle.std.proofs.Common.{◌≡◌, ◌≢◌, refl, sym, ap, subst, ◌∙◌, ℕ, zero, suc, ◌+◌, ◌<◌, ◌≤◌, ◌==◌, ◌&&◌, ◌||◌, List}
use Rattle.std.proofs.Common.{[], ◌∷◌, ◌++◌, length, take, drop, get_or, nat_le, Bool, true, false, cond, Some, None}
use Rattle.std.proofs.Common.{Option, option_map, unwrap_or, filter, map, Bor, arith, inl, inr, eq-eqb, add-one}
use Rattle.std.specs.List.{concat}
use Rattle.std.specs.Str.{bytes_eq, IsUtf8, IsCharBoundary}
use Rattle.std.proofs.Math.Seq.{drop-cons}
use Rattle.std.proofs.lemmas.Bool.{cases_Bool, cases_lt, or_cases, eqb-true, ne_eqb, le-leb, lt-leb}
use Rattle.std.proofs.lemmas.Slice.Eq.{bytes_eq-Decides}
use Rattle.std.proofs.lemmas.Str.{IsCharBoundary-start, IsCharBoundary-end, IsCharBoundary-before_ascii}
use Rattle.sourcemap_texts.specs.Paths.{is_absolute, is_separator, with_first_byte, path_parts, common_parts}
use Rattle.sourcemap_texts.specs.Paths.{first_parts}

-- ---- parts

-- the text is empty or starts with a separator: the preceding part is complete
abbrev pub ends_part : List ℕ → Bool
ends_part [] = true
ends_part (byte ∷ text) = is_separator byte

path_parts-cut : (byte : ℕ) (text : List ℕ) → ends_part text ≡ true
    → path_parts (byte ∷ text) ≡ (byte ∷ []) ∷ path_parts text
path_parts-cut byte [] e = refl
path_parts-cut byte (next ∷ text) e = rw e refl

path_parts-joined : (byte : ℕ) (text : List ℕ) → ends_part text ≡ false
    → path_parts (byte ∷ text) ≡ with_first_byte byte (path_parts text)
path_parts-joined byte [] e = cc
path_parts-joined byte (next ∷ text) e = rw e refl

-- the list `parts` is not empty, and the first part starts with `byte`
record StartsWith (byte : ℕ) (parts : List (List ℕ)) : Type 0 where
  part : List ℕ
  others : List (List ℕ)
  is : parts ≡ (byte ∷ part) ∷ others

starts : (byte : ℕ) (text : List ℕ) → StartsWith byte (path_parts (byte ∷ text))
starts byte [] = record { part = []; others = []; is = refl }
starts byte (next ∷ text) =
    let later = starts next text in
    elim (cases_Bool (is_separator next)) [
      | inl e ↦ record { part = []; others = path_parts (next ∷ text); is = path_parts-cut byte (next ∷ text) e }
      | inr e ↦ record {
        part = next ∷ later.part;
        others = later.others;
        is = path_parts-joined byte (next ∷ text) e ∙ ap (with_first_byte byte) later.is;
      }
    ]

-- joining `with_first_byte byte parts` gives `byte`, followed by the joined `parts`. `concat-path_parts` uses this to
-- prove that joining the parts of a text gives the text again
concat-with_first_byte : (byte : ℕ) (parts : List (List ℕ)) → concat (with_first_byte byte parts) ≡ byte ∷ concat parts
concat-with_first_byte byte [] = refl
concat-with_first_byte byte (part ∷ parts) = refl

pub concat-path_parts : (text : List ℕ) → concat (path_parts text) ≡ text
concat-path_parts [] = refl
concat-path_parts (byte ∷ text) =
    let rest : concat (path_parts text) ≡ text = concat-path_parts text in
    elim (cases_Bool (ends_part text)) [
      | inl e ↦ ap concat (path_parts-cut byte text e) ∙ ap (λ t. byte ∷ t) rest
      | inr e ↦ ap concat (path_parts-joined byte text e) ∙ concat-with_first_byte byte (path_parts text)
          ∙ ap (λ t. byte ∷ t) rest
    ]

-- ---- common parts

bytes_eq-refl : (part : List ℕ) → bytes_eq part part ≡ true
bytes_eq-refl part = (bytes_eq-Decides part part).1 refl

common_parts-nil : (ps : List (List ℕ)) → common_parts ps [] ≡ []
common_parts-nil [] = refl
common_parts-nil (p ∷ ps) = refl

common_parts-same : (p q : List ℕ) (ps qs : List (List ℕ)) → bytes_eq p q ≡ true
    → common_parts (p ∷ ps) (q ∷ qs) ≡ p ∷ common_parts ps qs
common_parts-same p q ps qs e = rw e refl

common_parts-apart : (p q : List ℕ) (ps qs : List (List ℕ)) → bytes_eq p q ≡ false → common_parts (p ∷ ps) (q ∷ qs) ≡ []
common_parts-apart p q ps qs e = rw e refl

common_parts-assoc : (ps qs rs : List (List ℕ))
    → common_parts (common_parts ps qs) rs ≡ common_parts ps (common_parts qs rs)
common_parts-assoc [] qs rs = refl
common_parts-assoc (p ∷ ps) [] rs = refl
common_parts-assoc (p ∷ ps) (q ∷ qs) [] = common_parts-nil (common_parts (p ∷ ps) (q ∷ qs))
common_parts-assoc (p ∷ ps) (q ∷ qs) (r ∷ rs) =
    let tails : common_parts (common_parts ps qs) rs ≡ common_parts ps (common_parts qs rs) =
    common_parts-assoc ps qs rs in
    elim (cases_Bool (bytes_eq p q)) [
      | inl e ↦
          let same : p ≡ q = (bytes_eq-Decides p q).0 e in
          elim (cases_Bool (bytes_eq q r)) [
            | inl f ↦
                let across : bytes_eq p r ≡ true = subst (λ t. bytes_eq t r ≡ true) (sym same) f in
                ap (λ l. common_parts l (r ∷ rs)) (common_parts-same p q ps qs e)
                ∙ common_parts-same p r (common_parts ps qs) rs across ∙ ap (λ l. p ∷ l) tails
                ∙ sym (ap (common_parts (p ∷ ps)) (common_parts-same q r qs rs f)
                ∙ common_parts-same p q ps (common_parts qs rs) e)
            | inr f ↦
                let across : bytes_eq p r ≡ false = subst (λ t. bytes_eq t r ≡ false) (sym same) f in
                ap (λ l. common_parts l (r ∷ rs)) (common_parts-same p q ps qs e)
                ∙ common_parts-apart p r (common_parts ps qs) rs across
                ∙ sym (ap (common_parts (p ∷ ps)) (common_parts-apart q r qs rs f))
          ]
      | inr e ↦
          ap (λ l. common_parts l (r ∷ rs)) (common_parts-apart p q ps qs e) ∙
          sym (elim (cases_Bool (bytes_eq q r)) [
            | inl f ↦ ap (common_parts (p ∷ ps)) (common_parts-same q r qs rs f)
                ∙ common_parts-apart p q ps (common_parts qs rs) e
            | inr f ↦ ap (common_parts (p ∷ ps)) (common_parts-apart q r qs rs f)
          ])
    ]

-- if `last` is appended to one or more lists of parts, the new common first parts are `common_parts` of the old common
-- first parts and `last`
first_parts-append : (parts : List (List ℕ)) (lists : List (List (List ℕ))) (last : List (List ℕ))
    → first_parts ((parts ∷ lists) ++ last ∷ []) ≡ common_parts (first_parts (parts ∷ lists)) last
first_parts-append parts [] last = refl
first_parts-append parts (next ∷ lists) last =
    ap (common_parts parts) (first_parts-append next lists last)
    ∙ sym (common_parts-assoc parts (first_parts (next ∷ lists)) last)

-- the common first parts of the lists, `None` for no list
abbrev pub start_of : List (List (List ℕ)) → Option (List (List ℕ))
start_of [] = None
start_of (parts ∷ lists) = Some (first_parts (parts ∷ lists))

-- the common first parts of the lists so far and of one more list `parts`. `Some start` holds the common first parts of
-- the lists so far. `None`: there are no lists so far, and the result is `parts`
abbrev pub start_with : Option (List (List ℕ)) → List (List ℕ) → List (List ℕ)
start_with None parts = parts
start_with (Some start) parts = common_parts start parts

pub start_of-append : (lists : List (List (List ℕ))) (last : List (List ℕ))
    → start_of (lists ++ last ∷ []) ≡ Some (start_with (start_of lists) last)
start_of-append [] last = refl
start_of-append (parts ∷ lists) last = ap Some (first_parts-append parts lists last)

-- ---- the texts so far

-- the parts of the absolute paths among texts
abbrev pub parts_among : List (Bor (List ℕ)) → List (List (List ℕ))
parts_among texts = map path_parts (filter is_absolute (map (λ text. text.now) texts))

pub parts_among-taken : (texts : List (Bor (List ℕ))) (text : Bor (List ℕ)) → is_absolute text.now ≡ true
    → parts_among (texts ++ text ∷ []) ≡ parts_among texts ++ path_parts text.now ∷ []
parts_among-taken [] text e = rw e refl
parts_among-taken (first ∷ texts) text e =
    let rest : parts_among (texts ++ text ∷ []) ≡ parts_among texts ++ path_parts text.now ∷ [] =
    parts_among-taken texts text e in
    elim (is_absolute first.now) as (λ b. map path_parts (cond b (first.now ∷ filter is_absolute
    (map (λ t. t.now) (texts ++ text ∷ []))) (filter is_absolute (map (λ t. t.now) (texts ++ text ∷ []))))
    ≡ map path_parts (cond b (first.now ∷ filter is_absolute (map (λ t. t.now) texts))
    (filter is_absolute (map (λ t. t.now) texts))) ++ path_parts text.now ∷ [])
    [ true ↦ ap (λ l. path_parts first.now ∷ l) rest | false ↦ rest ]

pub parts_among-skipped : (texts : List (Bor (List ℕ))) (text : Bor (List ℕ)) → is_absolute text.now ≡ false
    → parts_among (texts ++ text ∷ []) ≡ parts_among texts
parts_among-skipped [] text e = rw e refl
parts_among-skipped (first ∷ texts) text e =
    let rest : parts_among (texts ++ text ∷ []) ≡ parts_among texts = parts_among-skipped texts text e in
    elim (is_absolute first.now) as (λ b. map path_parts (cond b (first.now ∷ filter is_absolute
    (map (λ t. t.now) (texts ++ text ∷ []))) (filter is_absolute (map (λ t. t.now) (texts ++ text ∷ []))))
    ≡ map path_parts
    (cond b (first.now ∷ filter is_absolute (map (λ t. t.now) texts)) (filter is_absolute (map (λ t. t.now) texts))))
    [ true ↦ ap (λ l. path_parts first.now ∷ l) rest | false ↦ rest ]

-- `start_with` gives the common first parts after one more absolute path `text`
pub start_of-taken : (texts : List (Bor (List ℕ))) (text : Bor (List ℕ)) → is_absolute text.now ≡ true → start_of
    (parts_among (texts ++ text ∷ [])) ≡ Some (start_with (start_of (parts_among texts)) (path_parts text.now))
start_of-taken texts text e =
    ap start_of (parts_among-taken texts text e) ∙ start_of-append (parts_among texts) (path_parts text.now)

-- let `joined` be the text in `start`, or empty if `start` is `None`. If `lists` is not empty, let `start` hold a text
-- that splits into the common first parts of `lists`. If `lists` is empty, let `start` be `None`. Then `joined` is the
-- common first parts of `lists`, put together
pub concat-first_parts : (lists : List (List (List ℕ))) (start : Option (Bor (List ℕ))) (none joined : Bor (List ℕ))
    → none.now ≡ [] → joined ≡ unwrap_or start none
    → option_map (λ s. path_parts s.now) start ≡ start_of lists → joined.now ≡ concat (first_parts lists)
concat-first_parts [] None none joined empty is same = ap (λ t. t.now) is ∙ empty
concat-first_parts [] (Some s) none joined empty is same = cc
concat-first_parts (parts ∷ lists) None none joined empty is same = cc
concat-first_parts (parts ∷ lists) (Some s) none joined empty is same =
    let first : path_parts s.now ≡ first_parts (parts ∷ lists) = cc in
    ap (λ t. t.now) is ∙ sym (concat-path_parts s.now) ∙ ap concat first

-- ---- where two texts differ

-- how the length in bytes of the common first parts changes if the same byte is put in front of two texts. The first
-- argument is the old length, and the result is the new length. `both_end`: in both new texts, this byte is a part of
-- its own
abbrev pub extended : ℕ → Bool → ℕ
extended zero both_end = cond both_end 1 0
extended (suc count) both_end = suc (suc count)

-- the length of the common first parts, in bytes
abbrev pub shared : List ℕ → List ℕ → ℕ
shared [] b = 0
shared (x ∷ a) [] = 0
shared (x ∷ a) (y ∷ b) = cond (x == y) (extended (shared a b) (ends_part a && ends_part b)) 0

shared-nil : (a : List ℕ) → shared a [] ≡ 0
shared-nil [] = refl
shared-nil (x ∷ a) = refl

shared-same : (x : ℕ) (a b : List ℕ) → shared (x ∷ a) (x ∷ b) ≡ extended (shared a b) (ends_part a && ends_part b)
shared-same x a b = let same : (x == x) ≡ true = eq-eqb x x refl in rw same refl

shared-apart : (x y : ℕ) (a b : List ℕ) → (x == y) ≡ false → shared (x ∷ a) (y ∷ b) ≡ 0
shared-apart x y a b e = rw e refl

-- a separator differs from a byte that is not a separator. So if exactly one of two texts is empty or starts with a
-- separator, the texts have no common first parts
apart : (x y : ℕ) → is_separator x ≡ true → is_separator y ≡ false → (x == y) ≡ false
apart x y e f = ne_eqb x y (λ same. let yes : is_separator y ≡ true = subst (λ t. is_separator t ≡ true) same e in cc)

apart' : (x y : ℕ) → is_separator x ≡ false → is_separator y ≡ true → (x == y) ≡ false
apart' x y e f = ne_eqb x y (λ same. let no : is_separator y ≡ false = subst (λ t. is_separator t ≡ false) same e in cc)

shared-ends_left : (a b : List ℕ) → ends_part a ≡ true → ends_part b ≡ false → shared a b ≡ 0
shared-ends_left [] b e f = refl
shared-ends_left (x ∷ a) [] e f = refl
shared-ends_left (x ∷ a) (y ∷ b) e f = shared-apart x y a b (apart x y e f)

shared-ends_right : (a b : List ℕ) → ends_part a ≡ false → ends_part b ≡ true → shared a b ≡ 0
shared-ends_right [] b e f = refl
shared-ends_right (x ∷ a) [] e f = refl
shared-ends_right (x ∷ a) (y ∷ b) e f = shared-apart x y a b (apart' x y e f)

ends_part-take : (n : ℕ) (a : List ℕ) → ends_part a ≡ true → ends_part (take n a) ≡ true
ends_part-take zero a e = refl
ends_part-take (suc n) [] e = refl
ends_part-take (suc n) (x ∷ a) e = e

extended-true : (count : ℕ) → extended count true ≡ suc count
extended-true zero = refl
extended-true (suc count) = refl

-- if the first n bytes of a nonempty text have no parts, n is 0
take-empty : (n : ℕ) (x : ℕ) (a : List ℕ) → path_parts (take n (x ∷ a)) ≡ [] → n ≡ 0
take-empty zero x a e = refl
take-empty (suc n) x a e = let h = starts x (take n a) in let clash : [] ≡ (x ∷ h.part) ∷ h.others = sym e ∙ h.is in cc

-- a case of `parts-step`: both texts end a part after the first byte `x`
parts-both_end : (x : ℕ) (a b : List ℕ) → ends_part a ≡ true → ends_part b ≡ true
    → path_parts (take (shared a b) a) ≡ common_parts (path_parts a) (path_parts b)
    → path_parts (take (shared (x ∷ a) (x ∷ b)) (x ∷ a)) ≡ common_parts (path_parts (x ∷ a)) (path_parts (x ∷ b))
parts-both_end x a b e f tails =
    let count : shared (x ∷ a) (x ∷ b) ≡ suc (shared a b) = shared-same x a b ∙ ap (λ t. extended (shared a b)
    (t && ends_part b)) e ∙ ap (extended (shared a b)) f ∙ extended-true (shared a b) in
    ap (λ n. path_parts (take n (x ∷ a))) count
    ∙ path_parts-cut x (take (shared a b) a) (ends_part-take (shared a b) a e) ∙ ap (λ l. (x ∷ []) ∷ l) tails
    ∙ sym (ap (λ l. common_parts l (path_parts (x ∷ b))) (path_parts-cut x a e)
    ∙ ap (common_parts ((x ∷ []) ∷ path_parts a)) (path_parts-cut x b f)
    ∙ common_parts-same (x ∷ []) (x ∷ []) (path_parts a) (path_parts b) (bytes_eq-refl (x ∷ [])))

-- neither text ends a part after x
parts-neither_ends : (x c d : ℕ) (a b : List ℕ) → is_separator c ≡ false → is_separator d ≡ false
    → path_parts (take (shared (c ∷ a) (d ∷ b)) (c ∷ a)) ≡ common_parts (path_parts (c ∷ a)) (path_parts (d ∷ b))
    → path_parts (take (shared (x ∷ c ∷ a) (x ∷ d ∷ b)) (x ∷ c ∷ a))
    ≡ common_parts (path_parts (x ∷ c ∷ a)) (path_parts (x ∷ d ∷ b))
parts-neither_ends x c d a b e f tails =
    let left = starts c a in
    let right = starts d b in
    let p = c ∷ left.part in
    let q = d ∷ right.part in
    let both : common_parts (path_parts (c ∷ a)) (path_parts (d ∷ b))
    ≡ common_parts (p ∷ left.others) (q ∷ right.others) =
    ap (λ l. common_parts l (path_parts (d ∷ b))) left.is ∙ ap (common_parts (p ∷ left.others)) right.is in
    let longer : common_parts (path_parts (x ∷ c ∷ a)) (path_parts (x ∷ d ∷ b))
    ≡ common_parts ((x ∷ p) ∷ left.others) ((x ∷ q) ∷ right.others) =
    ap (λ l. common_parts l (path_parts (x ∷ d ∷ b))) (path_parts-joined x (c ∷ a) e ∙ ap (with_first_byte x) left.is)
    ∙ ap (common_parts ((x ∷ p) ∷ left.others)) (path_parts-joined x (d ∷ b) f ∙ ap (with_first_byte x) right.is) in
    let count : shared (x ∷ c ∷ a) (x ∷ d ∷ b) ≡ extended (shared (c ∷ a) (d ∷ b)) false =
    shared-same x (c ∷ a) (d ∷ b) ∙ ap (λ t. extended (shared (c ∷ a) (d ∷ b)) (t && is_separator d)) e in
    elim (cases_Bool (bytes_eq p q)) [
      | inl s ↦
          let same : bytes_eq (x ∷ p) (x ∷ q) ≡ true =
          (bytes_eq-Decides (x ∷ p) (x ∷ q)).1 (ap (λ t. x ∷ t) ((bytes_eq-Decides p q).0 s)) in
          let kept : path_parts (take (shared (c ∷ a) (d ∷ b)) (c ∷ a)) ≡ p ∷ common_parts left.others right.others =
          tails ∙ both ∙ common_parts-same p q left.others right.others s in
          ap (λ n. path_parts (take n (x ∷ c ∷ a))) count
          ∙ grown (shared (c ∷ a) (d ∷ b)) p (common_parts left.others right.others) kept
          ∙ sym (longer ∙ common_parts-same (x ∷ p) (x ∷ q) left.others right.others same)
      | inr s ↦
          let differ : bytes_eq (x ∷ p) (x ∷ q) ≡ false = rw (eq-eqb x x refl) s in
          let none : shared (c ∷ a) (d ∷ b) ≡ 0 =
          take-empty (shared (c ∷ a) (d ∷ b)) c a (tails ∙ both ∙ common_parts-apart p q left.others right.others s) in
          ap (λ n. path_parts (take n (x ∷ c ∷ a))) (count ∙ ap (λ n. extended n false) none)
          ∙ sym (longer ∙ common_parts-apart (x ∷ p) (x ∷ q) left.others right.others differ)
    ]
  where
    grown : (n : ℕ) (part : List ℕ) (others : List (List ℕ)) → path_parts (take n (c ∷ a)) ≡ part ∷ others
        → path_parts (take (extended n false) (x ∷ c ∷ a)) ≡ (x ∷ part) ∷ others
    grown zero part others h = cc
    grown (suc n) part others h = path_parts-joined x (take (suc n) (c ∷ a)) e ∙ ap (with_first_byte x) h

-- only the first text ends a part after x
parts-left_ends : (x d : ℕ) (a b : List ℕ) → ends_part a ≡ true → is_separator d ≡ false
    → path_parts (take (shared (x ∷ a) (x ∷ d ∷ b)) (x ∷ a))
    ≡ common_parts (path_parts (x ∷ a)) (path_parts (x ∷ d ∷ b))
parts-left_ends x d a b e f =
    let right = starts d b in
    let count : shared (x ∷ a) (x ∷ d ∷ b) ≡ 0 =
    shared-same x a (d ∷ b) ∙ ap (λ n. extended n (ends_part a && is_separator d)) (shared-ends_left a (d ∷ b) e f)
    ∙ ap (λ t. extended 0 (t && is_separator d)) e ∙ ap (λ t. extended 0 t) f in
    let differ : bytes_eq (x ∷ []) (x ∷ d ∷ right.part) ≡ false = rw (eq-eqb x x refl) refl in
    ap (λ n. path_parts (take n (x ∷ a))) count
    ∙ sym (ap (λ l. common_parts l (path_parts (x ∷ d ∷ b))) (path_parts-cut x a e)
    ∙ ap (common_parts ((x ∷ []) ∷ path_parts a)) (path_parts-joined x (d ∷ b) f ∙ ap (with_first_byte x) right.is)
    ∙ common_parts-apart (x ∷ []) (x ∷ d ∷ right.part) (path_parts a) right.others differ)

-- only the second text ends a part after x
parts-right_ends : (x c : ℕ) (a b : List ℕ) → is_separator c ≡ false → ends_part b ≡ true
    → path_parts (take (shared (x ∷ c ∷ a) (x ∷ b)) (x ∷ c ∷ a))
    ≡ common_parts (path_parts (x ∷ c ∷ a)) (path_parts (x ∷ b))
parts-right_ends x c a b e f =
    let left = starts c a in
    let count : shared (x ∷ c ∷ a) (x ∷ b) ≡ 0 =
    shared-same x (c ∷ a) b ∙ ap (λ n. extended n (is_separator c && ends_part b)) (shared-ends_right (c ∷ a) b e f)
    ∙ ap (λ t. extended 0 (t && ends_part b)) e in
    let differ : bytes_eq (x ∷ c ∷ left.part) (x ∷ []) ≡ false = rw (eq-eqb x x refl) refl in
    ap (λ n. path_parts (take n (x ∷ c ∷ a))) count
    ∙ sym
    (ap (λ l. common_parts l (path_parts (x ∷ b))) (path_parts-joined x (c ∷ a) e ∙ ap (with_first_byte x) left.is)
    ∙ ap (common_parts ((x ∷ c ∷ left.part) ∷ left.others)) (path_parts-cut x b f)
    ∙ common_parts-apart (x ∷ c ∷ left.part) (x ∷ []) left.others (path_parts b) differ)

-- the induction step of `path_parts-shared`: both texts get the same byte `x` in front
parts-step : (x : ℕ) (a b : List ℕ) → path_parts (take (shared a b) a) ≡ common_parts (path_parts a) (path_parts b)
    → path_parts (take (shared (x ∷ a) (x ∷ b)) (x ∷ a)) ≡ common_parts (path_parts (x ∷ a)) (path_parts (x ∷ b))
parts-step x [] [] tails = parts-both_end x [] [] refl refl tails
parts-step x [] (d ∷ b) tails =
    elim (cases_Bool (is_separator d)) [
      | inl f ↦ parts-both_end x [] (d ∷ b) refl f tails
      | inr f ↦ parts-left_ends x d [] b refl f
    ]
parts-step x (c ∷ a) [] tails =
    elim (cases_Bool (is_separator c)) [
      | inl e ↦ parts-both_end x (c ∷ a) [] e refl tails
      | inr e ↦ parts-right_ends x c a [] e refl
    ]
parts-step x (c ∷ a) (d ∷ b) tails =
    elim (cases_Bool (is_separator c)) [
      | inl e ↦
          elim (cases_Bool (is_separator d)) [
            | inl f ↦ parts-both_end x (c ∷ a) (d ∷ b) e f tails
            | inr f ↦ parts-left_ends x d (c ∷ a) b e f
          ]
      | inr e ↦
          elim (cases_Bool (is_separator d)) [
            | inl f ↦ parts-right_ends x c a (d ∷ b) e f
            | inr f ↦ parts-neither_ends x c d a b e f tails
          ]
    ]

-- the shared bytes are the common first parts
pub path_parts-shared : (a b : List ℕ) → path_parts (take (shared a b) a) ≡ common_parts (path_parts a) (path_parts b)
path_parts-shared [] b = refl
path_parts-shared (x ∷ a) [] = sym (common_parts-nil (path_parts (x ∷ a)))
path_parts-shared (x ∷ a) (y ∷ b) =
    let tails : path_parts (take (shared a b) a) ≡ common_parts (path_parts a) (path_parts b) = path_parts-shared a b in
    elim (cases_Bool (x == y)) [
      | inl e ↦ subst (λ z. path_parts (take (shared (x ∷ a) (z ∷ b)) (x ∷ a))
          ≡ common_parts (path_parts (x ∷ a)) (path_parts (z ∷ b))) (eqb-true x y e) (parts-step x a b tails)
      | inr e ↦
          let left = starts x a in
          let right = starts y b in
          let differ : bytes_eq (x ∷ left.part) (y ∷ right.part) ≡ false = rw e refl in
          ap (λ n. path_parts (take n (x ∷ a))) (shared-apart x y a b e)
          ∙ sym (ap (λ l. common_parts l (path_parts (y ∷ b))) left.is
          ∙ ap (common_parts ((x ∷ left.part) ∷ left.others)) right.is
          ∙ common_parts-apart (x ∷ left.part) (y ∷ right.part) left.others right.others differ)
    ]

-- ---- a walk over both texts

-- the length in bytes of the common first parts (`shared`) of two texts whose first `at` bytes are the same. `count` is
-- this length for the rests of the texts, from index `at` on. If `count` is not 0, the result is `at + count`.
-- Otherwise the result is `at` if both texts end a part at index `at` (`both_end`), and `kept` if not
abbrev pub shared_at : ℕ → ℕ → Bool → ℕ → ℕ
shared_at at zero both_end kept = cond both_end at kept
shared_at at (suc count) both_end kept = at + suc count

-- the invariant of a walk past equal bytes of `a` and `b`. The walk has reached index `at`, which is at most the length
-- of each text. `shared_at` gives the length in bytes of the common first parts of `a` and `b` (`shared`). As `kept`,
-- the walk uses the index of the last separator before `at`, or 0 if there is none
pub record IsWalk (a b : List ℕ) (at kept : ℕ) : Type 0 where
  pub within_a : at ≤ length a
  pub within_b : at ≤ length b
  pub value : shared a b
      ≡ shared_at at (shared (drop at a) (drop at b)) (ends_part (drop at a) && ends_part (drop at b)) kept

shared_at-start : (count : ℕ) (both_end : Bool) → count ≡ shared_at 0 count both_end 0
shared_at-start zero true = refl
shared_at-start zero false = refl
shared_at-start (suc count) both_end = omega arith

pub IsWalk-start : (a b : List ℕ) → IsWalk a b 0 0
IsWalk-start a b = record {
  within_a = omega arith;
  within_b = omega arith;
  value = shared_at-start (shared a b) (ends_part a && ends_part b);
}

shared_at-step : (at count kept : ℕ) (cut both_end : Bool)
    → shared_at at (extended count both_end) (cut && cut) kept ≡ shared_at (at + 1) count both_end (cond cut at kept)
shared_at-step at zero kept cut true = refl
shared_at-step at zero kept true false = refl
shared_at-step at zero kept false false = refl
shared_at-step at (suc count) kept cut both_end = omega arith

drop-within : (at : ℕ) (a : List ℕ) → at < length a → drop at a ≡ get_or a at 0 ∷ drop (at + 1) a
drop-within at a l = rw (add-one, drop-cons a at 0) refl

pub IsWalk-step : {a b : List ℕ} {at kept : ℕ} → IsWalk a b at kept → at < length a → at < length b
    → get_or a at 0 ≡ get_or b at 0
    → IsWalk a b (at + 1) (cond (is_separator (get_or a at 0)) at kept)
IsWalk-step {a} {b} {at} {kept} walk la lb same =
    let x = get_or a at 0 in
    let s = drop (at + 1) a in
    let t = drop (at + 1) b in
    let left : drop at a ≡ x ∷ s = drop-within at a la in
    let right : drop at b ≡ x ∷ t = subst (λ y. drop at b ≡ y ∷ t) (sym same) (drop-within at b lb) in
    let here : shared a b ≡ shared_at at (shared (x ∷ s) (x ∷ t)) (is_separator x && is_separator x) kept =
    subst (λ m. shared a b ≡ shared_at at (shared (x ∷ s) m) (is_separator x && ends_part m) kept) right
    (subst (λ m. shared a b
    ≡ shared_at at (shared m (drop at b)) (ends_part m && ends_part (drop at b)) kept) left walk.value) in
    record {
      within_a = omega arith;
      within_b = omega arith;
      value = here ∙ ap (λ n. shared_at at n (is_separator x && is_separator x) kept) (shared-same x s t)
          ∙ shared_at-step at (shared s t) kept (is_separator x) (ends_part s && ends_part t);
    }

-- nothing more is shared if the next bytes differ, or a text ends
shared-differs : (at : ℕ) (a b : List ℕ) → (at < length a → at < length b → get_or a at 0 ≢ get_or b at 0)
    → shared (drop at a) (drop at b) ≡ 0
shared-differs zero [] b differ = refl
shared-differs zero (x ∷ a) [] differ = refl
shared-differs zero (x ∷ a) (y ∷ b) differ = shared-apart x y a b (ne_eqb x y (differ (omega arith) (omega arith)))
shared-differs (suc at) [] b differ = refl
shared-differs (suc at) (x ∷ a) [] differ = shared-nil (drop at a)
shared-differs (suc at) (x ∷ a) (y ∷ b) differ = shared-differs at a b (λ la lb. differ (omega arith) (omega arith))

nat_le-suc : (m n : ℕ) → nat_le (suc m) (suc n) ≡ nat_le m n
nat_le-suc m n =
    elim (cases_lt n m) [
      | inl l ↦ lt-leb (suc m) (suc n) (omega arith) ∙ sym (lt-leb m n l)
      | inr l ↦ le-leb (suc m) (suc n) (omega arith) ∙ sym (le-leb m n l)
    ]

ends_part-drop : (at : ℕ) (a : List ℕ) → (nat_le (length a) at || is_separator (get_or a at 0)) ≡ ends_part (drop at a)
ends_part-drop zero [] = refl
ends_part-drop zero (x ∷ a) = let no : nat_le (suc (length a)) 0 ≡ false =
    lt-leb (suc (length a)) 0 (omega arith) in rw no refl
ends_part-drop (suc at) [] = let yes : nat_le 0 (suc at) ≡ true = le-leb 0 (suc at) (omega arith) in rw yes refl
ends_part-drop (suc at) (x ∷ a) = rw (nat_le-suc (length a) at) (ends_part-drop at a)

-- the walk ends where the bytes differ or a text ends. If both texts end a part there, `at` bytes are shared,
-- otherwise `kept`
module _ {a b : List ℕ} {at kept : ℕ} (walk : IsWalk a b at kept)
    (differ : at < length a → at < length b → get_or a at 0 ≢ get_or b at 0)
    (x y : Bool) (left : x ≡ (nat_le (length a) at || is_separator (get_or a at 0)))
    (right : y ≡ (nat_le (length b) at || is_separator (get_or b at 0))) where
  IsWalk-end : shared a b ≡ cond (x && y) at kept
  IsWalk-end =
      walk.value
      ∙ ap (λ n. shared_at at n (ends_part (drop at a) && ends_part (drop at b)) kept) (shared-differs at a b differ)
      ∙ sym (ap (λ t. cond (t && y) at kept) (left ∙ ends_part-drop at a)
      ∙ ap (λ t. cond (ends_part (drop at a) && t) at kept) (right ∙ ends_part-drop at b))

  pub IsWalk-cut : (x && y) ≡ true → shared a b ≡ at
  IsWalk-cut e = IsWalk-end ∙ ap (λ t. cond t at kept) e

  pub IsWalk-kept : (x && y) ≡ false → shared a b ≡ kept
  IsWalk-kept e = IsWalk-end ∙ ap (λ t. cond t at kept) e

-- ---- where the shared bytes end

-- `n` is the start of the text, the end of the text, or the index of a separator
pub record IsCut (a : List ℕ) (n : ℕ) : Type 0 where
  pub within : n ≤ length a
  pub before : 0 < n → n < length a → is_separator (get_or a n 0) ≡ true

IsCut-zero : (a : List ℕ) → IsCut a 0
IsCut-zero a = record { within = omega arith; before = λ l. absurd (omega arith) }

IsCut-extended : (x : ℕ) (a b : List ℕ) (n : ℕ) → IsCut a n → IsCut (x ∷ a) (extended n (ends_part a && ends_part b))
IsCut-extended x a b (suc n) cut =
    record { within = omega (arith, cut.within); before = λ l m. cut.before (omega arith) (omega arith) }
IsCut-extended x [] b zero cut =
    elim (ends_part b) as (λ t. IsCut (x ∷ []) (cond t 1 0)) [
      | true ↦ record { within = omega arith; before = λ l m. absurd (omega arith) }
      | false ↦ IsCut-zero (x ∷ [])
    ]
IsCut-extended x (c ∷ a) b zero cut =
    elim (cases_Bool (is_separator c)) [
      | inl e ↦ elim (is_separator c && ends_part b) as (λ t. IsCut (x ∷ c ∷ a) (cond t 1 0)) [
        | true ↦ record { within = omega arith; before = λ l m. e }
        | false ↦ IsCut-zero (x ∷ c ∷ a)
      ]
      | inr e ↦ rw e (IsCut-zero (x ∷ c ∷ a))
    ]

pub IsCut-shared : (a b : List ℕ) → IsCut a (shared a b)
IsCut-shared [] b = IsCut-zero []
IsCut-shared (x ∷ a) [] = IsCut-zero (x ∷ a)
IsCut-shared (x ∷ a) (y ∷ b) =
    let later : IsCut a (shared a b) = IsCut-shared a b in
    elim (x == y) as (λ t. IsCut (x ∷ a) (cond t (extended (shared a b) (ends_part a && ends_part b)) 0)) [
      | true ↦ IsCut-extended x a b (shared a b) later
      | false ↦ IsCut-zero (x ∷ a)
    ]

separator-ascii : (c : ℕ) → is_separator c ≡ true → c < 128
separator-ascii c e =
    elim (or_cases (c == 47) (c == 92) e) [
      | inl h ↦ (let is : c ≡ 47 = eqb-true c 47 h in omega arith)
      | inr h ↦ (let is : c ≡ 92 = eqb-true c 92 h in omega arith)
    ]

-- a UTF-8 text may be split at its start, at its end and before a separator
pub IsCharBoundary-cut : (a : List ℕ) (n : ℕ) → IsUtf8 a → n ≤ length a
    → (0 < n → n < length a → is_separator (get_or a n 0) ≡ true) → IsCharBoundary a n
IsCharBoundary-cut a zero utf8 within before = IsCharBoundary-start a utf8
IsCharBoundary-cut a (suc n) utf8 within before =
    elim (cases_lt (suc n) (length a)) [
      | inl l ↦ IsCharBoundary-before_ascii a (suc n) l (separator-ascii _ (before (omega arith) l))
      | inr l ↦ (let end : length a ≡ suc n = omega arith in subst (IsCharBoundary a) end (IsCharBoundary-end a))
    ]
