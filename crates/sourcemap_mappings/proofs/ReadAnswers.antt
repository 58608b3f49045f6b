-- Decoding has at most one result, and the decoded tokens are within the counts of the map.
use Rattle.std.proofs.Common.{◌≡◌, ℕ, suc, ◌+◌, ◌≤◌, ◌⊎◌, ℤ, List, [], ◌∷◌, ◌++◌, length, Some, None, Result, Ok, Err}
use Rattle.std.proofs.Common.{IfOk, IfErr, sym, ap, ap₂, ◌∙◌, subst, inl, inr, append_assoc, append-nil, arith}
use Rattle.std.proofs.lemmas.Bool.Decides.{nat_tests}
use Rattle.sourcemap_tokens.specs.declared.tokens.RawToken.{RawToken}
use Rattle.sourcemap_errors.specs.declared.errors.Error.{Error}
use Rattle.sourcemap_errors.specs.declared.errors.Error.TheVariants.{OutOfMemory}
use Rattle.sourcemap_errors.specs.Answer.{Gives, IsAnswer, UnlessMemory}
use Rattle.sourcemap_vlq.specs.Bits.{first_non_digit}
use Rattle.sourcemap_vlq.specs.Vlq.{Reads, HasError, SegmentAnswers}
use Rattle.sourcemap_tokens.specs.Tokens.{in_order, IsWithin, AllWithin}
use Rattle.sourcemap_mappings.specs.Segment.{Counts, Segment, field, token_of, segment_error, parts_of}
use Rattle.sourcemap_mappings.specs.Read.{Line, LineText, line_tokens, tokens_of_lines, PartRead, PartError, PartsRead}
use Rattle.sourcemap_mappings.specs.Read.{PartsError, LineRead, LineError, LinesRead, LinesError, line_texts}
use Rattle.sourcemap_mappings.specs.Read.{MappingsAnswer}
use Rattle.sourcemap_vlq.proofs.VlqLemmas.{SegmentAnswers-same}
use Rattle.sourcemap_tokens.proofs.AllLemmas.{All-append}
use Rattle.sourcemap_tokens.proofs.TokensLemmas.{AllWithin-in_order}

-- a text has at most one decoded value and at most one error, and not both
record HasOneAnswer {Y : Type 0} (Reading : Y → Type 0) (IsError : Error → Type 0) : Type 0 where
  same : (x y : Y) → Reading x → Reading y → x ≡ y
  sound : (x : Y) (e : Error) → Reading x → IsError e → ⊥
  first : (e f : Error) → IsError e → IsError f → e ≡ f

HasOneAnswer-weaker : {Y : Type 0} (R R' : Y → Type 0) (F F' : Error → Type 0) → ((y : Y) → R y → R' y)
    → ((e : Error) → F e → F' e) → HasOneAnswer R' F' → HasOneAnswer R F
HasOneAnswer-weaker R R' F F' r f one = record {
  same = λ x y h k. one.same x y (r x h) (r y k);
  sound = λ x e h k. one.sound x e (r x h) (f e k);
  first = λ d e h k. one.first d e (f d h) (f e k);
}

-- a list that is decoded item by item: the list is not empty, `P` holds for its head, and `Q`, which depends on the
-- head, holds for its tail
Cons : {A : Type 0} → (A → Type 0) → (A → List A → Type 0) → List A → Type 0
Cons P Q [] = ⊥
Cons P Q (x ∷ xs) = P x × Q x xs

module _ {A : Type 0} (P : A → Type 0) (F : Error → Type 0) (Q : A → List A → Type 0) (G : A → Error → Type 0)
    (one : HasOneAnswer P F) (rest : (x : A) → HasOneAnswer (Q x) (G x)) where
  Cons-same : (xs ys : List A) → Cons P Q xs → Cons P Q ys → xs ≡ ys
  unfolding Cons
  Cons-same [] ys h k = absurd h
  Cons-same (x ∷ xs) [] h k = absurd k
  Cons-same (x ∷ xs) (y ∷ ys) h k =
      let e : x ≡ y = one.same x y h.0 k.0 in
      ap₂ ◌∷◌ e ((rest y).same xs ys (subst (λ z. Q z xs) e h.1) k.1)

  Cons-sound : (xs : List A) (e : Error) → Cons P Q xs → F e ⊎ ((x : A) × P x × G x e) → ⊥
  unfolding Cons
  Cons-sound [] e h k = absurd h
  Cons-sound (x ∷ xs) e h (inl k) = one.sound x e h.0 k
  Cons-sound (x ∷ xs) e h (inr (y, k, l)) = (rest y).sound xs e (subst (λ z. Q z xs) (one.same x y h.0 k) h.1) l

  Cons-first : (d e : Error) → F d ⊎ ((x : A) × P x × G x d) → F e ⊎ ((x : A) × P x × G x e) → d ≡ e
  Cons-first d e (inl h) (inl k) = one.first d e h k
  Cons-first d e (inl h) (inr (x, k, l)) = absurd (one.sound x d k h)
  Cons-first d e (inr (x, k, l)) (inl h) = absurd (one.sound x e k h)
  Cons-first d e (inr (x, h, k)) (inr (y, l, m)) = (rest y).first d e (subst (λ z. G z d) (one.same x y h l) k) m

  HasOneAnswer-cons : HasOneAnswer (Cons P Q) (λ e. F e ⊎ ((x : A) × P x × G x e))
  HasOneAnswer-cons = record { same = Cons-same; sound = Cons-sound; first = Cons-first }

-- Parts of a line.

Reads-some : (c : ℕ) (cs : List ℕ) (ns : List ℤ) → Reads (c ∷ cs) ns → SegmentAnswers (c ∷ cs) (Ok ns)
Reads-some c cs [] h = absurd (let e : suc (length cs) ≡ 0 = ap length h in omega arith)
Reads-some c cs (n ∷ ns) h = (h, λ e. absurd (let k : suc (length ns) ≡ 0 = ap length e in omega arith))

pub Reads-same : (c : ℕ) (cs : List ℕ) (ns ms : List ℤ) → Reads (c ∷ cs) ns → Reads (c ∷ cs) ms → ns ≡ ms
Reads-same c cs ns ms h k = let e =
    SegmentAnswers-same (c ∷ cs) (Ok ns) (Ok ms) (Reads-some c cs ns h) (Reads-some c cs ms k) in cc

pub Reads-sound : (c : ℕ) (cs : List ℕ) (ns : List ℤ) (e : Error) → Reads (c ∷ cs) ns → HasError (c ∷ cs) e → ⊥
Reads-sound c cs ns e h k = let mixed = SegmentAnswers-same (c ∷ cs) (Ok ns) (Err e) (Reads-some c cs ns h) k in cc

HasError-same : (c : ℕ) (cs : List ℕ) (d e : Error) → HasError (c ∷ cs) d → HasError (c ∷ cs) e → d ≡ e
HasError-same c cs d e h k = let same = SegmentAnswers-same (c ∷ cs) (Err d) (Err e) h k in cc

-- segments with equal index and text are equal
Segment-same : (c : ℕ) (cs : List ℕ) (s t : Segment) → s.index ≡ t.index → Reads (c ∷ cs) s.numbers
    → Reads (c ∷ cs) t.numbers → s ≡ t
Segment-same c cs s t at h k =
    let make : ℕ → List ℤ → Segment = λ p ns. record { index = p; numbers = ns } in
    ap₂ make at (Reads-same c cs s.numbers t.numbers h k)

module _ (counts : Counts) (index : ℕ) (before : List Segment) (c : ℕ) (cs : List ℕ) where
  Part-same : (s t : Segment) → PartRead counts index before (c ∷ cs) s
      → PartRead counts index before (c ∷ cs) t → s ≡ t
  Part-same s t h k = Segment-same c cs s t (h.0 ∙ sym k.0) h.1 k.1

  Part-sound : (s : Segment) (e : Error) → PartRead counts index before (c ∷ cs) s
      → PartError counts index before (c ∷ cs) e → ⊥
  Part-sound s e h (inl k) = Reads-sound c cs s.numbers e h.1 k
  Part-sound s e h (inr (t, at, reads, error)) =
      let same : s ≡ t = Segment-same c cs s t (h.0 ∙ sym at) h.1 reads in
      let none : segment_error counts (before ++ t ∷ []) t ≡ None =
      subst (λ u. segment_error counts (before ++ u ∷ []) u ≡ None) same h.2 in
      cc

  Part-first : (d e : Error) → PartError counts index before (c ∷ cs) d
      → PartError counts index before (c ∷ cs) e → d ≡ e
  Part-first d e (inl h) (inl k) = HasError-same c cs d e h k
  Part-first d e (inl h) (inr (s, at, reads, error)) = absurd (Reads-sound c cs s.numbers d reads h)
  Part-first d e (inr (s, at, reads, error)) (inl h) = absurd (Reads-sound c cs s.numbers e reads h)
  Part-first d e (inr (s, at, reads, error)) (inr (t, at', reads', error')) =
      let same : s ≡ t = Segment-same c cs s t (at ∙ sym at') reads reads' in
      let moved : segment_error counts (before ++ t ∷ []) t ≡ Some d =
      subst (λ u. segment_error counts (before ++ u ∷ []) u ≡ Some d) same error in
      cc

  Part-one : HasOneAnswer (PartRead counts index before (c ∷ cs)) (PartError counts index before (c ∷ cs))
  Part-one = record { same = Part-same; sound = Part-sound; first = Part-first }

Parts-cons : (counts : Counts) (index : ℕ) (before : List Segment) (c : ℕ) (cs : List ℕ) (parts : List (List ℕ))
    (segments : List Segment)
    → PartsRead counts index before ((c ∷ cs) ∷ parts) segments
    → Cons (PartRead counts index before (c ∷ cs))
    (λ s ss. PartsRead counts (index + 1) (before ++ s ∷ []) parts ss) segments
unfolding Cons
Parts-cons counts index before c cs parts [] h = h
Parts-cons counts index before c cs parts (s ∷ segments) h = h

Parts-one : (counts : Counts) (index : ℕ) (before : List Segment) (parts : List (List ℕ))
    → HasOneAnswer (PartsRead counts index before parts) (PartsError counts index before parts)
Parts-one counts index before [] =
    record { same = λ x y h k. h ∙ sym k; sound = λ x e h k. k; first = λ d e h k. absurd h }
Parts-one counts index before ([] ∷ parts) = Parts-one counts (index + 1) before parts
Parts-one counts index before ((c ∷ cs) ∷ parts) =
    HasOneAnswer-weaker _ _ _ _ (Parts-cons counts index before c cs parts) (λ e h. h)
    (HasOneAnswer-cons (PartRead counts index before (c ∷ cs)) (PartError counts index before (c ∷ cs))
    (λ s ss. PartsRead counts (index + 1) (before ++ s ∷ []) parts ss)
    (λ s e. PartsError counts (index + 1) (before ++ s ∷ []) parts e)
    (Part-one counts index before c cs) (λ s. Parts-one counts (index + 1) (before ++ s ∷ []) parts))

-- Lines.

module _ (counts : Counts) (n : ℕ) (before : List Segment) (c : ℕ) (cs bits : List ℕ) where
  parts_one : HasOneAnswer (PartsRead counts 0 before (parts_of (c ∷ cs)))
      (PartsError counts 0 before (parts_of (c ∷ cs)))
  parts_one = Parts-one counts 0 before (parts_of (c ∷ cs))

  Line-same : (x y : Line) → LineRead counts n before (c ∷ cs, bits) x
      → LineRead counts n before (c ∷ cs, bits) y → x ≡ y
  Line-same x y h k =
      let make : List ℕ → List Segment → Line = λ bs ss. record { bits = bs; segments = ss } in
      ap₂ make (h.2 ∙ sym k.2) (parts_one.same x.segments y.segments h.3 k.3)

  Line-sound : (x : Line) (e : Error) → LineRead counts n before (c ∷ cs, bits) x
      → LineError counts n before (c ∷ cs, bits) e → ⊥
  Line-sound x e h (inl k) = omega (arith, h.0, k.0)
  Line-sound x e h (inr (inl (small, (b, non_digit, is)))) = let none : first_non_digit bits ≡ None = h.1 in cc
  Line-sound x e h (inr (inr k)) = parts_one.sound x.segments e h.3 k.2

  Line-first : (d e : Error) → LineError counts n before (c ∷ cs, bits) d
      → LineError counts n before (c ∷ cs, bits) e → d ≡ e
  Line-first d e (inl h) (inl k) = h.1 ∙ sym k.1
  Line-first d e (inl h) (inr (inl (small, k))) = absurd (omega (arith, h.0, small))
  Line-first d e (inl h) (inr (inr k)) = absurd (omega (arith, h.0, k.0))
  Line-first d e (inr (inl (small, k))) (inl h) = absurd (omega (arith, h.0, small))
  Line-first d e (inr (inl (small, (b, non_digit, is)))) (inr (inl (small', (b', non_digit', is')))) = cc
  Line-first d e (inr (inl (small, (b, non_digit, is)))) (inr (inr (small', none, k))) = cc
  Line-first d e (inr (inr k)) (inl h) = absurd (omega (arith, h.0, k.0))
  Line-first d e (inr (inr (small', none, k))) (inr (inl (small, (b, non_digit, is)))) = cc
  Line-first d e (inr (inr h)) (inr (inr k)) = parts_one.first d e h.2 k.2

Line-one : (counts : Counts) (n : ℕ) (before : List Segment) (text : LineText)
    → HasOneAnswer (LineRead counts n before text) (LineError counts n before text)
Line-one counts n before ([], bits) =
    record { same = λ x y h k. h ∙ sym k; sound = λ x e h k. k; first = λ d e h k. absurd h }
Line-one counts n before (c ∷ cs, bits) = record {
  same = Line-same counts n before c cs bits;
  sound = Line-sound counts n before c cs bits;
  first = Line-first counts n before c cs bits;
}

Lines-cons : (counts : Counts) (n : ℕ) (before : List Segment) (text : LineText) (texts : List LineText)
    (decoded_lines : List Line)
    → LinesRead counts n before (text ∷ texts) decoded_lines → Cons (LineRead counts n before text)
    (λ line decoded_lines. LinesRead counts (n + 1) (before ++ line.segments) texts decoded_lines) decoded_lines
unfolding Cons
Lines-cons counts n before text texts [] h = h
Lines-cons counts n before text texts (line ∷ decoded_lines) h = h

Lines-one : (counts : Counts) (n : ℕ) (before : List Segment) (texts : List LineText)
    → HasOneAnswer (LinesRead counts n before texts) (LinesError counts n before texts)
Lines-one counts n before [] = record { same = λ x y h k. h ∙ sym k; sound = λ x e h k. k; first = λ d e h k. absurd h }
Lines-one counts n before (text ∷ texts) =
    HasOneAnswer-weaker _ _ _ _ (Lines-cons counts n before text texts) (λ e h. h)
    (HasOneAnswer-cons (LineRead counts n before text) (LineError counts n before text)
    (λ line decoded_lines. LinesRead counts (n + 1) (before ++ line.segments) texts decoded_lines)
    (λ line e. LinesError counts (n + 1) (before ++ line.segments) texts e)
    (Line-one counts n before text) (λ line. Lines-one counts (n + 1) (before ++ line.segments) texts))

pub MappingsAnswer-same : (mappings ranges : List ℕ) (counts : Counts) (a b : Result (List RawToken) Error)
    → MappingsAnswer mappings ranges counts a → MappingsAnswer mappings ranges counts b → a ≡ b
MappingsAnswer-same mappings ranges counts (Ok ts) (Ok us) (decoded_lines, reads, is) (decoded_lines', reads', is') =
    ap Ok (is ∙ ap (λ p. in_order (tokens_of_lines 0 [] p))
    ((Lines-one counts 0 [] (line_texts mappings ranges)).same decoded_lines decoded_lines' reads reads') ∙ sym is')
MappingsAnswer-same mappings ranges counts (Ok ts) (Err e) (decoded_lines, reads, is) h =
    absurd ((Lines-one counts 0 [] (line_texts mappings ranges)).sound decoded_lines e reads h)
MappingsAnswer-same mappings ranges counts (Err e) (Ok ts) h (decoded_lines, reads, is) =
    absurd ((Lines-one counts 0 [] (line_texts mappings ranges)).sound decoded_lines e reads h)
MappingsAnswer-same mappings ranges counts (Err d) (Err e) h k =
    ap Err ((Lines-one counts 0 [] (line_texts mappings ranges)).first d e h k)

-- Bounds.

no_source : (counts : Counts) (all : List Segment) (s : Segment) → segment_error counts all s ≡ None
    → counts.sources ≤ field 1 all s → length s.numbers ≤ 1
no_source counts all s sound past = grind (arith, nat_tests)

field-none : (k : ℕ) (all : List Segment) (s : Segment) → length s.numbers ≤ k → field k all s ≡ 4294967295
field-none k all s few = grind (arith, nat_tests)

-- the token of a valid segment has a source of the map, or neither a source nor a name
IsWithin-token : (counts : Counts) (n : ℕ) (bits : List ℕ) (here all : List Segment) (s : Segment) → counts.names
    ≤ 4294967295 → segment_error counts all s ≡ None → IsWithin counts.sources counts.names (token_of n bits here all s)
IsWithin-token counts n bits here all s small sound = λ past.
    let few : length s.numbers ≤ 1 = no_source counts all s sound past in (
      field-none 1 all s few,
      field-none 2 all s (omega arith),
      field-none 3 all s (omega arith),
      rw (field-none 4 all s (omega arith)) small,
    )

AllWithin-line : (counts : Counts) (n index : ℕ) (bits : List ℕ) (before here : List Segment) (parts : List (List ℕ))
    (segments : List Segment) → counts.names ≤ 4294967295
    → PartsRead counts index (before ++ here) parts segments
    → AllWithin counts.sources counts.names (line_tokens n bits before here segments)
AllWithin-line counts n index bits before here [] segments small h =
    subst (λ ss. AllWithin counts.sources counts.names (line_tokens n bits before here ss)) (sym h) tt
AllWithin-line counts n index bits before here ([] ∷ parts) segments small h =
    AllWithin-line counts n (index + 1) bits before here parts segments small h
AllWithin-line counts n index bits before here ((c ∷ cs) ∷ parts) [] small h = absurd h
AllWithin-line counts n index bits before here ((c ∷ cs) ∷ parts) (s ∷ segments) small h =
    let e : (before ++ here) ++ s ∷ [] ≡ before ++ (here ++ s ∷ []) = append_assoc before here (s ∷ []) in (
      IsWithin-token counts n bits (here ++ s ∷ []) (before ++ (here ++ s ∷ [])) s small
          (subst (λ all. segment_error counts all s ≡ None) e h.0.2),
      AllWithin-line counts n (index + 1) bits before (here ++ s ∷ []) parts segments small
          (subst (λ all. PartsRead counts (index + 1) all parts segments) e h.1),
    )

AllWithin-text : (counts : Counts) (n : ℕ) (before : List Segment) (text : LineText) (line : Line)
    → counts.names ≤ 4294967295
    → LineRead counts n before text line
    → AllWithin counts.sources counts.names (line_tokens n line.bits before [] line.segments)
AllWithin-text counts n before ([], bits) line small h =
    subst (λ l. AllWithin counts.sources counts.names (line_tokens n l.bits before [] l.segments)) (sym h) tt
AllWithin-text counts n before (c ∷ cs, bits) line small h =
    AllWithin-line counts n 0 line.bits before [] (parts_of (c ∷ cs)) line.segments small
    (subst (λ all. PartsRead counts 0 all (parts_of (c ∷ cs)) line.segments) (sym (append-nil before)) h.3)

pub AllWithin-lines : (counts : Counts) (n : ℕ) (before : List Segment) (texts : List LineText)
    (decoded_lines : List Line) → counts.names ≤ 4294967295
    → LinesRead counts n before texts decoded_lines
    → AllWithin counts.sources counts.names (tokens_of_lines n before decoded_lines)
AllWithin-lines counts n before [] decoded_lines small h =
    subst (λ p. AllWithin counts.sources counts.names (tokens_of_lines n before p)) (sym h) tt
AllWithin-lines counts n before (text ∷ texts) [] small h = absurd h
AllWithin-lines counts n before (text ∷ texts) (line ∷ decoded_lines) small h =
    All-append (IsWithin counts.sources counts.names) (line_tokens n line.bits before [] line.segments)
    (tokens_of_lines (n + 1) (before ++ line.segments) decoded_lines)
    (AllWithin-text counts n before text line small h.0)
    (AllWithin-lines counts (n + 1) (before ++ line.segments) texts decoded_lines small h.1)

-- From the tokens of the lines to the result.

-- let `result` be `Ok due` or an error, and let `due` equal `same`. If `result` is `Ok x`, then `x` is `same`
pub given_same : {X : Type 0} (result : Result X Error) (due same : X) → Gives (λ x. x) result (Ok due) → due ≡ same
    → IfOk result (λ x. x ≡ same)
given_same (Ok x) due same given e = cc
given_same (Err _) due same given e = tt

module _ (mappings ranges : List ℕ) (counts : Counts) (tokens : List RawToken)
    (decoded_lines : List Line) (reads : LinesRead counts 0 [] (line_texts mappings ranges) decoded_lines)
    (is : tokens ≡ tokens_of_lines 0 [] decoded_lines) where
  pub IsAnswer-sorted : {X : Type 0} (view : X → List RawToken) (result : Result X Error)
      → IfOk result (λ v. view v ≡ in_order tokens) → IfErr result (λ e. e ≡ OutOfMemory)
      → IsAnswer view (MappingsAnswer mappings ranges counts) result
  IsAnswer-sorted view (Ok v) sorted none = (decoded_lines, reads, sorted ∙ ap in_order is)
  IsAnswer-sorted view (Err e) none memory =
      subst (λ f. UnlessMemory f (LinesError counts 0 [] (line_texts mappings ranges) f)) (sym memory) tt

  pub AllWithin-sorted : counts.names ≤ 4294967295 → AllWithin counts.sources counts.names (in_order tokens)
  AllWithin-sorted small =
      AllWithin-in_order counts.sources counts.names tokens (subst (AllWithin counts.sources counts.names) (sym is)
      (AllWithin-lines counts 0 [] (line_texts mappings ranges) decoded_lines small reads))
