-- Lemmas that combine the steps of decoding.
use Rattle.std.proofs.Common.{◌≡◌, ◌≢◌, ℕ, ◌+◌, ◌^◌, ◌<◌, ◌==◌, true, false, List, [], ◌∷◌, ◌++◌, length, get_or, All}
use Rattle.std.proofs.Common.{Some, None, sym, ap, ◌∙◌, refl, subst, inl, inr, append_assoc, append-nil, length-append}
use Rattle.std.proofs.Common.{ℤ, arith, eqb-true}
use Rattle.sourcemap_errors.specs.Answer.{UnlessMemory}
use Rattle.sourcemap_errors.proofs.AnswerLemmas.{UnlessMemory-weaker}
use Rattle.std.proofs.lemmas.List.Elements.{All-from_get_or}
use Rattle.std.proofs.lemmas.Bool.Decides.{nat_tests}
use Rattle.std.proofs.lemmas.List.Splits.{slice_split_none, slice_split_at}
use Rattle.sourcemap_tokens.specs.declared.tokens.RawToken.{RawToken}
use Rattle.sourcemap_mappings.specs.declared.segment.Sums.{Sums}
use Rattle.sourcemap_mappings.specs.declared.segment.PartPosition.{PartPosition}
use Rattle.sourcemap_errors.specs.declared.errors.Error.{Error}
use Rattle.sourcemap_vlq.specs.Bits.{first_non_digit}
use Rattle.sourcemap_mappings.specs.Segment.{Counts, Segment, token_of, segment_error, semicolon, parts_of}
use Rattle.sourcemap_mappings.specs.Read.{Line, LineText, line_tokens, tokens_of_lines, PartsRead, PartsError}
use Rattle.sourcemap_mappings.specs.Read.{LinesRead, LinesError, lines_of}
use Rattle.sourcemap_mappings.specs.SegmentSteps.{AreTextSums, AreSums}
use Rattle.sourcemap_mappings.specs.ReadSteps.{AddsParts, AddsLine}
use Rattle.sourcemap_vlq.specs.Vlq.{Reads, HasError}
use Rattle.sourcemap_vlq.proofs.VlqLemmas.{IsGroup-nonempty}

-- The lines of a text.

no_semicolon : (xs : List ℕ) → ((i : ℕ) → i < length xs → get_or xs i 0 ≢ semicolon)
    → All (λ b. (b == semicolon) ≡ false) xs
no_semicolon xs h =
    All-from_get_or (λ b. (b == semicolon) ≡ false) xs 0 (λ i lt. let ne = h i lt in grind (arith, nat_tests))

pub lines_of-last : (text : List ℕ) → ((i : ℕ) → i < length text → get_or text i 0 ≢ semicolon)
    → lines_of text ≡ text ∷ []
lines_of-last text h = slice_split_none (λ b. b == semicolon) text (no_semicolon text h)

pub lines_of-first : (text line tail : List ℕ) → text ≡ line ++ semicolon ∷ tail
    → ((i : ℕ) → i < length line → get_or line i 0 ≢ semicolon) → lines_of text ≡ line ∷ lines_of tail
lines_of-first text line tail e h =
    ap lines_of e ∙ slice_split_at (λ b. b == semicolon) line semicolon tail (no_semicolon line h) refl

-- Parts of a line.

regrouped : (P : List Segment → Type 0) (before here : List Segment) (s : Segment) → P (before ++ (here ++ s ∷ []))
    → P ((before ++ here) ++ s ∷ [])
regrouped P before here s h = subst P (sym (append_assoc before here (s ∷ []))) h

pub Reads-nil : (numbers : List ℤ) → 0 < length numbers → Reads [] numbers → ⊥
Reads-nil [] some reads = omega arith
Reads-nil (n ∷ ns) some (group, rest, is, split, reads) =
    let none : 0 ≡ length group + length rest = ap length split ∙ length-append group rest in
    let digits : 0 < length group = IsGroup-nonempty group n is in
    omega arith

pub PartsError-segment : (counts : Counts) (before here : List Segment) (part : List ℕ) (s : Segment) (e : Error)
    → 0 < length s.numbers
    → Reads part s.numbers → segment_error counts (before ++ (here ++ s ∷ [])) s ≡ Some e
    → PartsError counts s.index (before ++ here) (part ∷ []) e
PartsError-segment counts before here [] s e some reads error = absurd (Reads-nil s.numbers some reads)
PartsError-segment counts before here (c ∷ cs) s e some reads error =
    inl (inr (s, refl, reads, regrouped (λ all. segment_error counts all s ≡ Some e) before here s error))

pub AddsParts-segment : (counts : Counts) (position : PartPosition) (bits : List ℕ) (before here : List Segment)
    (part : List ℕ) (numbers : List ℤ) (token : RawToken) (old new : List RawToken) (sums : Sums)
    → 0 < length numbers → Reads part numbers
    → let s : Segment = record { index = position.index; numbers = numbers } in
    segment_error counts (before ++ (here ++ s ∷ [])) s ≡ None
    → token ≡ token_of position.line bits (here ++ s ∷ []) (before ++ (here ++ s ∷ [])) s
    → new ≡ old ++ token ∷ [] → AreSums before (here ++ s ∷ []) sums
    → AddsParts counts position bits before here (part ∷ []) old new sums
AddsParts-segment counts position bits before here [] numbers token old new sums some reads sound is items after =
    absurd (Reads-nil numbers some reads)
AddsParts-segment counts position bits before here (c ∷ cs) numbers token old new sums some reads sound is items after =
    let s : Segment = record { index = position.index; numbers = numbers } in
    record {
      segments = s ∷ [];
      read = ((refl, reads, regrouped (λ all. segment_error counts all s ≡ None) before here s sound), refl);
      tokens = items ∙ ap (λ t. old ++ t ∷ []) is;
      sums_after = after;
    }

-- if `part` decodes to `ss` and the later `parts` decode to `later`, then `part ∷ parts` decodes to `ss ++ later`
PartsRead-cons : (counts : Counts) (index : ℕ) (before : List Segment) (part : List ℕ) (parts : List (List ℕ))
    (ss later : List Segment)
    → PartsRead counts index before (part ∷ []) ss → PartsRead counts (index + 1) (before ++ ss) parts later
    → PartsRead counts index before (part ∷ parts) (ss ++ later)
PartsRead-cons counts index before [] parts ss later h rest =
    let none : ss ≡ [] = h in
    subst (λ zs. PartsRead counts (index + 1) before parts (zs ++ later)) (sym none)
    (subst (λ zs. PartsRead counts (index + 1) zs parts later) (ap (λ zs. before ++ zs) none ∙ append-nil before) rest)
PartsRead-cons counts index before (c ∷ cs) parts [] later h rest = absurd h
PartsRead-cons counts index before (c ∷ cs) parts (s ∷ ss) later h rest =
    let none : ss ≡ [] = h.1 in (
      h.0,
      subst (λ zs. PartsRead counts (index + 1) (before ++ s ∷ []) parts (zs ++ later)) (sym none)
          (subst (λ zs. PartsRead counts (index + 1) (before ++ s ∷ zs) parts later) none rest),
    )

pub PartsError-here : (counts : Counts) (index : ℕ) (before : List Segment) (part : List ℕ)
    (parts : List (List ℕ)) (e : Error)
    → PartsError counts index before (part ∷ []) e → PartsError counts index before (part ∷ parts) e
PartsError-here counts index before [] parts e h = absurd h
PartsError-here counts index before (c ∷ cs) parts e (inl h) = inl h
PartsError-here counts index before (c ∷ cs) parts e (inr h) = absurd h.2

PartsError-later : (counts : Counts) (index : ℕ) (before : List Segment) (part : List ℕ) (parts : List (List ℕ))
    (ss : List Segment) (e : Error)
    → PartsRead counts index before (part ∷ []) ss → PartsError counts (index + 1) (before ++ ss) parts e
    → PartsError counts index before (part ∷ parts) e
PartsError-later counts index before [] parts ss e h rest =
    let none : ss ≡ [] = h in
    subst (λ zs. PartsError counts (index + 1) zs parts e) (ap (λ zs. before ++ zs) none ∙ append-nil before) rest
PartsError-later counts index before (c ∷ cs) parts [] e h rest = absurd h
PartsError-later counts index before (c ∷ cs) parts (s ∷ ss) e h rest =
    let none : ss ≡ [] = h.1 in
    inr (s, h.0, subst (λ zs. PartsError counts (index + 1) (before ++ s ∷ zs) parts e) none rest)

pub line_tokens-append : (n : ℕ) (bits : List ℕ) (before here xs ys : List Segment) → line_tokens n bits before here (xs
    ++ ys) ≡ line_tokens n bits before here xs ++ line_tokens n bits before (here ++ xs) ys
line_tokens-append n bits before here [] ys = ap (λ zs. line_tokens n bits before zs ys) (sym (append-nil here))
line_tokens-append n bits before here (x ∷ xs) ys =
    ap (λ ts. token_of n bits (here ++ x ∷ []) (before ++ (here ++ x ∷ [])) x ∷ ts)
    (line_tokens-append n bits before (here ++ x ∷ []) xs ys
    ∙ ap (λ zs. line_tokens n bits before (here ++ x ∷ []) xs ++ line_tokens n bits before zs ys)
    (append_assoc here (x ∷ []) xs))

-- line `n` has the parts `all` and comes after the segments `before`. The first `index` parts are decoded, the parts
-- `left` are not decoded yet
pub record PartsSoFar (counts : Counts) (n : ℕ) (bits : List ℕ) (before : List Segment) (all : List (List ℕ))
    (index : ℕ) (left : List (List ℕ)) (old new : List RawToken) (sums : Sums) : Type 0 where
  pub here : List Segment
  pub read : (later : List Segment) → PartsRead counts index (before ++ here) left later
      → PartsRead counts 0 before all (here ++ later)
  pub error : (e : Error) → PartsError counts index (before ++ here) left e → PartsError counts 0 before all e
  pub tokens : new ≡ old ++ line_tokens n bits before [] here
  pub sums_after : AreSums before here sums

pub PartsSoFar-none : (counts : Counts) (n : ℕ) (bits : List ℕ) (before : List Segment) (all : List (List ℕ))
    (old : List RawToken) (sums : Sums)
    → AreSums before [] sums → PartsSoFar counts n bits before all 0 all old old sums
PartsSoFar-none counts n bits before all old sums h = record {
  here = [];
  read = λ later r. subst (λ zs. PartsRead counts 0 zs all later) (append-nil before) r;
  error = λ e f. subst (λ zs. PartsError counts 0 zs all e) (append-nil before) f;
  tokens = sym (append-nil old);
  sums_after = h;
}

module _ (counts : Counts) (position : PartPosition) (bits : List ℕ) (before : List Segment) (all : List (List ℕ))
    (part : List ℕ) (parts : List (List ℕ)) (old middle : List RawToken) (sums : Sums) where
  -- one more part is decoded
  pub PartsSoFar-more : (new : List RawToken) (after : Sums)
      (so_far : PartsSoFar counts position.line bits before all position.index (part ∷ parts) old middle sums)
      → AddsParts counts position bits before so_far.here (part ∷ []) middle new after
      → PartsSoFar counts position.line bits before all (position.index + 1) parts old new after
  PartsSoFar-more new after so_far adds =
      let here : List Segment = so_far.here in
      let ss : List Segment = adds.segments in
      record {
        here = here ++ ss;
        read = λ later r.
            subst (λ zs. PartsRead counts 0 before all zs) (sym (append_assoc here ss later))
            (so_far.read (ss ++ later)
            (PartsRead-cons counts position.index (before ++ here) part parts ss later adds.read
            (subst (λ zs. PartsRead counts (position.index + 1) zs parts later)
            (sym (append_assoc before here ss)) r)));
        error = λ e f.
            so_far.error e
            (PartsError-later counts position.index (before ++ here) part parts ss e adds.read
            (subst (λ zs. PartsError counts (position.index + 1) zs parts e) (sym (append_assoc before here ss)) f));
        tokens =
            adds.tokens ∙ ap (λ zs. zs ++ line_tokens position.line bits before here ss) so_far.tokens
            ∙ append_assoc old (line_tokens position.line bits before [] here)
            (line_tokens position.line bits before here ss)
            ∙ ap (λ zs. old ++ zs) (sym (line_tokens-append position.line bits before [] here ss));
        sums_after = adds.sums_after;
      }

  -- the next part has an error
  pub PartsSoFar-error : (e : Error)
      (so_far : PartsSoFar counts position.line bits before all position.index (part ∷ parts) old middle sums)
      → UnlessMemory e (PartsError counts position.index (before ++ so_far.here) (part ∷ []) e)
      → UnlessMemory e (PartsError counts 0 before all e)
  PartsSoFar-error e so_far f =
      UnlessMemory-weaker e
      (λ h. so_far.error e (PartsError-here counts position.index (before ++ so_far.here) part parts e h)) f

-- the next part has an error in its digits
pub PartsSoFar-digits : (counts : Counts) (n : ℕ) (bits : List ℕ) (before : List Segment) (all : List (List ℕ))
    (index : ℕ) (part : List ℕ) (parts : List (List ℕ)) (old new : List RawToken) (sums : Sums) (e : Error)
    → PartsSoFar counts n bits before all index (part ∷ parts) old new sums → part ≢ [] → HasError part e
    → PartsError counts 0 before all e
PartsSoFar-digits counts n bits before all index [] parts old new sums e so_far some error = absurd (some refl)
PartsSoFar-digits counts n bits before all index (c ∷ cs) parts old new sums e so_far some error =
    so_far.error e (inl (inl error))

-- all parts are decoded
pub AddsParts-all : (counts : Counts) (n index : ℕ) (bits : List ℕ) (before : List Segment) (all : List (List ℕ))
    (old new : List RawToken) (sums : Sums)
    → PartsSoFar counts n bits before all index [] old new sums
    → AddsParts counts (record { line = n; index = 0 }) bits before [] all old new sums
AddsParts-all counts n index bits before all old new sums so_far = record {
  segments = so_far.here;
  read =
      subst (λ zs. PartsRead counts 0 zs all so_far.here) (sym (append-nil before))
      (subst (λ zs. PartsRead counts 0 before all zs) (append-nil so_far.here) (so_far.read [] refl));
  tokens = so_far.tokens;
  sums_after = so_far.sums_after;
}

-- Lines.

-- the first n of the lines `all` are decoded
pub record LinesSoFar (counts : Counts) (all : List LineText) (n : ℕ) (left : List LineText) (tokens : List RawToken)
    (sums : Sums) : Type 0 where
  pub before : List Segment
  pub decoded_lines : List Line
  pub read : (later : List Line) → LinesRead counts n before left later
      → LinesRead counts 0 [] all (decoded_lines ++ later)
  pub error : (e : Error) → LinesError counts n before left e → LinesError counts 0 [] all e
  pub tokens_read : (later : List Line)
      → tokens_of_lines 0 [] (decoded_lines ++ later) ≡ tokens ++ tokens_of_lines n before later
  pub sums_after : AreTextSums before sums

module _ (counts : Counts) (all : List LineText) (n : ℕ) (text : LineText) (left : List LineText)
    (old new : List RawToken) (sums after : Sums) where
  -- one more line is decoded
  pub LinesSoFar-more : (so_far : LinesSoFar counts all n (text ∷ left) old sums)
      → AddsLine counts n so_far.before text old new after
      → LinesSoFar counts all (n + 1) left new after
  LinesSoFar-more so_far adds =
      let line : Line = adds.line in
      let decoded_lines : List Line = so_far.decoded_lines in
      let before : List Segment = so_far.before in
      let ts : List RawToken = line_tokens n line.bits before [] line.segments in
      record {
        before = before ++ line.segments;
        decoded_lines = decoded_lines ++ line ∷ [];
        read = λ later r.
            subst (λ zs. LinesRead counts 0 [] all zs) (sym (append_assoc decoded_lines (line ∷ []) later))
            (so_far.read (line ∷ later) (adds.read, r));
        error = λ e f. so_far.error e (inr (line, adds.read, f));
        tokens_read = λ later.
            ap (tokens_of_lines 0 []) (append_assoc decoded_lines (line ∷ []) later) ∙ so_far.tokens_read (line ∷ later)
            ∙ sym (append_assoc old ts (tokens_of_lines (n + 1) (before ++ line.segments) later))
            ∙ ap (λ zs. zs ++ tokens_of_lines (n + 1) (before ++ line.segments) later) (sym adds.tokens);
        sums_after = adds.sums_after;
      }

-- at the start, no line is decoded, there are no tokens, and all sums are 0
pub LinesSoFar-none : (counts : Counts) (all : List LineText) → LinesSoFar counts all 0 all []
    (record { rises = true; column = 0; source = 0; line = 0; source_column = 0; name = 0 })
LinesSoFar-none counts all = record {
  before = [];
  decoded_lines = [];
  read = λ later r. r;
  error = λ e f. f;
  tokens_read = λ later. refl;
  sums_after = record { source = refl; line = refl; source_column = refl; name = refl };
}

-- all lines are decoded
pub LinesSoFar-all : (counts : Counts) (all : List LineText) (n : ℕ) (tokens : List RawToken) (sums : Sums)
    → LinesSoFar counts all n [] tokens sums
    → (decoded_lines : List Line) × LinesRead counts 0 [] all decoded_lines
    × (tokens ≡ tokens_of_lines 0 [] decoded_lines)
LinesSoFar-all counts all n tokens sums so_far = (
  so_far.decoded_lines,
  subst (λ zs. LinesRead counts 0 [] all zs) (append-nil so_far.decoded_lines) (so_far.read [] refl),
  sym (append-nil tokens) ∙ sym (so_far.tokens_read []) ∙ ap (tokens_of_lines 0 []) (append-nil so_far.decoded_lines),
)

-- an empty line is decoded: the tokens and the sums stay the same
pub AddsLine-none : (counts : Counts) (n : ℕ) (before : List Segment)
    (text bits : List ℕ) (old : List RawToken) (sums : Sums) → (length text == 0) ≡ true → AreTextSums before sums
    → AddsLine counts n before (text, bits) old old sums
AddsLine-none counts n before [] bits old sums is h = record {
  line = record { bits = []; segments = [] };
  read = refl;
  tokens = sym (append-nil old);
  sums_after = subst (λ zs. AreTextSums zs sums) (sym (append-nil before)) h;
}
AddsLine-none counts n before (c ∷ cs) bits old sums is h =
    let none : length (c ∷ cs) ≡ 0 = eqb-true _ _ is in
    absurd (omega arith)

-- a line that is not empty is decoded if its parts are decoded, `bits` has only digits, and `n` is below 2^32
pub AddsLine-parts : (counts : Counts) (n : ℕ) (before : List Segment) (text bits : List ℕ) (old new : List RawToken)
    (sums : Sums) → (length text == 0) ≡ false
    → n < 2 ^ 32 → first_non_digit bits ≡ None
    → AddsParts counts (record { line = n; index = 0 }) bits before [] (parts_of text) old new sums
    → AddsLine counts n before (text, bits) old new sums
AddsLine-parts counts n before [] bits old new sums ne small digits adds = absurd cc
AddsLine-parts counts n before (c ∷ cs) bits old new sums ne small digits adds = record {
  line = record { bits = bits; segments = adds.segments };
  read = (
    small,
    digits,
    refl,
    subst (λ zs. PartsRead counts 0 zs (parts_of (c ∷ cs)) adds.segments) (append-nil before) adds.read,
  );
  tokens = adds.tokens;
  sums_after = adds.sums_after.text;
}
