-- The steps of the decoder of offsets, put together.
use Rattle.std.proofs.Common.{◌≡◌, ℕ, suc, ◌<◌, List, [], ◌∷◌, ◌++◌, length, Any, sym, ap, ◌∙◌, refl, subst}
use Rattle.std.proofs.Common.{append_assoc, append-nil, ℤ, arith}
use Rattle.sourcemap_vlq.specs.Vlq.{Reads}
use Rattle.sourcemap_mappings.specs.Segment.{Segment, parts_of}
use Rattle.sourcemap_mappings.proofs.ReadLemmas.{Reads-nil}
use Rattle.sourcemap_hermes_scopes.specs.declared.offsets.HermesScopeOffset.{HermesScopeOffset}
use Rattle.sourcemap_hermes_scopes.specs.Offsets.{segment_offset, line_offsets, offsets_of_lines, SegmentsRead}
use Rattle.sourcemap_hermes_scopes.specs.Offsets.{ScopeLinesRead}
use Rattle.sourcemap_hermes_scopes.specs.OffsetsSteps.{IsLastOffset, AddsOffsets}

-- If `x` or an item of `xs` has a property, an item of `x ∷ xs` has the property.

pub Any-here : {A : Type 0} (P : A → Type 0) (x : A) (xs : List A) → P x → Any P (x ∷ xs)
Any-here P x xs p = (0, x, (omega arith), refl, p)

pub Any-later : {A : Type 0} (P : A → Type 0) (x : A) (xs : List A) → Any P xs → Any P (x ∷ xs)
Any-later P x xs (k, y, within, at, p) = (suc k, y, (omega arith), at, p)

-- Parts of a line.

one_part : (part : List ℕ) (numbers : List ℤ) → 0 < length numbers → Reads part numbers
    → SegmentsRead (part ∷ []) ((record { index = 0; numbers = numbers }) ∷ [])
one_part [] numbers some reads = absurd (Reads-nil numbers some reads)
one_part (c ∷ cs) numbers some reads = (refl, reads, refl)

pub AddsOffsets-segment : (before here : List Segment) (part : List ℕ) (numbers : List ℤ)
    (old new : List HermesScopeOffset) (next : HermesScopeOffset)
    → 0 < length numbers → Reads part numbers
    → IsLastOffset before (here ++ (record { index = 0; numbers = numbers }) ∷ []) next → new ≡ old ++ next ∷ []
    → AddsOffsets before here (part ∷ []) old new next
AddsOffsets-segment before here part numbers old new next some reads is items = record {
  segments = (record { index = 0; numbers = numbers }) ∷ [];
  read = one_part part numbers some reads;
  offsets = items ∙ ap (λ o. old ++ o ∷ []) is;
  is_last = is;
}

-- let `part` read as no numbers, so that `part` is empty. Then `part` appends no offset, and `IsLastOffset` still holds
-- for `last`
pub AddsOffsets-none : (before here : List Segment) (part : List ℕ) (numbers : List ℤ) (old : List HermesScopeOffset)
    (last : HermesScopeOffset)
    → length numbers ≡ 0 → Reads part numbers → IsLastOffset before here last
    → AddsOffsets before here (part ∷ []) old old last
AddsOffsets-none before here [] numbers old last none reads is = record {
  segments = [];
  read = refl;
  offsets = sym (append-nil old);
  is_last = subst (λ ss. IsLastOffset before ss last) (sym (append-nil here)) is;
}
AddsOffsets-none before here (c ∷ cs) [] old last none reads is = absurd (let e : c ∷ cs ≡ [] = reads in cc)
AddsOffsets-none before here (c ∷ cs) (n ∷ ns) old last none reads is = absurd (omega arith)

SegmentsRead-cons : (part : List ℕ) (parts : List (List ℕ)) (ss later : List Segment)
    → SegmentsRead (part ∷ []) ss → SegmentsRead parts later → SegmentsRead (part ∷ parts) (ss ++ later)
SegmentsRead-cons [] parts ss later h rest = let none : ss ≡ [] = h in
    subst (λ zs. SegmentsRead parts (zs ++ later)) (sym none) rest
SegmentsRead-cons (c ∷ cs) parts [] later h rest = absurd h
SegmentsRead-cons (c ∷ cs) parts (s ∷ ss) later h rest =
    let none : ss ≡ [] = h.2 in
    (h.0, h.1, subst (λ zs. SegmentsRead parts (zs ++ later)) (sym none) rest)

line_offsets-append : (before here xs ys : List Segment)
    → line_offsets before here (xs ++ ys) ≡ line_offsets before here xs ++ line_offsets before (here ++ xs) ys
line_offsets-append before here [] ys = ap (λ zs. line_offsets before zs ys) (sym (append-nil here))
line_offsets-append before here (x ∷ xs) ys =
    ap (λ os. segment_offset (here ++ x ∷ []) (before ++ (here ++ x ∷ [])) ∷ os)
    (line_offsets-append before (here ++ x ∷ []) xs ys
    ∙ ap (λ zs. line_offsets before (here ++ x ∷ []) xs ++ line_offsets before zs ys) (append_assoc here (x ∷ []) xs))

-- what holds while a line is decoded. `all` are the parts of the line, and `left` are its parts that are not decoded
-- yet. `before` are the segments of earlier lines, and `here` are the segments of this line so far
pub record PartsSoFar (before : List Segment) (all left : List (List ℕ)) (old new : List HermesScopeOffset)
    (last : HermesScopeOffset) : Type 0 where
  pub here : List Segment
  pub read : (later : List Segment) → SegmentsRead left later → SegmentsRead all (here ++ later)
  pub offsets : new ≡ old ++ line_offsets before [] here
  pub is_last : IsLastOffset before here last

pub PartsSoFar-none : (before : List Segment) (all : List (List ℕ)) (old : List HermesScopeOffset)
    (last : HermesScopeOffset)
    → IsLastOffset before [] last → PartsSoFar before all all old old last
PartsSoFar-none before all old last is = record {
  here = [];
  read = λ later r. r;
  offsets = sym (append-nil old);
  is_last = is;
}

-- let `PartsSoFar` hold with the parts `part ∷ parts` left to decode, and let `part` append its offsets
-- (`AddsOffsets`). Then `PartsSoFar` holds with the parts `parts` left to decode
pub PartsSoFar-more : (before : List Segment) (all : List (List ℕ)) (part : List ℕ) (parts : List (List ℕ))
    (old middle new : List HermesScopeOffset) (last next : HermesScopeOffset)
    → (so_far : PartsSoFar before all (part ∷ parts) old middle last)
    → AddsOffsets before so_far.here (part ∷ []) middle new next
    → PartsSoFar before all parts old new next
PartsSoFar-more before all part parts old middle new last next so_far adds =
    let here : List Segment = so_far.here in
    let ss : List Segment = adds.segments in
    record {
      here = here ++ ss;
      read = λ later r.
          subst (λ zs. SegmentsRead all zs) (sym (append_assoc here ss later))
          (so_far.read (ss ++ later) (SegmentsRead-cons part parts ss later adds.read r));
      offsets =
          adds.offsets ∙ ap (λ zs. zs ++ line_offsets before here ss) so_far.offsets
          ∙ append_assoc old (line_offsets before [] here) (line_offsets before here ss)
          ∙ ap (λ zs. old ++ zs) (sym (line_offsets-append before [] here ss));
      is_last = adds.is_last;
    }

-- if no part of the line is left to decode, `AddsOffsets` holds for all parts of the line
pub AddsOffsets-all : (before : List Segment) (all : List (List ℕ)) (old new : List HermesScopeOffset)
    (last : HermesScopeOffset)
    → PartsSoFar before all [] old new last → AddsOffsets before [] all old new last
AddsOffsets-all before all old new last so_far = record {
  segments = so_far.here;
  read = subst (λ zs. SegmentsRead all zs) (append-nil so_far.here) (so_far.read [] refl);
  offsets = so_far.offsets;
  is_last = so_far.is_last;
}

-- Lines.

-- what holds while lines are decoded. `all` are all lines, and `left` are the lines that are not decoded yet. `before`
-- are the segments of the decoded lines, and `offsets` are the offsets of these segments
pub record LinesSoFar (all left : List (List ℕ)) (offsets : List HermesScopeOffset)
    (last : HermesScopeOffset) : Type 0 where
  pub before : List Segment
  pub decoded_lines : List (List Segment)
  pub read : (later : List (List Segment)) → ScopeLinesRead left later → ScopeLinesRead all (decoded_lines ++ later)
  pub offsets_read : (later : List (List Segment))
      → offsets_of_lines [] (decoded_lines ++ later) ≡ offsets ++ offsets_of_lines before later
  pub is_last : IsLastOffset before [] (record last { column = 0 })

pub LinesSoFar-none : (all : List (List ℕ)) → LinesSoFar all all [] (record { line = 1; column = 0; name_index = 0 })
LinesSoFar-none all = record {
  before = [];
  decoded_lines = [];
  read = λ later r. r;
  offsets_read = λ later. refl;
  is_last = refl;
}

turned : (before here : List Segment) (last : HermesScopeOffset) → IsLastOffset before here last
    → IsLastOffset (before ++ here) [] (record last { column = 0 })
turned before here last is =
    ap (λ (o : HermesScopeOffset). record o { column = 0 }) is
    ∙ ap (λ all. segment_offset [] all) (sym (append-nil (before ++ here)))

-- let `LinesSoFar` hold with the lines `line ∷ left` left to decode, and let the parts of `line` append their offsets
-- (`AddsOffsets`). Then `LinesSoFar` holds with the lines `left` left to decode
pub LinesSoFar-more : (all : List (List ℕ)) (line : List ℕ) (left : List (List ℕ)) (old new : List HermesScopeOffset)
    (last next : HermesScopeOffset)
    → (so_far : LinesSoFar all (line ∷ left) old last) → AddsOffsets so_far.before [] (parts_of line) old new next
    → LinesSoFar all left new next
LinesSoFar-more all line left old new last next so_far adds =
    let before : List Segment = so_far.before in
    let decoded_lines : List (List Segment) = so_far.decoded_lines in
    let ss : List Segment = adds.segments in
    let os : List HermesScopeOffset = line_offsets before [] ss in
    record {
      before = before ++ ss;
      decoded_lines = decoded_lines ++ ss ∷ [];
      read = λ later r.
          subst (λ zs. ScopeLinesRead all zs) (sym (append_assoc decoded_lines (ss ∷ []) later))
          (so_far.read (ss ∷ later) (adds.read, r));
      offsets_read = λ later.
          ap (offsets_of_lines []) (append_assoc decoded_lines (ss ∷ []) later) ∙ so_far.offsets_read (ss ∷ later)
          ∙ sym (append_assoc old os (offsets_of_lines (before ++ ss) later))
          ∙ ap (λ zs. zs ++ offsets_of_lines (before ++ ss) later) (sym adds.offsets);
      is_last = turned before ss next adds.is_last;
    }

-- if no line is left to decode, all lines decode to `decoded_lines`, and `offsets` are the offsets of `decoded_lines`
pub StandsFor-all : (all : List (List ℕ)) (offsets : List HermesScopeOffset) (last : HermesScopeOffset)
    → LinesSoFar all [] offsets last
    → (decoded_lines : List (List Segment)) × ScopeLinesRead all decoded_lines
    × (offsets ≡ offsets_of_lines [] decoded_lines)
StandsFor-all all offsets last so_far = (
  so_far.decoded_lines,
  subst (λ zs. ScopeLinesRead all zs) (append-nil so_far.decoded_lines) (so_far.read [] refl),
  sym (append-nil offsets) ∙ sym (so_far.offsets_read []) ∙ ap (offsets_of_lines []) (append-nil so_far.decoded_lines),
)
