-- Sections that do not overlap are sorted by offset. If the first section is after a position, all offsets and tokens
-- of the sections are after this position.
use Rattle.std.proofs.Common.{◌≡◌, refl, sym, ap, subst, ℕ, List, [], ◌∷◌, map, false, Option}
use Rattle.std.specs.List.{AllByRecursion}
use Rattle.std.specs.Ordering.{is_lt}
use Rattle.sourcemap_tokens.proofs.AllLemmas.{All-append, All-map, All-of, All-unmapped, All-weaker}
use Rattle.sourcemap_tokens.proofs.SortLemmas.{Rises}
use Rattle.sourcemap_tokens.specs.Tokens.{position_cmp}
use Rattle.sourcemap_map_regular.specs.Map.{Meaning, TokenValue}
use Rattle.sourcemap_index_model.specs.FlatList.{absolute_position, absolute_entry, flat_list, flat_lists, spans, IsBefore, AreApart, IsOrderly}
use Rattle.sourcemap_index_model.specs.MapTree.{MapTree, MapSections, no_sections, hollow, filled, offset_of, section_offset, section_list}
use Rattle.sourcemap_index_model.specs.Meaning.{lookups}
use Rattle.sourcemap_index_model.specs.WellFormed.{IsInOrder, AreSectionsInOrder}
use Rattle.sourcemap_index_model.proofs.MapTreeLemmas.{each_level-weaker}
use Rattle.sourcemap_index_model.proofs.PositionLemmas.{before_before, before_absolute, not_after}
use Rattle.sourcemap_index_model.proofs.SortLemmas.{sorted-from_keys}

-- an offset, and the positions of the tokens of its section
abbrev pub Span : Type 0
Span = (ℕ × ℕ) × List (ℕ × ℕ)

-- these sections do not overlap, and the first of them is after the position
abbrev pub Follow : List Span → ℕ × ℕ → Type 0
Follow later p = AreApart ((p, []) ∷ later)

pub follow_offset : (span : Span) (later : List Span) → AreApart (span ∷ later) → Follow later span.0
follow_offset span [] h = tt
follow_offset span (next ∷ later) h = (h.0, tt, h.2)

pub follow_own : (span : Span) (later : List Span) → AreApart (span ∷ later) → AllByRecursion (Follow later) span.1
follow_own span [] h = All-of (Follow []) (λ q. tt) span.1
follow_own span (next ∷ later) h =
    All-weaker (λ q. IsBefore q next.0) (Follow (next ∷ later)) (λ q before. (before, tt, h.2)) span.1 h.1

pub apart_later : (span : Span) (later : List Span) → AreApart (span ∷ later) → AreApart later
apart_later span [] h = tt
apart_later span (next ∷ later) h = h.2

-- Offsets.

abbrev pub offsets : List Span → List (ℕ × ℕ)
offsets later = map (λ (span : Span). span.0) later

offsets_follow : (p : ℕ × ℕ) (later : List Span) → Follow later p → AllByRecursion (IsBefore p) (offsets later)
offsets_follow p [] h = tt
offsets_follow p (next ∷ later) h = (
  h.0,
  All-weaker (IsBefore next.0) (IsBefore p) (λ q after. before_before p next.0 q h.0 after) (offsets later)
      (offsets_follow next.0 later (follow_offset next later h.2)),
)

abbrev pub SectionLookup : Type 0
SectionLookup = (ℕ × ℕ) × (ℕ × ℕ → Option TokenValue)

lookups_offsets : (ss : MapSections) → map (λ (s : SectionLookup). s.0) (lookups ss) ≡ offsets (spans ss)
lookups_offsets no_sections = refl
lookups_offsets (hollow head rest) = ap (λ os. offset_of head ∷ os) (lookups_offsets rest)
lookups_offsets (filled head t rest) = ap (λ os. offset_of head ∷ os) (lookups_offsets rest)

pub lookups_follow : (p : ℕ × ℕ) (ss : MapSections) → Follow (spans ss) p
    → AllByRecursion (λ (s : SectionLookup). IsBefore p s.0) (lookups ss)
lookups_follow p ss h =
    All-unmapped (IsBefore p) (λ (s : SectionLookup). s.0) (lookups ss)
    (subst (AllByRecursion (IsBefore p)) (sym (lookups_offsets ss)) (offsets_follow p (spans ss) h))

sections_offsets : (ss : MapSections) → map section_offset (section_list ss) ≡ offsets (spans ss)
sections_offsets no_sections = refl
sections_offsets (hollow head rest) = ap (λ os. offset_of head ∷ os) (sections_offsets rest)
sections_offsets (filled head t rest) = ap (λ os. offset_of head ∷ os) (sections_offsets rest)

offsets_rise : (later : List Span) → AreApart later → Rises (λ p q. is_lt (position_cmp p q)) (offsets later)
offsets_rise [] h = tt
offsets_rise (span ∷ later) h = (
  All-weaker (IsBefore span.0) (λ q. is_lt (position_cmp q span.0) ≡ false) (not_after span.0) (offsets later)
      (offsets_follow span.0 later (follow_offset span later h)),
  offsets_rise later (apart_later span later h),
)

apart_in_order : (ss : MapSections) → AreApart (spans ss) → AreSectionsInOrder ss
apart_in_order ss h =
    sorted-from_keys section_offset position_cmp (section_list ss)
    (subst (Rises (λ p q. is_lt (position_cmp p q))) (sym (sections_offsets ss)) (offsets_rise (spans ss) h))

pub orderly_in_order : (t : MapTree) → IsOrderly t → IsInOrder t
orderly_in_order t h = each_level-weaker (λ m h. tt) apart_in_order t h

-- Tokens.

-- a position, and the meaning of a token there
abbrev pub Entry : Type 0
Entry = (ℕ × ℕ) × Meaning

entries_after : (p o : ℕ × ℕ) → IsBefore p o → (es : List Entry) → AllByRecursion (λ (e : Entry). IsBefore o e.0) es
    → AllByRecursion (λ (e : Entry). IsBefore p e.0) es
entries_after p o before es all = All-weaker (λ (e : Entry). IsBefore o e.0) (λ (e : Entry). IsBefore p e.0)
    (λ e after. before_before p o e.0 before after) es all

pub entries_follow : (p : ℕ × ℕ) (ss : MapSections) → Follow (spans ss) p
    → AllByRecursion (λ (e : Entry). IsBefore p e.0) (flat_lists ss)
entries_follow p no_sections h = tt
entries_follow p (hollow head rest) h =
    entries_after p (offset_of head) h.0 (flat_lists rest) (entries_follow (offset_of head) rest h.2)
entries_follow p (filled head t rest) h =
    All-append (λ (e : Entry). IsBefore p e.0) (map (absolute_entry (offset_of head)) (flat_list t)) (flat_lists rest)
    (All-map (λ (e : Entry). IsBefore p e.0) (absolute_entry (offset_of head)) (flat_list t)
    (All-of (λ (e : Entry). IsBefore p (absolute_position (offset_of head) e.0))
    (λ e. before_absolute p (offset_of head) e.0 h.0) (flat_list t)))
    (entries_after p (offset_of head) h.0 (flat_lists rest)
    (entries_follow (offset_of head) rest (follow_offset _ (spans rest) h.2)))
