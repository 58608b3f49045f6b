-- Lookups in a list that has the position and the meaning of each token. Let a map be orderly (`IsOrderly`), and let
-- its tokens be sorted (`HasTokensInOrder`). If a position has a meaning in the map, the position has the same meaning
-- in the map's flat list, sorted stably by position.
use Rattle.std.proofs.Common.{◌≡◌, refl, sym, ap, ◌∙◌, ℕ, ◌-◌, ◌==◌, if◌then◌else◌, List, [], ◌∷◌, ◌++◌, map, find, Bool, true, false, ◌&&◌, Option, Some, None, option_map, option_and_then, arith, inl, inr, ◌⊎◌}
use Rattle.std.proofs.lemmas.Bool.{cases_Bool}
use Rattle.std.specs.List.{AllByRecursion}
use Rattle.std.specs.Option.{option_or}
use Rattle.std.specs.Ordering.{is_lt, is_eq}
use Rattle.sourcemap_tokens.proofs.AllLemmas.{All-weaker}
use Rattle.sourcemap_tokens.proofs.SearchLemmas.{closest_item-change}
use Rattle.sourcemap_tokens.proofs.SortLemmas.{All-sorted_by}
use Rattle.sourcemap_tokens.proofs.TokensLemmas.{position_cmp_total, in_order-ordered}
use Rattle.sourcemap_tokens.specs.declared.tokens.RawToken.{RawToken}
use Rattle.sourcemap_tokens.specs.Search.{closest_item, find_last}
use Rattle.sourcemap_tokens.specs.Tokens.{destination, position_cmp, AreInOrder, sorted_by}
use Rattle.sourcemap_records.specs.Jsontypes.{SectionHead}
use Rattle.sourcemap_map_regular.proofs.MapLemmas.{of_item, meaning-item}
use Rattle.sourcemap_map_regular.specs.Map.{MapValue, Meaning, meaning_of, distance, column_after, meaning as meaning_regular}
use Rattle.sourcemap_map_regular.specs.Rewrite.{token_meanings}
use Rattle.sourcemap_map_regular.specs.Token.{says}
use Rattle.sourcemap_index_model.specs.FlatList.{absolute_position, absolute_entry, flat_list, flat_lists, spans, IsBefore, AreApart, IsOrderly}
use Rattle.sourcemap_index_model.specs.MapTree.{held, MapTree, leaf, index, MapSections, no_sections, hollow, filled, offset_of, InEachSection}
use Rattle.sourcemap_index_model.specs.Meaning.{relative_position, lookup, lookups, meaning}
use Rattle.sourcemap_index_model.specs.WellFormed.{HasTokensInOrder}
use Rattle.sourcemap_index_model.proofs.ClosestLemmas.{closest_of_later, closest_before}
use Rattle.sourcemap_index_model.proofs.ApartLemmas.{Entry, SectionLookup, Follow, follow_own, apart_later, lookups_follow, entries_follow}
use Rattle.sourcemap_index_model.proofs.PositionLemmas.{not_after, before_reached, reached_here, reached_or, absolute_lt, absolute_eq, absolute_relative, distance_from_section}
use Rattle.sourcemap_index_model.proofs.SortLemmas.{sorted_by-append, sorted_by-change}

abbrev pub entry_position : Entry → ℕ × ℕ
entry_position entry = entry.0

abbrev pub by_position : List Entry → List Entry
by_position entries = sorted_by entry_position position_cmp entries

-- the meaning of the position `p`, if `entry` is the closest entry to `p`
abbrev pub meaning_at : ℕ × ℕ → Entry → Meaning
meaning_at p entry = record entry.1 {
  column = column_after entry.1.column (if entry.1.is_range && (entry.0.0 == p.0) then p.1 - entry.0.1 else 0);
}

abbrev pub answer_in : List Entry → ℕ × ℕ → Option Meaning
answer_in entries p = option_map (meaning_at p) (closest_item entry_position position_cmp entries p)

-- A position has the same meaning in a regular map as in the list `token_meanings` of the map.

abbrev say : MapValue → RawToken → Entry
say m t = (destination t, meaning_of m t 0)

column_later : (column distance : ℕ) → column_after (column_after column 0) distance ≡ column_after column distance
column_later column distance = omega arith

pub meaning_in : (m : MapValue) (p : ℕ × ℕ) → meaning_regular m p ≡ answer_in (token_meanings m) p
unfolding of_item
meaning_in m p =
    meaning-item m p
    ∙ through (closest_item destination position_cmp m.tokens p)
    ∙ ap (option_map (meaning_at p))
    (sym (closest_item-change destination entry_position position_cmp (say m) (λ t. refl) m.tokens p))
  where
    through : (o : Option RawToken)
        → option_map (λ t. meaning_of m t (distance t p)) o ≡ option_map (meaning_at p) (option_map (say m) o)
    through None = refl
    through (Some t) = sym (λ i. Some (record (meaning_of m t 0) { column = column_later t.src_col (distance t p) i }))

-- the meanings of sorted tokens are sorted
pub meanings_sorted : (m : MapValue) → AreInOrder m.tokens → by_position (token_meanings m) ≡ token_meanings m
meanings_sorted m ordered =
    sorted_by-change destination position_cmp entry_position position_cmp (say m) (λ s t. refl) m.tokens
    ∙ ap (map (say m)) (in_order-ordered m.tokens ordered)

-- Entries of a section, moved to their positions in the index map.

pub by_position-absolute_position : (o : ℕ × ℕ) (entries : List Entry)
    → by_position (map (absolute_entry o) entries) ≡ map (absolute_entry o) (by_position entries)
by_position-absolute_position o entries = sorted_by-change entry_position position_cmp entry_position position_cmp
    (absolute_entry o) (λ a b. absolute_lt o a.0 b.0) entries

module _ (o p : ℕ × ℕ) (reached : is_lt (position_cmp p o) ≡ false) where
  eq_relative : (q : ℕ × ℕ)
      → is_eq (position_cmp (absolute_position o q) p) ≡ is_eq (position_cmp q (relative_position o p))
  eq_relative q = ap (λ r. is_eq (position_cmp (absolute_position o q) r)) (sym (absolute_relative o p reached))
      ∙ absolute_eq o q (relative_position o p)

  lt_relative : (q : ℕ × ℕ)
      → is_lt (position_cmp (absolute_position o q) p) ≡ is_lt (position_cmp q (relative_position o p))
  lt_relative q = ap (λ r. is_lt (position_cmp (absolute_position o q) r)) (sym (absolute_relative o p reached))
      ∙ absolute_lt o q (relative_position o p)

  distance_relative : (is_range : Bool) (q : ℕ × ℕ)
      → (if is_range && ((absolute_position o q).0 == p.0) then p.1 - (absolute_position o q).1 else 0)
      ≡ (if is_range && (q.0 == (relative_position o p).0) then (relative_position o p).1 - q.1 else 0)
  distance_relative true q = distance_from_section o p q reached
  distance_relative false q = refl

  meaning_at-absolute_position : (e : Entry) → meaning_at p (absolute_entry o e) ≡ meaning_at (relative_position o p) e
  meaning_at-absolute_position e =
      λ i. record e.1 { column = column_after e.1.column (distance_relative e.1.is_range e.0 i) }

  pub answer_in-absolute_position : (entries : List Entry)
      → answer_in (map (absolute_entry o) entries) p ≡ answer_in entries (relative_position o p)
  answer_in-absolute_position entries =
      ap (option_map (meaning_at p)) (closest_item-change (λ (e : Entry). absolute_position o e.0) entry_position
      position_cmp (absolute_entry o) (λ e. refl) entries p)
      ∙ (λ i. option_map (meaning_at p) (option_map (absolute_entry o)
      (option_or (find (λ (e : Entry). eq_relative e.0 i) entries)
      (find_last (λ (e : Entry). lt_relative e.0 i) entries))))
      ∙ through (closest_item entry_position position_cmp entries (relative_position o p))
    where
      through : (c : Option Entry) → option_map (meaning_at p) (option_map (absolute_entry o) c)
          ≡ option_map (meaning_at (relative_position o p)) c
      through None = refl
      through (Some e) = ap Some (meaning_at-absolute_position e)

-- The closest section.

abbrev closest_section : List SectionLookup → ℕ × ℕ → Option SectionLookup
closest_section sections p = closest_item (λ (s : SectionLookup). s.0) position_cmp sections p

abbrev answer_of : ℕ × ℕ → Option SectionLookup → Option Meaning
answer_of p s = option_map says (option_and_then (λ section. section.1 (relative_position section.0 p)) s)

-- `p` is after the offset `o` of a section and after the tokens `own` of this section. The search for `p` in the later
-- sections `ss` finds a section
record IsReached (o : ℕ × ℕ) (own : List (ℕ × ℕ)) (ss : MapSections) (p : ℕ × ℕ) : Type 0 where
  offset : IsBefore o p
  all : AllByRecursion (λ q. IsBefore q p) own
  closest : (s : SectionLookup) × (closest_section (lookups ss) p ≡ Some s)

some_or : (a b : Option SectionLookup) (s : SectionLookup)
    → (c : SectionLookup) × (option_or a (option_or b (Some s)) ≡ Some c)
some_or None None s = (s, refl)
some_or None (Some c) s = (c, refl)
some_or (Some c) b s = (c, refl)

some_closest : (s : SectionLookup) (ss : List SectionLookup) (p : ℕ × ℕ) → is_lt (position_cmp p s.0) ≡ false
    → (c : SectionLookup) × (closest_section (s ∷ ss) p ≡ Some c)
some_closest s ss p reached =
    elim (cases_Bool (is_eq (position_cmp s.0 p))) [
      | inl here ↦ (s, rw here refl)
      | inr apart ↦
          let before : is_lt (position_cmp s.0 p) ≡ true = reached_or p s.0 reached apart in
          rw (apart, before) (some_or (find (λ (s : SectionLookup). is_eq (position_cmp s.0 p)) ss)
          (find_last (λ (s : SectionLookup). is_lt (position_cmp s.0 p)) ss) s)
    ]

reach : (o : ℕ × ℕ) (own : List (ℕ × ℕ)) (next p : ℕ × ℕ) (sought : SectionLookup) (ss : MapSections)
    → (later : List SectionLookup) → lookups ss ≡ sought ∷ later → sought.0 ≡ next
    → IsBefore o next → AllByRecursion (λ q. IsBefore q next) own → is_lt (position_cmp p next) ≡ false
    → IsReached o own ss p
reach o own next p sought ss later are at before all reached =
    let found = some_closest sought later p (rw at reached) in
    record {
      offset = before_reached o next p before reached;
      all = All-weaker (λ q. IsBefore q next) (λ q. IsBefore q p) (λ q h. before_reached q next p h reached) own all;
      closest = (found.0, ap (λ sections. closest_section sections p) are ∙ found.1);
    }

follow_or_reach : (o : ℕ × ℕ) (own : List (ℕ × ℕ)) (ss : MapSections) (p : ℕ × ℕ) → AreApart ((o, own) ∷ spans ss)
    → Follow (spans ss) p ⊎ IsReached o own ss p
follow_or_reach o own no_sections p h = inl tt
follow_or_reach o own (hollow head rest) p h =
    elim (cases_Bool (is_lt (position_cmp p (offset_of head)))) [
      | inl before ↦ inl (before, tt, h.2)
      | inr reached ↦ inr (reach o own (offset_of head) p _ (hollow head rest) (lookups rest) refl refl h.0 h.1 reached)
    ]
follow_or_reach o own (filled head t rest) p h =
    elim (cases_Bool (is_lt (position_cmp p (offset_of head)))) [
      | inl before ↦ inl (before, tt, h.2)
      | inr reached ↦ inr
          (reach o own (offset_of head) p _ (filled head t rest) (lookups rest) refl refl h.0 h.1 reached)
    ]

-- if a search in the section `s` alone gives `p` the meaning `m`, then `p` is not before the offset of `s`, and the map
-- of `s` has the meaning `m` for `p` relative to this offset
alone : (s : SectionLookup) (p : ℕ × ℕ) (m : Meaning) → answer_of p (closest_section (s ∷ []) p) ≡ Some m
    → (is_lt (position_cmp p s.0) ≡ false) × (option_map says (s.1 (relative_position s.0 p)) ≡ Some m)
alone s p m e =
    elim (cases_Bool (is_eq (position_cmp s.0 p))) [
      | inl here ↦ (reached_here p s.0 here, rw here at e)
      | inr apart ↦ elim (cases_Bool (is_lt (position_cmp s.0 p))) [
        | inl before ↦ (not_after s.0 p before, rw (apart, before) at e)
        | inr after ↦ let none : None ≡ Some m = rw (apart, after) at e in cc
      ]
    ]

-- if the sections `ss` do not overlap and all of them are after `p` (`Follow`), the search for `p` in `s` and `ss`
-- gives the same result as the search in `s` alone. If the offset of `s` is before `p` and the search for `p` in `ss`
-- alone finds a section (`IsReached`), the search in `s` and `ss` finds the same section (`closest_if_reached`)
closest_if_followed : (s : SectionLookup) (ss : MapSections) (p : ℕ × ℕ) → Follow (spans ss) p
    → closest_section (s ∷ lookups ss) p ≡ closest_section (s ∷ []) p
closest_if_followed s ss p follow =
    closest_before (λ (s : SectionLookup). s.0) p (s ∷ []) (lookups ss) (lookups_follow p ss follow)

closest_if_reached : (s : SectionLookup) (own : List (ℕ × ℕ)) (ss : MapSections) (p : ℕ × ℕ) → IsReached s.0 own ss p
    → closest_section (s ∷ lookups ss) p ≡ closest_section (lookups ss) p
closest_if_reached s own ss p reached =
    let found = reached.closest in
    closest_of_later (λ (s : SectionLookup). s.0) p (s ∷ []) (lookups ss) (reached.offset, tt)
    ∙ ap (λ c. option_or c (closest_section (s ∷ []) p)) found.1 ∙ sym found.1

-- Let a map be orderly, and let its tokens be sorted. If a position has a meaning in the map, the position has the same
-- meaning in the map's sorted flat list.

module _ (head : SectionHead) (t : MapTree) (rest : MapSections) (apart : AreApart (spans (filled head t rest)))
    (p : ℕ × ℕ) (m : Meaning) where
  abbrev block : List Entry
  block = map (absolute_entry (offset_of head)) (flat_list t)

  abbrev own : List (ℕ × ℕ)
  own = map (λ (e : Entry). absolute_position (offset_of head) e.0) (flat_list t)

  own_entries : (P : ℕ × ℕ → Type 0) (es : List Entry)
      → AllByRecursion P (map (λ (e : Entry). absolute_position (offset_of head) e.0) es)
      → AllByRecursion (λ (e : Entry). P e.0) (map (absolute_entry (offset_of head)) es)
  own_entries P [] all = tt
  own_entries P (e ∷ es) all = (all.0, own_entries P es all.1)

  blocks_apart : by_position (block ++ flat_lists rest) ≡ by_position block ++ by_position (flat_lists rest)
  blocks_apart =
      sorted_by-append entry_position position_cmp_total block (flat_lists rest)
      (All-weaker (λ (e : Entry). Follow (spans rest) e.0)
      (λ (e : Entry). AllByRecursion (λ (f : Entry). is_lt (position_cmp f.0 e.0) ≡ false) (flat_lists rest))
      (λ e follow. All-weaker (λ (f : Entry). IsBefore e.0 f.0) (λ (f : Entry). is_lt (position_cmp f.0 e.0) ≡ false)
      (λ f later. not_after e.0 f.0 later)
      (flat_lists rest) (entries_follow e.0 rest follow))
      block (own_entries (Follow (spans rest)) (flat_list t) (follow_own (offset_of head, own) (spans rest) apart)))

  answer_here : Follow (spans rest) p → is_lt (position_cmp p (offset_of head)) ≡ false
      → answer_in (by_position (block ++ flat_lists rest)) p
      ≡ answer_in (by_position (flat_list t)) (relative_position (offset_of head) p)
  answer_here follow reached =
      ap (λ es. answer_in es p) blocks_apart
      ∙ ap (option_map (meaning_at p))
      (closest_before entry_position p (by_position block) (by_position (flat_lists rest))
      (All-sorted_by entry_position position_cmp_total (λ (e : Entry). IsBefore p e.0) (flat_lists rest)
      (entries_follow p rest follow)))
      ∙ ap (λ es. answer_in es p) (by_position-absolute_position (offset_of head) (flat_list t))
      ∙ answer_in-absolute_position (offset_of head) p reached (by_position (flat_list t))

  answer_later : AllByRecursion (λ q. IsBefore q p) own → answer_in (by_position (flat_lists rest)) p ≡ Some m
      → answer_in (by_position (block ++ flat_lists rest)) p ≡ Some m
  answer_later all e =
      ap (λ es. answer_in es p) blocks_apart
      ∙ ap (option_map (meaning_at p))
      (closest_of_later entry_position p (by_position block) (by_position (flat_lists rest))
      (All-sorted_by entry_position position_cmp_total (λ (e : Entry). IsBefore e.0 p) block
      (own_entries (λ q. IsBefore q p) (flat_list t) all)))
      ∙ first (closest_item entry_position position_cmp (by_position (flat_lists rest)) p)
      (closest_item entry_position position_cmp (by_position block) p) e
    where
      first : (a b : Option Entry) → option_map (meaning_at p) a ≡ Some m
          → option_map (meaning_at p) (option_or a b) ≡ Some m
      first None b e = cc
      first (Some x) b e = e

  section_answers : ((q : ℕ × ℕ) → meaning t q ≡ Some m → answer_in (by_position (flat_list t)) q ≡ Some m)
      → (answer_of p (closest_section (lookups rest) p) ≡ Some m → answer_in (by_position (flat_lists rest)) p ≡ Some m)
      → answer_of p (closest_section (lookups (filled head t rest)) p) ≡ Some m
      → answer_in (by_position (block ++ flat_lists rest)) p ≡ Some m
  section_answers here later e =
      let sought : SectionLookup = (offset_of head, λ q. lookup t q) in
      elim (follow_or_reach (offset_of head) own rest p apart) [
        | inl follow ↦
            let only = alone sought p m (ap (answer_of p) (sym (closest_if_followed sought rest p follow)) ∙ e) in
            answer_here follow only.0 ∙ here (relative_position (offset_of head) p) only.1
        | inr reached ↦ answer_later reached.all
            (later (ap (answer_of p) (sym (closest_if_reached sought own rest p reached)) ∙ e))
      ]

hollow_answers : (head : SectionHead) (rest : MapSections) → AreApart (spans (hollow head rest))
    → (p : ℕ × ℕ) (m : Meaning)
    → (answer_of p (closest_section (lookups rest) p) ≡ Some m → answer_in (by_position (flat_lists rest)) p ≡ Some m)
    → answer_of p (closest_section (lookups (hollow head rest)) p) ≡ Some m
    → answer_in (by_position (flat_lists rest)) p ≡ Some m
hollow_answers head rest apart p m later e =
    let sought : SectionLookup = (offset_of head, λ q. None) in
    elim (follow_or_reach (offset_of head) [] rest p apart) [
      | inl follow ↦ let only = alone sought p m
          (ap (answer_of p) (sym (closest_if_followed sought rest p follow)) ∙ e) in let none = only.1 in cc
      | inr reached ↦ later (ap (answer_of p) (sym (closest_if_reached sought [] rest p reached)) ∙ e)
    ]

mutual
  pub flat_list_answers : (t : MapTree) → HasTokensInOrder t → IsOrderly t → (p : ℕ × ℕ) (m : Meaning)
      → meaning t p ≡ Some m → answer_in (by_position (flat_list t)) p ≡ Some m
  flat_list_answers (leaf l) ordered orderly p m e =
      ap (λ es. answer_in es p) (meanings_sorted (held l) ordered) ∙ sym (meaning_in (held l) p) ∙ e
  flat_list_answers (index parts ss) ordered orderly p m e = flat_lists_answer ss ordered.1 orderly.0 orderly.1 p m e

  flat_lists_answer : (ss : MapSections) → InEachSection (λ l. AreInOrder (held l).tokens) (λ ss. Unit {0}) ss
      → AreApart (spans ss) → InEachSection (λ l. Unit {0}) (λ ss. AreApart (spans ss)) ss → (p : ℕ × ℕ) (m : Meaning)
      → answer_of p (closest_section (lookups ss) p) ≡ Some m → answer_in (by_position (flat_lists ss)) p ≡ Some m
  flat_lists_answer no_sections ordered apart orderly p m e = cc
  flat_lists_answer (hollow head rest) ordered apart orderly p m e =
      hollow_answers head rest apart p m
      (flat_lists_answer rest ordered (apart_later (offset_of head, []) (spans rest) apart) orderly p m) e
  flat_lists_answer (filled head t rest) ordered apart orderly p m e =
      section_answers head t rest apart p m (λ q h. flat_list_answers t ordered.0 orderly.0 q m h)
      (flat_lists_answer rest ordered.1 (apart_later _ (spans rest) apart) orderly.1 p m) e
