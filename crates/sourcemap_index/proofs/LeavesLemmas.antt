-- An index map whose leaves fit into one concatenation can be flattened level by level, and this concatenation is its
-- flat map.
use Rattle.std.proofs.Common.{◌≡◌, refl, sym, ap, subst, ◌∙◌, ℕ, ◌≤◌, List, [], ◌∷◌, ◌++◌, append-nil, append_assoc, length, map, Bool, true, false, ◌||◌, if◌then◌else◌, nat_lt, Option, Some, None, Ok, Err, codes, arith, inl, inr}
use Rattle.std.specs.List.{AllByRecursion, list_any}
use Rattle.std.proofs.lemmas.Bool.{cases_Bool, ltb-true}
use Rattle.std.proofs.lemmas.List.{map-append}
use Rattle.std.proofs.lemmas.List.Concat.{flat_map-append}
use Rattle.sourcemap_tokens.proofs.AllLemmas.{All-append, All-parts, All-map, All-unmapped, All-flat_map}
use Rattle.sourcemap_tokens.specs.Tokens.{AreInOrder, destination}
use Rattle.sourcemap_map_regular.specs.Map.{MapValue}
use Rattle.sourcemap_index_model.specs.Flat.{Piece, sources_in, names_in, passes_the_end, with_piece, on_ok, flat, pieces_after, merged}
use Rattle.sourcemap_index_model.specs.FlatList.{absolute_position}
use Rattle.sourcemap_index_model.specs.MapTree.{held, MapTree, leaf, index, IndexParts, MapSections, no_sections, hollow, filled, offset_of, InEachSection, MapSection, IndexValue, index_tree, section_offset, section_with, sections_from}
use Rattle.sourcemap_index_model.specs.WellFormed.{HasTokensInOrder}
use Rattle.sourcemap_index_model.proofs.FlatLemmas.{AreFew}
use Rattle.sourcemap_index_model.proofs.MapTreeLemmas.{each_level-weaker}
use Rattle.sourcemap_index_flatten.specs.Gathering.{Gathers, GathersMore, IsFlat, moved_piece}
use Rattle.sourcemap_index_flatten.specs.declared.gathering.FlatMap.{FlatMap}
use Rattle.sourcemap_index_flatten.specs.declared.gathering.Gathering.{Gathering}
use Rattle.sourcemap_index_flatten.proofs.AlikeLemmas.{AreAlike, AreWithin, alike-append, alike-itself, alike-merged, alike-moved, alike-through, few-alike, few-gathered, few-middle, few-unmoved, flat-alike, place, position-none, position-start, position-twice, within-alike, within-unmoved, worded, words_of, all_worded}
use Rattle.sourcemap_index.specs.Flatten.{IsFlatOf}
use Rattle.sourcemap_index.specs.Leaves.{AreAdded, AreFilled, HasComplete, IsComplete, IsWithinEnd, leaves, leaves_in, section_leaves}

-- One piece.

any-none : {X : Type 0} (test : X → Bool) (xs : List X) → AllByRecursion (λ x. test x ≡ false) xs
    → list_any test xs ≡ false
any-none test [] all = refl
any-none test (x ∷ xs) all = ap (λ b. b || list_any test xs) all.0 ∙ any-none test xs all.1

none-any : {X : Type 0} (test : X → Bool) (xs : List X) → list_any test xs ≡ false
    → AllByRecursion (λ x. test x ≡ false) xs
none-any test [] none = tt
none-any test (x ∷ xs) none = let parts = both (test x) (list_any test xs) none in (parts.0, none-any test xs parts.1)
  where
    both : (a b : Bool) → (a || b) ≡ false → (a ≡ false) × (b ≡ false)
    both true b e = cc
    both false b e = (refl, e)

-- what `AreWithin` says of the words of pieces, `IsWithinEnd` says of each piece
pub within-words : (pieces : List Piece) → AllByRecursion IsWithinEnd pieces → AreWithin pieces
within-words pieces within =
    All-flat_map (λ w. passes_the_end (place w) ≡ false) words_of pieces (each pieces within)
  where
    each : (ps : List Piece) → AllByRecursion IsWithinEnd ps
        → AllByRecursion (λ p. AllByRecursion (λ w. passes_the_end (place w) ≡ false) (words_of p)) ps
    each [] all = tt
    each (p ∷ ps) all = (
      All-map (λ w. passes_the_end (place w) ≡ false) (worded p) p.1.tokens
          (none-any (λ t. passes_the_end (absolute_position p.0 (destination t))) p.1.tokens all.0),
      each ps all.1,
    )

piece-within : (piece : Piece) → AreWithin (piece ∷ []) → IsWithinEnd piece
piece-within piece within =
    any-none (λ t. passes_the_end (absolute_position piece.0 (destination t))) piece.1.tokens
    (All-unmapped (λ w. passes_the_end (place w) ≡ false) (worded piece) piece.1.tokens
    (All-parts (λ w. passes_the_end (place w) ≡ false) (words_of piece) [] within).0)

not_more : (n : ℕ) → n ≤ 4294967295 → nat_lt 4294967295 n ≡ false
not_more n few = elim (cases_Bool (nat_lt 4294967295 n)) [
  | inl more ↦ let past = ltb-true 4294967295 n more in absurd (omega (arith, past, few))
  | inr is ↦ is
]

piece-added : (before : List Piece) (piece : Piece) → AreFew (before ++ piece ∷ []) → IsWithinEnd piece
    → with_piece before piece ≡ Ok (before ++ piece ∷ [])
piece-added before piece few within =
    rw (
      not_more (length (sources_in (before ++ piece ∷ []))) few.0,
      not_more (length (names_in (before ++ piece ∷ []))) few.1,
      within,
    ) refl

-- All levels.

-- `t` can be flattened, and its flat map stands for the leaves of `t`
pub record Flattens (t : MapTree) : Type 0 where
  pub whole : MapValue
  pub flattened : flat t ≡ Ok whole
  pub alike : AreAlike (((0, 0), whole) ∷ []) (leaves t)

-- the sections can be added after `before`, and the pieces then stand for these leaves
pub record AddsAll (before : List Piece) (ss : MapSections) (all : List Piece) : Type 0 where
  pub pieces : List Piece
  pub added : pieces_after before ss ≡ Ok pieces
  pub alike : AreAlike pieces all

-- a flat map at an offset stands for the leaves at this offset
piece-alike : (offset : ℕ × ℕ) (t : MapTree) (whole : MapValue) → AreAlike (((0, 0), whole) ∷ []) (leaves t)
    → AreAlike ((offset, whole) ∷ []) (map (moved_piece offset) (leaves t))
piece-alike offset t whole alike =
    subst (λ start. AreAlike ((start, whole) ∷ []) (map (moved_piece offset) (leaves t))) (position-start offset)
    (alike-moved offset (((0, 0), whole) ∷ []) (leaves t) alike)

-- one section, and then the rest
adds-next : (before : List Piece) (offset : ℕ × ℕ) (t : MapTree) (rest : MapSections) (whole : MapValue)
    (pieces : List Piece) → flat t ≡ Ok whole
    → with_piece before (offset, whole) ≡ Ok (before ++ (offset, whole) ∷ [])
    → pieces_after (before ++ (offset, whole) ∷ []) rest ≡ Ok pieces
    → on_ok (flat t) (λ m. on_ok (with_piece before (offset, m)) (λ pieces. pieces_after pieces rest)) ≡ Ok pieces
adds-next before offset t rest whole pieces flattened put later =
    ap (λ r. on_ok r (λ m. on_ok (with_piece before (offset, m)) (λ pieces. pieces_after pieces rest))) flattened
    ∙ ap (λ r. on_ok r (λ pieces. pieces_after pieces rest)) put ∙ later

mutual
  pub flattens : (t : MapTree) → IsComplete t → AreFew (leaves t) → AreWithin (leaves t) → Flattens t
  flattens (leaf l) complete few within =
      record { whole = held l; flattened = refl; alike = alike-itself (((0, 0), held l) ∷ []) }
  flattens (index parts ss) complete few within =
      let made = adds-all [] [] ss (alike-itself []) complete.0 complete.1 few within in
      let few_pieces = few-alike made.pieces (leaves_in ss) made.alike few in
      record {
        whole = merged parts.file made.pieces;
        flattened = ap (λ r. on_ok r (λ pieces. Ok (merged parts.file pieces))) made.added;
        alike = alike-through (((0, 0), merged parts.file made.pieces) ∷ []) made.pieces (leaves_in ss)
            (alike-merged parts.file made.pieces few_pieces.0 few_pieces.1) made.alike;
      }

  pub adds-all : (before done : List Piece) (ss : MapSections) → AreAlike before done → AreFilled ss
      → InEachSection (λ l. AreInOrder (held l).tokens) AreFilled ss → AreFew (done ++ leaves_in ss)
      → AreWithin (leaves_in ss) → AddsAll before ss (done ++ leaves_in ss)
  adds-all before done no_sections so_far all_filled complete few within = record {
    pieces = before;
    added = refl;
    alike = subst (AreAlike before) (sym (append-nil done)) so_far;
  }
  adds-all before done (hollow head rest) so_far all_filled complete few within = absurd all_filled
  adds-all before done (filled head t rest) so_far all_filled complete few within =
      let offset : ℕ × ℕ = offset_of head in
      let own : List Piece = map (moved_piece offset) (leaves t) in
      let parts = All-parts (λ w. passes_the_end (place w) ≡ false) (all_worded own) (all_worded (leaves_in rest))
      (subst (AllByRecursion (λ w. passes_the_end (place w) ≡ false)) (flat_map-append words_of own (leaves_in rest))
      within) in
      let made = flattens t complete.0
      (few-unmoved offset (leaves t) (few-middle done own (leaves_in rest) few))
      (within-unmoved offset (leaves t) parts.0) in
      let piece : Piece = (offset, made.whole) in
      let here : AreAlike (piece ∷ []) own = piece-alike offset t made.whole made.alike in
      let now : AreAlike (before ++ piece ∷ []) (done ++ own) =
      alike-append before done (piece ∷ []) own so_far here in
      let again : done ++ (own ++ leaves_in rest) ≡ (done ++ own) ++ leaves_in rest =
      sym (append_assoc done own (leaves_in rest)) in
      let few_now : AreFew (before ++ piece ∷ []) = few-alike (before ++ piece ∷ []) (done ++ own) now
      (few-middle [] (done ++ own) (leaves_in rest) (subst AreFew again few)) in
      let put : with_piece before piece ≡ Ok (before ++ piece ∷ []) = piece-added before piece few_now
      (piece-within piece (within-alike (piece ∷ []) own here parts.0)) in
      let later = adds-all (before ++ piece ∷ []) (done ++ own) rest now all_filled complete.1
      (subst AreFew again few) parts.1 in
      record {
        pieces = later.pieces;
        added = adds-next before offset t rest made.whole later.pieces made.flattened put later.added;
        alike = subst (AreAlike later.pieces) (sym again) later.alike;
      }

-- The walk over the leaves.

due-within : (b c : Bool) (pieces out : List Piece) (x y : List ℕ)
    → (if b then Err x else if c then Err y else Ok pieces) ≡ Ok out → c ≡ false
due-within true c pieces out x y e = cc
due-within false true pieces out x y e = cc
due-within false false pieces out x y e = refl

-- a regular map or a Hermes map is added as it is
pub leaf-added : (before : List Piece) (offset : ℕ × ℕ) (m : MapValue) (g : Gathering)
    → GathersMore before (offset, m) g → AreAdded before offset (((0, 0), m) ∷ []) g
leaf-added before offset m g more = record {
  gathered = subst (λ start. Gathers (before ++ (start, m) ∷ []) g) (sym (position-start offset)) more.gathered;
  within = (
    subst (λ start. IsWithinEnd (start, m)) (sym (position-start offset))
        (due-within (nat_lt 4294967295 (length (sources_in (before ++ (offset, m) ∷ [])))
        || nat_lt 4294967295 (length (names_in (before ++ (offset, m) ∷ []))))
        (list_any (λ t. passes_the_end (absolute_position offset (destination t))) m.tokens)
        (before ++ (offset, m) ∷ []) (before ++ (offset, m) ∷ []) (codes "too many sources or names")
        (codes "a position passes 4294967295") more.due),
    tt,
  );
}

moved-twice : (outer inner : ℕ × ℕ) (pieces : List Piece)
    → map (moved_piece (absolute_position outer inner)) pieces
    ≡ map (moved_piece outer) (map (moved_piece inner) pieces)
moved-twice outer inner [] = refl
moved-twice outer inner (p ∷ ps) =
    λ i. (position-twice outer inner p.0 i, p.1) ∷ moved-twice outer inner ps i

moved-none : (pieces : List Piece) → map (moved_piece (0, 0)) pieces ≡ pieces
moved-none [] = refl
moved-none (p ∷ ps) = λ i. (position-none p.0 i, p.1) ∷ moved-none ps i

-- the leaves of a section's map are the leaves of the section, from the start of the section
pub section-leaves_added : (before : List Piece) (offset : ℕ × ℕ) (s : MapSection) (t : MapTree) (g : Gathering)
    → s.map ≡ Some t → AreAdded before (absolute_position offset (section_offset s)) (leaves t) g
    → AreAdded before offset (section_leaves s) g
section-leaves_added before offset s t g is added =
    let same : map (moved_piece (absolute_position offset (section_offset s))) (leaves t)
    ≡ map (moved_piece offset) (section_leaves s) =
    moved-twice offset (section_offset s) (leaves t)
    ∙ ap (map (moved_piece offset)) (sym (append-nil (map (moved_piece (section_offset s)) (leaves t))))
    ∙ ap (λ m. map (moved_piece offset) (leaves_in (section_with s.head m no_sections))) (sym is) in
    record {
      gathered = subst (λ pieces. Gathers (before ++ pieces) g) same added.gathered;
      within = subst (AllByRecursion IsWithinEnd) same added.within;
    }

pub landed : (passes : Bool) (there at : ℕ × ℕ) → (if passes then None else Some there) ≡ Some at → at ≡ there
landed true there at e = cc
landed false there at e = cc

-- Section after section.

leaves-more : (ss : List MapSection) (s : MapSection)
    → leaves_in (sections_from (ss ++ s ∷ [])) ≡ leaves_in (sections_from ss) ++ section_leaves s
leaves-more [] s = refl
leaves-more (s' ∷ ss) s = by_map s'.map (leaves-more ss s)
  where
    by_map : (m : Option MapTree)
        → leaves_in (sections_from (ss ++ s ∷ [])) ≡ leaves_in (sections_from ss) ++ section_leaves s
        → leaves_in (section_with s'.head m (sections_from (ss ++ s ∷ [])))
        ≡ leaves_in (section_with s'.head m (sections_from ss)) ++ section_leaves s
    by_map None later = later
    by_map (Some t) later = ap (λ rest. map (moved_piece (offset_of s'.head)) (leaves t) ++ rest) later
        ∙ sym (append_assoc (map (moved_piece (offset_of s'.head)) (leaves t)) (leaves_in (sections_from ss))
        (section_leaves s))

-- the leaves of the first sections were added to `start`, and this gave `g`
abbrev pub AddsSections : ℕ × ℕ → List MapSection → (start g : Gathering) → Type 0
AddsSections offset ss start g = (before : List Piece) → Gathers before start
    → AreAdded before offset (leaves_in (sections_from ss)) g

pub adds-none : (offset : ℕ × ℕ) (g : Gathering) → AddsSections offset [] g g
adds-none offset g = λ before is. record {
  gathered = subst (λ pieces. Gathers pieces g) (sym (append-nil before)) is;
  within = tt;
}

pub adds-more : (offset : ℕ × ℕ) (ss : List MapSection) (s : MapSection) (start old new : Gathering)
    → AddsSections offset ss start old
    → ((before : List Piece) → Gathers before old → AreAdded before offset (section_leaves s) new)
    → AddsSections offset (ss ++ s ∷ []) start new
adds-more offset ss s start old new so_far adds = λ before is.
    let earlier : List Piece = map (moved_piece offset) (leaves_in (sections_from ss)) in
    let own : List Piece = map (moved_piece offset) (section_leaves s) in
    let first = so_far before is in
    let next = adds (before ++ earlier) first.gathered in
    let all : earlier ++ own ≡ map (moved_piece offset) (leaves_in (sections_from (ss ++ s ∷ []))) =
    sym (map-append (moved_piece offset) (leaves_in (sections_from ss)) (section_leaves s))
    ∙ ap (map (moved_piece offset)) (sym (leaves-more ss s)) in
    record {
      gathered = subst (λ pieces. Gathers pieces new)
          (append_assoc before earlier own ∙ ap (λ pieces. before ++ pieces) all) next.gathered;
      within = subst (AllByRecursion IsWithinEnd) all (All-append IsWithinEnd earlier own first.within next.within);
    }

complete-more : (s : MapSection) (ss : List MapSection) (m : Option MapTree) → HasComplete m
    → AreFilled (sections_from ss) × InEachSection (λ l. AreInOrder (held l).tokens) AreFilled (sections_from ss)
    → AreFilled (section_with s.head m (sections_from ss))
    × InEachSection (λ l. AreInOrder (held l).tokens) AreFilled (section_with s.head m (sections_from ss))
complete-more s ss None has later = absurd has
complete-more s ss (Some t) has later = (later.0, (has, later.1))

all-complete : (ss : List MapSection) → AllByRecursion (λ s. HasComplete s.map) ss
    → AreFilled (sections_from ss) × InEachSection (λ l. AreInOrder (held l).tokens) AreFilled (sections_from ss)
all-complete [] all = (tt, tt)
all-complete (s ∷ ss) all = complete-more s ss s.map all.0 (all-complete ss all.1)

pub complete-all : (parts : IndexParts) (ss : List MapSection) → AllByRecursion (λ s. HasComplete s.map) ss
    → IsComplete (index parts (sections_from ss))
complete-all parts ss all = all-complete ss all

-- The leaves are gathered.

pub complete-in_order : (t : MapTree) → IsComplete t → HasTokensInOrder t
complete-in_order t complete = each_level-weaker (λ l h. h) (λ ss h. tt) t complete

pub gathered-leaves : (v : IndexValue) (g : Gathering) → AreAdded [] (0, 0) (leaves (index_tree v)) g
    → Gathers (leaves (index_tree v)) g
gathered-leaves v g added =
    subst (λ pieces. Gathers pieces g) (moved-none (leaves (index_tree v))) added.gathered

-- the concatenation of the leaves is the concatenation that `pieces_after` asks for
pub flat-of_leaves : (v : IndexValue) (g : Gathering) (flat : FlatMap) → IsComplete (index_tree v)
    → AreAdded [] (0, 0) (leaves (index_tree v)) g → IsFlat (leaves (index_tree v)) flat
    → IsFlatOf (pieces_after [] (sections_from v.sections)) flat
flat-of_leaves v g flat complete added is =
    let within : AllByRecursion IsWithinEnd (leaves (index_tree v)) =
    subst (AllByRecursion IsWithinEnd) (moved-none (leaves (index_tree v))) added.within in
    let made = adds-all [] [] (sections_from v.sections) (alike-itself []) complete.0 complete.1
    (few-gathered (leaves (index_tree v)) g (gathered-leaves v g added))
    (within-words (leaves (index_tree v)) within) in
    (made.pieces, made.added, flat-alike made.pieces (leaves (index_tree v)) flat made.alike is)
