-- The flattened map. If the index map is well-formed, the flattened map is well-formed. If the tokens of each map in
-- the index map are sorted, the flattened map has the positions and meanings of all these tokens, sorted by position.
-- If the index map is also orderly, each position with a meaning in the index map has the same meaning in the flattened
-- map.
use Rattle.std.proofs.Common.{◌≡◌, refl, sym, ap, subst, ◌∙◌, ℕ, zero, suc, ◌≤◌, List, [], ◌∷◌, ◌++◌, append_assoc, length, map, flat_map, Bool, true, false, ◌||◌, if◌then◌else◌, Option, Some, None, option_map, slice_get, IfSome, nat_lt, Result, Ok, Err, codes, arith}
use Rattle.std.proofs.lemmas.List.{append-nil, map-append}
use Rattle.std.proofs.lemmas.Option.{slice_get-map, slice_get_past, slice_get_within}
use Rattle.std.specs.List.{AllByRecursion, list_any}
use Rattle.std.specs.List.Sorted.{IsStableByKey}
use Rattle.sourcemap_tokens.proofs.AllLemmas.{All-at, All-both, All-flat_map, All-from_flat_map, All-unmapped}
use Rattle.sourcemap_interning.proofs.InternerLemmas.{slice_get-id_of}
use Rattle.sourcemap_tokens.proofs.SortLemmas.{stable-sorted_by}
use Rattle.sourcemap_tokens.proofs.TokensLemmas.{position_cmp_total, AllWithin-in_order}
use Rattle.sourcemap_tokens.specs.declared.tokens.RawToken.{RawToken}
use Rattle.sourcemap_tokens.specs.Tokens.{destination, position_cmp, AreInOrder, IsWithin}
use Rattle.sourcemap_map_parts.proofs.SourcesLemmas.{map-resolved_against_nothing}
use Rattle.sourcemap_map_parts.specs.Sources.{resolved}
use Rattle.sourcemap_map_regular.specs.Map.{MapValue, Meaning, meaning as meaning_regular, resolved_sources, source_of, name_of, meaning_of, IsWellFormed as IsWellFormedRegular}
use Rattle.sourcemap_map_regular.specs.Rewrite.{token_meanings}
use Rattle.sourcemap_map_rewrite.proofs.NumberingLemmas.{IsListedIfAny, used-kept, slice_get-number_in}
use Rattle.sourcemap_map_rewrite.specs.Kept.{present, kept_once, number_in}
use Rattle.sourcemap_index_model.specs.Flat.{Piece, sources_in, names_in, token_in, merged, passes_the_end, with_piece, on_ok, flat, pieces_after, SaysFlat, AnswersLike}
use Rattle.sourcemap_index_model.specs.FlatList.{absolute_position, absolute_entry, flat_list, flat_lists, IsOrderly}
use Rattle.sourcemap_index_model.specs.MapTree.{LeafMap, regular, hermes, held, MapTree, leaf, index, IndexParts, MapSections, no_sections, hollow, filled, offset_of, InEachSection}
use Rattle.sourcemap_index_model.specs.Meaning.{meaning}
use Rattle.sourcemap_index_model.specs.WellFormed.{HasTokensInOrder, IsWellFormed, IsWellFormedLeaf, AreWellFormedSections}
use Rattle.sourcemap_index_model.proofs.ApartLemmas.{Entry}
use Rattle.sourcemap_index_model.proofs.AnswerLemmas.{answer_in, flat_list_answers, meaning_in, entry_position, by_position, by_position-absolute_position, meanings_sorted}
use Rattle.sourcemap_index_model.proofs.SortLemmas.{sorted_by-stable, stable_append, sorted_by-change}
use Rattle.sourcemap_index_model.proofs.WellFormedLemmas.{not_above}

-- The pieces of an index map.

-- each section has a map, and the pieces are these maps flattened, in order
abbrev pub AreFlattened : MapSections → List Piece → Type 0
AreFlattened no_sections pieces = pieces ≡ []
AreFlattened (hollow head rest) pieces = ⊥
AreFlattened (filled head t rest) pieces =
    (m : MapValue) × (more : List Piece) × (pieces ≡ (offset_of head, m) ∷ more) × (flat t ≡ Ok m)
    × AreFlattened rest more

-- there are enough ids for the sources, and enough ids for the names
abbrev pub AreFew : List Piece → Type 0
AreFew pieces = (length (sources_in pieces) ≤ 4294967295) × (length (names_in pieces) ≤ 4294967295)

ok_past_errors : (b c : Bool) (pieces out : List Piece) (x y : List ℕ)
    → (if b then Err x else if c then Err y else Ok pieces) ≡ Ok out → (b ≡ false) × (out ≡ pieces)
ok_past_errors true c pieces out x y e = cc
ok_past_errors false true pieces out x y e = cc
ok_past_errors false false pieces out x y e = (refl, cc)

both_false : (a b : Bool) → a || b ≡ false → (a ≡ false) × (b ≡ false)
both_false true b e = cc
both_false false b e = (refl, e)

with_piece-ok : (before : List Piece) (piece : Piece) (out : List Piece) → with_piece before piece ≡ Ok out
    → (out ≡ before ++ piece ∷ []) × AreFew out
with_piece-ok before piece out e =
    let pieces : List Piece = before ++ piece ∷ [] in
    let fit = ok_past_errors (nat_lt 4294967295 (length (sources_in pieces)) || nat_lt 4294967295 (length (names_in pieces)))
    (list_any (λ t. passes_the_end (absolute_position piece.0 (destination t))) piece.1.tokens)
    pieces out (codes "too many sources or names") (codes "a position passes 4294967295") e in
    let few =
    both_false (nat_lt 4294967295 (length (sources_in pieces))) (nat_lt 4294967295 (length (names_in pieces))) fit.0 in (
      fit.1,
      subst AreFew (sym fit.1)
          (not_above (length (sources_in pieces)) few.0, not_above (length (names_in pieces)) few.1),
    )

on_ok-ok : {X Y E : Type 0} (r : Result X E) (next : X → Result Y E) (y : Y) → on_ok r next ≡ Ok y
    → (x : X) × (r ≡ Ok x) × (next x ≡ Ok y)
on_ok-ok (Ok x) next y e = (x, refl, e)
on_ok-ok (Err f) next y e = cc

append-rejoined : (before : List Piece) (piece : Piece) (now later pieces : List Piece) → now ≡ before ++ piece ∷ []
    → pieces ≡ now ++ later → pieces ≡ before ++ piece ∷ later
append-rejoined before piece now later pieces e f = f ∙ ap (λ ps. ps ++ later) e ∙ append_assoc before (piece ∷ []) later

pieces_flattened : (before : List Piece) (ss : MapSections) (pieces : List Piece) → AreFew before
    → pieces_after before ss ≡ Ok pieces
    → (later : List Piece) × (pieces ≡ before ++ later) × AreFlattened ss later × AreFew pieces
pieces_flattened before no_sections pieces few e =
    let same : before ≡ pieces = cc in
    ([], sym same ∙ sym (append-nil before), refl, subst AreFew same few)
pieces_flattened before (hollow head rest) pieces few e = cc
pieces_flattened before (filled head t rest) pieces few e =
    let made = on_ok-ok (flat t)
    (λ m. on_ok (with_piece before (offset_of head, m)) (λ pieces. pieces_after pieces rest)) pieces e in
    let put =
    on_ok-ok (with_piece before (offset_of head, made.0)) (λ pieces. pieces_after pieces rest) pieces made.2 in
    let next = with_piece-ok before (offset_of head, made.0) put.0 put.1 in
    let later = pieces_flattened put.0 rest pieces next.1 put.2 in (
      (offset_of head, made.0) ∷ later.0,
      append-rejoined before (offset_of head, made.0) put.0 later.0 pieces next.0 later.1,
      (made.0, later.0, refl, made.1, later.2),
      later.3,
    )

pub index_flattened : (parts : IndexParts) (ss : MapSections) (m : MapValue) → flat (index parts ss) ≡ Ok m
    → (pieces : List Piece) × (m ≡ merged parts.file pieces) × AreFlattened ss pieces × AreFew pieces
index_flattened parts ss m e =
    let put = on_ok-ok (pieces_after [] ss) (λ pieces. Ok (merged parts.file pieces)) m e in
    let made = pieces_flattened [] ss put.0 (omega arith, omega arith) put.1 in
    let same : m ≡ merged parts.file put.0 = let f = put.2 in cc in
    (put.0, same, subst (AreFlattened ss) (sym made.1) made.2, made.3)

-- Each token has the same meaning in the concatenation as in the map of its piece, if there are enough ids (`AreFew`).

present-all : (texts : List (List ℕ)) → present (map Some texts) ≡ texts
present-all [] = refl
present-all (t ∷ ts) = ap (λ rest. t ∷ rest) (present-all ts)

abbrev HasText : List (List ℕ) → List ℕ → Type 0
HasText kept text = IsListedIfAny kept (Some text)

all_kept : (texts : List (List ℕ)) → AllByRecursion (HasText (kept_once texts)) texts
all_kept texts =
    subst (λ us. AllByRecursion (HasText (kept_once us)) texts) (present-all texts)
    (All-unmapped (IsListedIfAny (kept_once (present (map Some texts)))) Some texts (used-kept (map Some texts)))

-- the sources and names of a piece are among those of all pieces
abbrev pub IsAmong : List Piece → Piece → Type 0
IsAmong pieces piece = AllByRecursion (HasText (sources_in pieces)) (resolved_sources piece.1)
    × AllByRecursion (HasText (names_in pieces)) piece.1.names

pub all_among : (pieces : List Piece) → AllByRecursion (IsAmong pieces) pieces
all_among pieces =
    All-both (λ piece. AllByRecursion (HasText (sources_in pieces)) (resolved_sources piece.1))
    (λ piece. AllByRecursion (HasText (names_in pieces)) piece.1.names) pieces
    (All-from_flat_map (HasText (sources_in pieces)) (λ piece. resolved_sources piece.1) pieces
    (all_kept (flat_map (λ (piece : Piece). resolved_sources piece.1) pieces)))
    (All-from_flat_map (HasText (names_in pieces)) (λ piece. piece.1.names) pieces
    (all_kept (flat_map (λ (piece : Piece). piece.1.names) pieces)))

number_at : (kept texts : List (List ℕ)) (id : ℕ) → AllByRecursion (HasText kept) texts
    → IsListedIfAny kept (slice_get texts id)
number_at kept texts id all = by_case (slice_get texts id) refl
  where
    by_case : (o : Option (List ℕ)) → slice_get texts id ≡ o → IsListedIfAny kept o
    by_case None e = tt
    by_case (Some text) e = All-at (HasText kept) texts id text e all

module _ (file : Option (List ℕ)) (pieces : List Piece) (few : AreFew pieces) where
  source_merged : (o : Option (List ℕ)) → IsListedIfAny (sources_in pieces) o
      → source_of (merged file pieces) (number_in (sources_in pieces) o) ≡ o
  source_merged o h =
      ap (λ xs. slice_get xs (number_in (sources_in pieces) o))
      (map-resolved_against_nothing [] (sources_in pieces) refl)
      ∙ slice_get-number_in (sources_in pieces) o few.0 h

  token_says : (piece : Piece) (t : RawToken) → IsAmong pieces piece
      → (destination (token_in pieces piece t), meaning_of (merged file pieces) (token_in pieces piece t) 0)
      ≡ absolute_entry piece.0 (destination t, meaning_of piece.1 t 0)
  token_says piece t among =
      λ i. (
        absolute_position piece.0 (destination t),
        record (meaning_of piece.1 t 0) {
          source = source_merged (source_of piece.1 t.src_id)
              (number_at (sources_in pieces) (resolved_sources piece.1) t.src_id among.0) i;
          name = slice_get-number_in (names_in pieces) (name_of piece.1 t.name_id) few.1
              (number_at (names_in pieces) piece.1.names t.name_id among.1) i;
        },
      )

  abbrev say_merged : RawToken → Entry
  say_merged t = (destination t, meaning_of (merged file pieces) t 0)

  tokens_say : (piece : Piece) (ts : List RawToken) → IsAmong pieces piece
      → map say_merged (map (token_in pieces piece) ts)
      ≡ map (absolute_entry piece.0) (map (λ t. (destination t, meaning_of piece.1 t 0)) ts)
  tokens_say piece [] among = refl
  tokens_say piece (t ∷ ts) among = λ i. token_says piece t among i ∷ tokens_say piece ts among i

  abbrev tokens_of : Piece → List RawToken
  tokens_of piece = map (token_in pieces piece) piece.1.tokens

  pieces_say : (ps : List Piece) → AllByRecursion (IsAmong pieces) ps
      → map say_merged (flat_map tokens_of ps)
      ≡ flat_map (λ piece. map (absolute_entry piece.0) (token_meanings piece.1)) ps
  pieces_say [] all = refl
  pieces_say (p ∷ ps) all =
      map-append say_merged (tokens_of p) (flat_map tokens_of ps)
      ∙ (λ i. tokens_say p p.1.tokens all.0 i ++ pieces_say ps all.1 i)

  pub meanings_merged : token_meanings (merged file pieces)
      ≡ by_position (flat_map (λ piece. map (absolute_entry piece.0) (token_meanings piece.1)) pieces)
  meanings_merged =
      sym (sorted_by-change destination position_cmp entry_position position_cmp say_merged (λ s t. refl)
      (flat_map tokens_of pieces))
      ∙ ap by_position (pieces_say pieces (all_among pieces))

  -- The concatenation is well-formed if the map of each piece is well-formed and there are enough ids (`AreFew`).

  number_past : (o : Option (List ℕ)) → IsListedIfAny (sources_in pieces) o
      → length (sources_in pieces) ≤ number_in (sources_in pieces) o → o ≡ None
  number_past None h past = refl
  number_past (Some text) h past =
      let numbered : number_in (sources_in pieces) (Some text) ≡ h.0 = rw h.1 refl in
      let below = slice_get_within (sources_in pieces) h.0 text (slice_get-id_of text (sources_in pieces) h.0 h.1) in
      absurd (omega (arith, numbered, below, past))

  within_merged : (piece : Piece) (t : RawToken) → IsAmong pieces piece
      → IsWithin (length piece.1.sources) (length piece.1.names) t
      → IsWithin (length (sources_in pieces)) (length (names_in pieces)) (token_in pieces piece t)
  within_merged piece t among within past =
      let none : source_of piece.1 t.src_id ≡ None =
      number_past (source_of piece.1 t.src_id)
      (number_at (sources_in pieces) (resolved_sources piece.1) t.src_id among.0) past in
      let bare = within (past_end piece.1.sources t.src_id
      (sym (slice_get-map (resolved piece.1.root) piece.1.sources t.src_id) ∙ none)) in
      let unnamed : name_of piece.1 t.name_id ≡ None = slice_get_past piece.1.names t.name_id bare.3 in
      (ap (number_in (sources_in pieces)) none, bare.1, bare.2, rw unnamed few.1)
    where
      past_end : (xs : List (List ℕ)) (i : ℕ) → option_map (resolved piece.1.root) (slice_get xs i) ≡ None
          → length xs ≤ i
      past_end [] i h = omega arith
      past_end (x ∷ xs) zero h = cc
      past_end (x ∷ xs) (suc i) h = let rest = past_end xs i h in omega arith

  tokens_within : (piece : Piece) (ts : List RawToken) → IsAmong pieces piece
      → AllByRecursion (IsWithin (length piece.1.sources) (length piece.1.names)) ts
      → AllByRecursion (IsWithin (length (sources_in pieces)) (length (names_in pieces)))
      (map (token_in pieces piece) ts)
  tokens_within piece [] among all = tt
  tokens_within piece (t ∷ ts) among all = (within_merged piece t among all.0, tokens_within piece ts among all.1)

  pieces_within : (ps : List Piece) → AllByRecursion (IsAmong pieces) ps
      → AllByRecursion (λ piece. IsWellFormedRegular piece.1) ps
      → AllByRecursion (λ piece.
      AllByRecursion (IsWithin (length (sources_in pieces)) (length (names_in pieces))) (tokens_of piece)) ps
  pieces_within [] among all = tt
  pieces_within (p ∷ ps) among all = (tokens_within p p.1.tokens among.0 all.0, pieces_within ps among.1 all.1)

  pub well_merged : AllByRecursion (λ piece. IsWellFormedRegular piece.1) pieces
      → IsWellFormedRegular (merged file pieces)
  well_merged all =
      AllWithin-in_order (length (sources_in pieces)) (length (names_in pieces)) (flat_map tokens_of pieces)
      (All-flat_map (IsWithin (length (sources_in pieces)) (length (names_in pieces))) tokens_of pieces
      (pieces_within pieces (all_among pieces) all))

-- Let the tokens of a map be sorted (`HasTokensInOrder`), and let the map flatten without an error. Sorting the flat
-- list of the map stably by position gives the position and the meaning of each token of the flattened map, in the
-- order of the tokens.

abbrev absolute_meaning : Piece → List Entry
absolute_meaning piece = map (absolute_entry piece.0) (token_meanings piece.1)

mutual
  pub flat_says : (t : MapTree) (m : MapValue) → HasTokensInOrder t → flat t ≡ Ok m → SaysFlat t m
  flat_says (leaf l) m ordered e = let same : held l ≡ m = cc in
      subst (λ m. token_meanings m ≡ by_position (token_meanings (held l))) same
      (sym (meanings_sorted (held l) ordered))
  flat_says (index parts ss) m ordered e =
      let made = index_flattened parts ss m e in
      ap token_meanings made.1 ∙ meanings_merged parts.file made.0 made.3
      ∙ sorted_by-stable entry_position position_cmp_total (flat_lists ss) (flat_map absolute_meaning made.0)
      (pieces_stable ss made.0 ordered.1 made.2)

  pieces_stable : (ss : MapSections) (pieces : List Piece)
      → InEachSection (λ l. AreInOrder (held l).tokens) (λ ss. Unit {0}) ss → AreFlattened ss pieces
      → IsStableByKey entry_position position_cmp (flat_lists ss) (flat_map absolute_meaning pieces)
  pieces_stable no_sections pieces ordered made =
      subst (λ ps. IsStableByKey entry_position position_cmp [] (flat_map absolute_meaning ps)) (sym made) (λ a. refl)
  pieces_stable (hollow head rest) pieces ordered made = absurd made
  pieces_stable (filled head t rest) pieces ordered (m, more, is, flat_is, made) =
      let here : map (absolute_entry (offset_of head)) (token_meanings m)
      ≡ by_position (map (absolute_entry (offset_of head)) (flat_list t)) =
      ap (map (absolute_entry (offset_of head))) (flat_says t m ordered.0 flat_is)
      ∙ sym (by_position-absolute_position (offset_of head) (flat_list t)) in
      subst (λ ps. IsStableByKey entry_position position_cmp (flat_lists (filled head t rest))
      (flat_map absolute_meaning ps)) (sym is)
      (stable_append entry_position position_cmp_total (map (absolute_entry (offset_of head)) (flat_list t))
      (absolute_meaning (offset_of head, m)) (flat_lists rest) (flat_map absolute_meaning more)
      (subst (λ es. IsStableByKey entry_position position_cmp (map (absolute_entry (offset_of head)) (flat_list t)) es)
      (sym here)
      (stable-sorted_by entry_position position_cmp_total (map (absolute_entry (offset_of head)) (flat_list t))))
      (pieces_stable rest more ordered.1 made))

-- The flattened map of a well-formed map is well-formed.

held_well : (l : LeafMap) → IsWellFormedLeaf l → IsWellFormedRegular (held l)
held_well (regular m) well = well
held_well (hermes h) well = well.map

mutual
  pub flat_well : (t : MapTree) (m : MapValue) → IsWellFormed t → flat t ≡ Ok m → IsWellFormedRegular m
  flat_well (leaf l) m well e = let same : held l ≡ m = cc in subst IsWellFormedRegular same (held_well l well)
  flat_well (index parts ss) m well e =
      let made = index_flattened parts ss m e in
      subst IsWellFormedRegular (sym made.1)
      (well_merged parts.file made.0 made.3 (pieces_well ss made.0 well.1 made.2))

  pieces_well : (ss : MapSections) (pieces : List Piece) → InEachSection IsWellFormedLeaf AreWellFormedSections ss
      → AreFlattened ss pieces
      → AllByRecursion (λ piece. IsWellFormedRegular piece.1) pieces
  pieces_well no_sections pieces well made =
      subst (AllByRecursion (λ (piece : Piece). IsWellFormedRegular piece.1)) (sym made) tt
  pieces_well (hollow head rest) pieces well made = absurd made
  pieces_well (filled head t rest) pieces well (m, more, is, flat_is, made) =
      subst (AllByRecursion (λ (piece : Piece). IsWellFormedRegular piece.1)) (sym is)
      (flat_well t m well.0 flat_is, pieces_well rest more well.1 made)

-- Let a map be orderly, let its tokens be sorted, and let the map flatten without an error. If a position has a meaning
-- in the map, the position has the same meaning in the flattened map.

pub flat_answers : (t : MapTree) (m : MapValue) → HasTokensInOrder t → IsOrderly t → flat t ≡ Ok m → AnswersLike t m
flat_answers t m ordered orderly e p = by_case (meaning t p) refl
  where
    by_case : (o : Option Meaning) → meaning t p ≡ o → IfSome o (λ says. meaning_regular m p ≡ Some says)
    by_case None h = tt
    by_case (Some says) h = meaning_in m p ∙ ap (λ es. answer_in es p) (flat_says t m ordered e)
        ∙ flat_list_answers t ordered orderly p says h
