-- The sections of an index, gathered one after another.
use Rattle.std.proofs.Common.{◌≡◌, refl, sym, ap, subst, ◌∙◌, ℕ, ◌+◌, ◌<◌, ◌≤◌, arith, map, length, take, drop, get_or, slice_get, option_map, OnOk, List, [], ◌∷◌, ◌++◌, Option, Some, None, Result, Ok, Err, IfOk, IfSome}
use Rattle.std.specs.List.{AllByRecursion}
use Rattle.std.proofs.lemmas.List.{length-map, map_more, drop_more, drop_all, take_all}
use Rattle.std.proofs.lemmas.Option.{slice_get-map, slice_get_read, get_or_from_slice_get}
use Rattle.sourcemap_errors.specs.Answer.{UnlessMemory, Gives, IsAnswer}
use Rattle.sourcemap_errors.specs.declared.errors.Error.{Error}
use Rattle.sourcemap_errors.specs.declared.errors.Error.TheVariants.{CannotFlatten}
use Rattle.sourcemap_errors.proofs.AnswerLemmas.{UnlessMemory-weaker}
use Rattle.sourcemap_map_regular.specs.Map.{MapValue, Meaning, MeansTheSame, meaning as meaning_regular}
use Rattle.sourcemap_map_regular.specs.Rewrite.{Removal, without_removed, MeansLess}
use Rattle.sourcemap_map_regular.specs.declared.map.SourceMap.{SourceMap}
use Rattle.sourcemap_index_model.specs.MapTree.{held, MapTree, MapSection, IndexValue, index_tree, section_with, sections_from, offset_of}
use Rattle.sourcemap_tokens.specs.Tokens.{AreInOrder}
use Rattle.sourcemap_index_model.specs.WellFormed.{HasTokensInOrder}
use Rattle.sourcemap_index_model.proofs.MapTreeLemmas.{each_section}
use Rattle.sourcemap_index_model.specs.Flat.{AnswersLike, Piece, flat, FlatAnswer, merged, on_ok, pieces_after, with_piece}
use Rattle.sourcemap_index_model.specs.Meaning.{meaning}
use Rattle.sourcemap_index_flatten.specs.Errors.{GivesReason}
use Rattle.sourcemap_index_flatten.specs.Gathering.{Gathers, GathersMore, RefusesFor}
use Rattle.sourcemap_index_flatten.specs.declared.gathering.Gathering.{Gathering}
use Rattle.sourcemap_index.specs.Flatten.{map_added, section_map_added, section_added, AnswersLess, Gathered, IsSectionInOrder}
use Rattle.sourcemap_index.specs.Family.{section_value}
use Rattle.sourcemap_index.specs.declared.family.SourceMapSection.{SourceMapSection}
use Rattle.sourcemap_index.proofs.LookupLemmas.{indexes, indexes_below}

-- ---- one map

-- an index is added as one piece, the concatenation of its own pieces
pub index_added : (v : IndexValue) (before : List Piece) (offset : ℕ × ℕ) (pieces : List Piece)
    → pieces_after [] (sections_from v.sections) ≡ Ok pieces
    → map_added before offset (index_tree v) ≡ with_piece before (offset, merged v.parts.file pieces)
index_added v before offset pieces due =
    ap (λ r. on_ok (on_ok r (λ pieces. Ok (merged v.parts.file pieces))) (λ m. with_piece before (offset, m))) due

pub index_refused : (v : IndexValue) (before : List Piece) (offset : ℕ × ℕ) (e : Error)
    → RefusesFor (pieces_after [] (sections_from v.sections)) e
    → RefusesFor (map_added before offset (index_tree v)) e
index_refused v before offset e refused =
    UnlessMemory-weaker e (λ h. (
      h.0,
      ap (λ r.
          on_ok (on_ok r (λ pieces. Ok (merged v.parts.file pieces))) (λ m. with_piece before (offset, m))) h.1,
      h.2,
    ))
    refused

pub gathered-more : (due : Result (List Piece) (List ℕ)) (before : List Piece) (piece : Piece) (g : Gathering)
    → due ≡ with_piece before piece → GathersMore before piece g → Gathered due g
gathered-more due before piece g is more = (before ++ piece ∷ [], is ∙ more.due, more.gathered)

-- ---- all sections

pieces-next : (before : List Piece) (s : MapSection) (rest : List MapSection)
    → pieces_after before (sections_from (s ∷ rest))
    ≡ on_ok (section_added before s) (λ pieces. pieces_after pieces (sections_from rest))
pieces-next before s rest = by_map s.map
  where
    by_flat : (r : Result MapValue (List ℕ)) → on_ok r
        (λ m. on_ok (with_piece before (offset_of s.head, m)) (λ pieces. pieces_after pieces (sections_from rest)))
        ≡ on_ok (on_ok r (λ m. with_piece before (offset_of s.head, m)))
        (λ pieces. pieces_after pieces (sections_from rest))
    by_flat (Ok m) = refl
    by_flat (Err e) = refl

    by_map : (m : Option MapTree) → pieces_after before (section_with s.head m (sections_from rest))
        ≡ on_ok (section_map_added before s.head m) (λ pieces. pieces_after pieces (sections_from rest))
    by_map None = refl
    by_map (Some t) = by_flat (flat t)

-- adding the sections in `rest` to the pieces gathered in `g` gives the same pieces, or the same error, as adding the
-- sections in `all` to no pieces
abbrev pub SoFar : (all rest : List MapSection) → Gathering → Type 0
SoFar all rest g = (pieces : List Piece)
    × (pieces_after [] (sections_from all) ≡ pieces_after pieces (sections_from rest)) × Gathers pieces g

pub so_far-more : (all : List MapSection) (s : MapSection) (rest : List MapSection) (old new : Gathering)
    → SoFar all (s ∷ rest) old
    → ((before : List Piece) → Gathers before old → Gathered (section_added before s) new) → SoFar all rest new
so_far-more all s rest old new so_far adds =
    let added = adds so_far.0 so_far.2 in (
      added.0,
      so_far.1 ∙ pieces-next so_far.0 s rest
          ∙ ap (λ r. on_ok r (λ pieces. pieces_after pieces (sections_from rest))) added.1,
      added.2,
    )

pub so_far-refused : (all : List MapSection) (s : MapSection) (rest : List MapSection) (old : Gathering) (e : Error)
    → SoFar all (s ∷ rest) old
    → ((before : List Piece) → Gathers before old → RefusesFor (section_added before s) e)
    → RefusesFor (pieces_after [] (sections_from all)) e
so_far-refused all s rest old e so_far refuses =
    UnlessMemory-weaker e (λ h. (
      h.0,
      so_far.1 ∙ pieces-next so_far.0 s rest
          ∙ ap (λ r. on_ok r (λ pieces. pieces_after pieces (sections_from rest))) h.1,
      h.2,
    ))
    (refuses so_far.0 so_far.2)

-- ---- the answer

pub answer-made : (v : IndexValue) (file : Option (List ℕ)) (pieces : List Piece) (result : Result SourceMap Error)
    → file ≡ v.parts.file → pieces_after [] (sections_from v.sections) ≡ Ok pieces
    → Gives (λ m. m) result (Ok (merged file pieces)) → IsAnswer (λ m. m) (FlatAnswer (index_tree v)) result
answer-made v file pieces (Ok m) same due gives =
    let made : merged file pieces ≡ m = cc in
    ap (λ r. on_ok r (λ pieces. Ok (merged v.parts.file pieces))) due ∙ ap (λ f. Ok (merged f pieces)) (sym same)
    ∙ ap Ok made
answer-made v file pieces (Err e) same due gives = UnlessMemory-weaker e (λ h. cc) gives

refusal-due : (t : MapTree) (reason : List ℕ) (e : Error) → flat t ≡ Err reason → GivesReason reason e
    → FlatAnswer t (Err e)
refusal-due t reason (CannotFlatten text) due says = due ∙ ap Err (sym says)
refusal-due t reason _ due says = says

pub answer-refused : (v : IndexValue) (e : Error) → RefusesFor (pieces_after [] (sections_from v.sections)) e
    → UnlessMemory e (FlatAnswer (index_tree v) (Err e))
answer-refused v e refused =
    UnlessMemory-weaker e (λ h. refusal-due (index_tree v) h.0 e
    (ap (λ r. on_ok r (λ pieces. Ok (merged v.parts.file pieces))) h.1) h.2) refused

pub flat-if_ok : (t : MapTree) (result : Result SourceMap Error) (P : MapValue → Type 0)
    → IsAnswer (λ m. m) (FlatAnswer t) result → ((m : MapValue) → flat t ≡ Ok m → P m) → IfOk result (λ m. P m)
flat-if_ok t (Ok m) P answer all = all m answer
flat-if_ok t (Err e) P answer all = tt

-- ---- how many indexes a section holds

abbrev pub map_indexes : Option MapTree → ℕ
map_indexes None = 0
map_indexes (Some t) = indexes t

abbrev pub section_indexes : MapSection → ℕ
section_indexes s = map_indexes s.map

pub section_below : (v : IndexValue) (k : ℕ) (s : MapSection) → slice_get v.sections k ≡ Some s
    → section_indexes s < indexes (index_tree v)
section_below v k s at = by_map s.map refl
  where
    by_map : (m : Option MapTree) → s.map ≡ m → map_indexes m < indexes (index_tree v)
    by_map None is = omega arith
    by_map (Some t) is = indexes_below v s t (k, at) is

-- ---- the loop over the sections of an index

module _ (items : List SourceMapSection) (i : ℕ) (item : SourceMapSection) (within : i < length items)
    (is : item ≡ get_or items i item) where
  pub item-at : slice_get (map section_value items) i ≡ Some (section_value item)
  item-at = slice_get-map section_value items i
      ∙ ap (option_map section_value) (slice_get_read items (length items) i item refl within is)

  pub item-next : drop i (map section_value items) ≡ section_value item ∷ drop (i + 1) (map section_value items)
  item-next =
      let many : length (map section_value items) ≡ length items = length-map items section_value in
      let here : get_or (map section_value items) i (section_value item) ≡ section_value item =
      get_or_from_slice_get (map section_value items) i (section_value item) (section_value item) item-at in
      drop_more (map section_value items) i (section_value item) (omega (arith, many, within))
      ∙ ap (λ s. s ∷ drop (i + 1) (map section_value items)) here

  pub items-taken : map section_value (take (i + 1) items) ≡ map section_value (take i items) ++ section_value item ∷ []
  items-taken = map_more section_value items i item within
      ∙ ap (λ s. map section_value (take i items) ++ section_value s ∷ []) (sym is)

pub on_ok_then : {T E P Q : Type 0} (r : Result T E) → (P → Q) → OnOk r P → OnOk r Q
on_ok_then (Ok x) f h = f h
on_ok_then (Err e) f h = tt

pub if_ok_any : {T E P : Type 0} (r : Result T E) → P → IfOk r (λ x. P)
if_ok_any (Ok x) h = h
if_ok_any (Err e) h = tt

pub if_ok_then : {T E : Type 0} {P Q : T → Type 0} (r : Result T E) → ((x : T) → P x → Q x) → IfOk r P → IfOk r Q
if_ok_then (Ok x) f h = f x h
if_ok_then (Err e) f h = tt

-- after the last section none is left
pub none-left : (items : List SourceMapSection) (i : ℕ) → length items ≤ i → drop i (map section_value items) ≡ []
none-left items i past = drop_all i (map section_value items)
    (let many : length (map section_value items) ≡ length items = length-map items section_value in
    omega (arith, many, past))

pub in_order-all : (v : IndexValue) (items : List SourceMapSection) (i : ℕ) → length items ≤ i
    → map section_value items ≡ v.sections
    → AllByRecursion IsSectionInOrder (map section_value (take i items)) → HasTokensInOrder (index_tree v)
in_order-all v items i past same all = (
  tt,
  each_section (λ l. AreInOrder (held l).tokens) (λ ss. Unit {0}) v.sections
      (subst (AllByRecursion IsSectionInOrder) (ap (map section_value) (take_all i items past) ∙ same) all),
)

-- ---- flattened and rewritten

module _ (t : MapTree) (whole new : MapValue) (like : AnswersLike t whole) where
  pub answers_less : (removal : Removal) → flat t ≡ Ok whole → MeansLess removal whole new → AnswersLess removal t new
  answers_less removal is less = (whole, is, λ p. at p (meaning t p) (like p))
    where
      at : (p : ℕ × ℕ) (found : Option Meaning) → IfSome found (λ says. meaning_regular whole p ≡ Some says)
          → IfSome found (λ says. meaning_regular new p ≡ Some (without_removed removal whole says))
      at p None h = tt
      at p (Some says) h = less p ∙ ap (option_map (without_removed removal whole)) h

  pub answers_alike : MeansTheSame new whole → AnswersLike t new
  answers_alike same = λ p. at p (meaning t p) (like p)
    where
      at : (p : ℕ × ℕ) (found : Option Meaning) → IfSome found (λ says. meaning_regular whole p ≡ Some says)
          → IfSome found (λ says. meaning_regular new p ≡ Some says)
      at p None h = tt
      at p (Some says) h = same p ∙ h
