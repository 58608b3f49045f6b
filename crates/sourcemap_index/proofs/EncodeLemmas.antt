-- Sections are written one by one.
use Rattle.std.proofs.Common.{◌≡◌, refl, ℕ, Vec, Global, List, [], ◌∷◌, ◌++◌, Option, Some, None, MatchOption, Result, Ok, Err, IfOk}
use Rattle.sourcemap_errors.specs.Answer.{IsAnswer}
use Rattle.sourcemap_errors.specs.declared.errors.Error.{Error}
use Rattle.sourcemap_records.specs.declared.jsontypes.RawSourceMap.{RawSourceMap}
use Rattle.sourcemap_map_regular.specs.Map.{MapValue}
use Rattle.sourcemap_map_regular.specs.Encode.{ReadsBack, RecordAnswer as RecordAnswerRegular}
use Rattle.sourcemap_map_regular.specs.Write.{IsEncoded}
use Rattle.sourcemap_hermes.specs.Map.{HermesValue}
use Rattle.sourcemap_hermes.specs.Encode.{RecordAnswer as RecordAnswerHermes}
use Rattle.sourcemap_index_model.specs.Decode.{TreeDecodes}
use Rattle.sourcemap_index_model.specs.WellFormed.{IsWellFormed}
use Rattle.sourcemap_index_model.proofs.EncodeLemmas.{tree_answer}
use Rattle.sourcemap_records.specs.Jsontypes.{Tree, Section, section_with, sections_from, AreSectionsInRange, IsSectionInRange, IsFine, tree}
use Rattle.sourcemap_index_model.specs.Encode.{IsLeafAnswer, IsWrittenBy, AreWrittenBy, RecordAnswer, Restores}
use Rattle.sourcemap_index_model.specs.MapTree.{MapTree, leaf, regular, hermes, MapSection, section_with as map_with, sections_from as maps_from}
use Rattle.sourcemap_index.specs.Encode.{SectionIsWritten, MapWrites}

-- as many records as sections, and each section is written as the record at the same index
abbrev pub ArePairs : List MapSection → List Section → Type 0
ArePairs [] [] = Unit {0}
ArePairs (s ∷ ss) (r ∷ rs) = SectionIsWritten s r × ArePairs ss rs
ArePairs _ _ = ⊥

pub pairs_more : (ss : List MapSection) (rs : List Section) (s : MapSection) (r : Section) → ArePairs ss rs
    → SectionIsWritten s r → ArePairs (ss ++ s ∷ []) (rs ++ r ∷ [])
pairs_more [] [] s r pairs one = (one, tt)
pairs_more [] (r' ∷ rs) s r pairs one = absurd pairs
pairs_more (s' ∷ ss) [] s r pairs one = absurd pairs
pairs_more (s' ∷ ss) (r' ∷ rs) s r pairs one = (pairs.0, pairs_more ss rs s r pairs.1 one)

pub pairs_written : (ss : List MapSection) (rs : List Section) → ArePairs ss rs
    → AreWrittenBy IsLeafAnswer (maps_from ss) (sections_from rs)
pairs_written [] [] pairs = refl
pairs_written [] (r ∷ rs) pairs = absurd pairs
pairs_written (s ∷ ss) [] pairs = absurd pairs
pairs_written (s ∷ ss) (r ∷ rs) pairs = by_case s.map pairs.0.2 (pairs_written ss rs pairs.1)
  where
    by_case : (m : Option MapTree)
        → MatchOption m (r.map ≡ None) (λ t. (q : Tree) × (r.map ≡ Some q) × IsWrittenBy IsLeafAnswer t q)
        → AreWrittenBy IsLeafAnswer (maps_from ss) (sections_from rs)
        → AreWrittenBy IsLeafAnswer (map_with s.head m (maps_from ss)) (section_with r.head r.map (sections_from rs))
    by_case None is rest = (sections_from rs, rw (pairs.0.0, is), rest)
    by_case (Some t) (q, is, written) rest = (q, sections_from rs, rw (pairs.0.0, is), written, rest)

pub pairs_in_range : (ss : List MapSection) (rs : List Section) → ArePairs ss rs → AreSectionsInRange (sections_from rs)
pairs_in_range [] [] pairs = tt
pairs_in_range [] (r ∷ rs) pairs = absurd pairs
pairs_in_range (s ∷ ss) [] pairs = absurd pairs
pairs_in_range (s ∷ ss) (r ∷ rs) pairs = by_case r.map pairs.0.1 (pairs_in_range ss rs pairs.1)
  where
    by_case : (m : Option Tree) → IsSectionInRange (record { head = r.head; map = m })
        → AreSectionsInRange (sections_from rs) → AreSectionsInRange (section_with r.head m (sections_from rs))
    by_case None h rest = (h.0, rest)
    by_case (Some t) h rest = (h.0, h.1, rest)

-- the clauses of `as_raw_sourcemap` hold for every result that `MapWrites` allows
pub record_answer : (t : MapTree) (r : Result RawSourceMap Error) → IsAnswer tree (MapWrites t) r
    → IsAnswer tree (RecordAnswer t) r
record_answer t (Ok raw) h = tree_answer t (tree raw) h.0 h.1
record_answer t (Err e) h = h

pub answer_fine : (t : MapTree) (r : Result RawSourceMap Error) → IsAnswer tree (MapWrites t) r
    → IfOk r (λ raw. IsFine (tree raw))
answer_fine t (Ok raw) h = (tree_answer t (tree raw) h.0 h.1).1
answer_fine t (Err e) h = tt

pub answer_back : (t : MapTree) (r : Result RawSourceMap Error) → IsAnswer tree (MapWrites t) r
    → IfOk r (λ raw. IsWellFormed t → ReadsBack (TreeDecodes (tree raw)) (Restores t))
answer_back t (Ok raw) h = (tree_answer t (tree raw) h.0 h.1).2
answer_back t (Err e) h = tt

-- the text of a regular map, or of a Hermes map, is its text as a map of any kind
pub regular_text : (m : MapValue) (r : Result (Vec ℕ Global) Error)
    → IfOk r (λ text. IsEncoded (RecordAnswerRegular m) text.items)
    → IfOk r (λ text. IsEncoded (RecordAnswer (leaf (regular m))) text.items)
regular_text m (Ok text) (t, is, written) = (t, tree_answer (leaf (regular m)) t is is.1.0, written)
regular_text m (Err e) h = tt

pub hermes_text : (h : HermesValue) (r : Result (Vec ℕ Global) Error)
    → IfOk r (λ text. IsEncoded (RecordAnswerHermes h) text.items)
    → IfOk r (λ text. IsEncoded (RecordAnswer (leaf (hermes h))) text.items)
hermes_text h (Ok text) (t, is, written) = (t, tree_answer (leaf (hermes h)) t is is.1.0, written)
hermes_text h (Err e) none = tt
