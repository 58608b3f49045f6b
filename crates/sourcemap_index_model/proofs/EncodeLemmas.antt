-- A map is written as at most one record. The record of a well-formed map decodes to a map that restores the written
-- map (`Restores`).
use Rattle.std.proofs.Common.{◌≡◌, ◌≢◌, refl, sym, ap, subst, ◌∙◌, ℕ, ◌≤◌, List, [], ◌∷◌, length, map, false, Option, Some, None, option_map, option_and_then, nat_lt, Ok, inl, arith}
use Rattle.std.proofs.lemmas.Bool.Decides.{nat_tests}
use Rattle.serde_json.specs.Data.{null, string}
use Rattle.sourcemap_tokens.proofs.SearchLemmas.{closest_item-change}
use Rattle.sourcemap_tokens.proofs.SortLemmas.{sorted_by-sorted}
use Rattle.sourcemap_tokens.proofs.TokensLemmas.{position_cmp_total}
use Rattle.sourcemap_tokens.specs.Search.{closest_item}
use Rattle.sourcemap_tokens.specs.Tokens.{position_cmp}
use Rattle.sourcemap_records.specs.Jsontypes.{Tree, plain, indexed, flat, Sections, bare, mapped, SectionHead, IsInRange, HasNoNullFile, HaveNoNullFile}
use Rattle.sourcemap_map_regular.proofs.EncodeLemmas.{read_file}
use Rattle.sourcemap_map_regular.proofs.WriteLemmas.{record_once}
use Rattle.sourcemap_map_regular.specs.Decode.{RecordDecodes}
use Rattle.sourcemap_map_regular.specs.Encode.{ReadsBack, record_with}
use Rattle.sourcemap_map_regular.specs.Map.{Meaning, says}
use Rattle.sourcemap_hermes.proofs.EncodeLemmas.{scoped_once}
use Rattle.sourcemap_hermes.specs.Decode.{HermesDecodes}
use Rattle.sourcemap_hermes.specs.Encode.{scoped, with_scopes}
use Rattle.sourcemap_index_model.specs.Decode.{TreeDecodes, SectionsDecode, count, by_offset, index_parts, index_of}
use Rattle.sourcemap_index_model.specs.Encode.{index_fields, IsWrittenBy, AreWrittenBy, IsLeafRecord, IsLeafAnswer, IsRecordOf, KeepSections, Restores, RecordAnswer}
use Rattle.sourcemap_index_model.specs.MapTree.{LeafMap, regular, hermes, IndexParts, MapTree, leaf, index, MapSections, no_sections, hollow, filled, offset_of, MapSection, section_offset, section_list, sections_from, InEachSection}
use Rattle.sourcemap_index_model.specs.Meaning.{relative_position, closest_answer, lookups, meaning}
use Rattle.sourcemap_index_model.specs.WellFormed.{IsWellFormed, IsWellFormedLeaf, AreSectionsInOrder, AreWellFormedSections}
use Rattle.sourcemap_index_model.proofs.ApartLemmas.{SectionLookup}
use Rattle.sourcemap_index_model.proofs.SortLemmas.{sorted-of_keys}

-- A map is written as at most one record.

module _ (IsOf : LeafMap → Tree → Type 0) (once : (l : LeafMap) (a b : Tree) → IsOf l a → IsOf l b → a ≡ b) where
  mutual
    written_once : (t : MapTree) (a b : Tree) → IsWrittenBy IsOf t a → IsWrittenBy IsOf t b → a ≡ b
    written_once (leaf l) a b h k = once l a b h k
    written_once (index parts ss) a b (xs, is, all) (ys, is', all') =
        is ∙ ap (indexed (index_fields parts)) (sections_written_once ss xs ys all all') ∙ sym is'

    sections_written_once : (ss : MapSections) (a b : Sections) → AreWrittenBy IsOf ss a → AreWrittenBy IsOf ss b
        → a ≡ b
    sections_written_once no_sections a b h k = h ∙ sym k
    sections_written_once (hollow head rest) a b (xs, is, all) (ys, is', all') =
        is ∙ ap (bare head) (sections_written_once rest xs ys all all') ∙ sym is'
    sections_written_once (filled head t rest) a b (r, xs, is, of, all) (r', ys, is', of', all') =
        is ∙ (λ i. mapped head (written_once t r r' of of' i) (sections_written_once rest xs ys all all' i)) ∙ sym is'

leaf_written_once : (l : LeafMap) (a b : Tree) → IsLeafRecord l a → IsLeafRecord l b → a ≡ b
leaf_written_once (regular m) a b h k = record_once m a b h k
leaf_written_once (hermes m) a b h k = scoped_once m a b h k

pub tree_written_once : (t : MapTree) (a b : Tree) → IsRecordOf t a → IsRecordOf t b → a ≡ b
tree_written_once t a b h k = written_once _ leaf_written_once t a b h k

module _ {IsOf IsOf' : LeafMap → Tree → Type 0} (weaker : (l : LeafMap) (r : Tree) → IsOf l r → IsOf' l r) where
  mutual
    pub written-weaker : (t : MapTree) (r : Tree) → IsWrittenBy IsOf t r → IsWrittenBy IsOf' t r
    written-weaker (leaf l) r h = weaker l r h
    written-weaker (index parts ss) r (xs, is, all) = (xs, is, sections_written-weaker ss xs all)

    sections_written-weaker : (ss : MapSections) (written : Sections) → AreWrittenBy IsOf ss written
        → AreWrittenBy IsOf' ss written
    sections_written-weaker no_sections written h = h
    sections_written-weaker (hollow head rest) written (xs, is, all) = (xs, is, sections_written-weaker rest xs all)
    sections_written-weaker (filled head t rest) written (r, xs, is, of, all) =
        (r, xs, is, written-weaker t r of, sections_written-weaker rest xs all)

-- In the record of a map, the key `file` never has the value null.

file_not_null : (file : Option (List ℕ)) → option_map string file ≢ Some null
file_not_null None e = cc
file_not_null (Some f) e = cc

module _ {IsOf : LeafMap → Tree → Type 0} (fine : (l : LeafMap) (r : Tree) → IsOf l r → HasNoNullFile r) where
  mutual
    written_no_null : (t : MapTree) (r : Tree) → IsWrittenBy IsOf t r → HasNoNullFile r
    written_no_null (leaf l) r h = fine l r h
    written_no_null (index parts ss) r (xs, is, all) =
        subst HasNoNullFile (sym is) (file_not_null parts.file, sections_no_null ss xs all)

    sections_no_null : (ss : MapSections) (written : Sections) → AreWrittenBy IsOf ss written → HaveNoNullFile written
    sections_no_null no_sections written h = subst HaveNoNullFile (sym h) tt
    sections_no_null (hollow head rest) written (xs, is, all) =
        subst HaveNoNullFile (sym is) (sections_no_null rest xs all)
    sections_no_null (filled head t rest) written (r, xs, is, of, all) =
        subst HaveNoNullFile (sym is) (written_no_null t r of, sections_no_null rest xs all)

-- The meaning of a position in an index map is the meaning that the closest section gives to the position.

abbrev Answering : Type 0
Answering = (ℕ × ℕ) × (ℕ × ℕ → Option Meaning)

abbrev answering : SectionLookup → Answering
answering s = (s.0, λ p. option_map says (s.1 p))

meanings : MapSections → List Answering
meanings ss = map answering (lookups ss)

meaning_by_sections : (parts : IndexParts) (ss : MapSections) (p : ℕ × ℕ)
    → meaning (index parts ss) p ≡ closest_answer (meanings ss) p
unfolding meanings
meaning_by_sections parts ss p =
    through (closest_item (λ (s : SectionLookup). s.0) position_cmp (lookups ss) p)
    ∙ ap (option_and_then (λ (s : Answering). s.1 (relative_position s.0 p)))
    (sym (closest_item-change (λ (s : SectionLookup). s.0) (λ (s : Answering). s.0) position_cmp answering
    (λ s. refl) (lookups ss) p))
  where
    through : (o : Option SectionLookup) → option_map says
        (option_and_then (λ (s : SectionLookup). s.1 (relative_position s.0 p)) o)
        ≡ option_and_then (λ (s : Answering). s.1 (relative_position s.0 p)) (option_map answering o)
    through None = refl
    through (Some s) = refl

-- Reading back, level by level.

-- the decoded sections `backs` have the offsets, the parts and the meanings of the written sections `ss`
record AreBack (backs : List MapSection) (ss : MapSections) : Type 0 where
  offsets : map section_offset backs ≡ map section_offset (section_list ss)
  kept : KeepSections (sections_from backs) ss
  meant : meanings (sections_from backs) ≡ meanings ss

few_left : (n : ℕ) → n ≤ 4294967295 → nat_lt 4294967295 n ≡ false
few_left n few = grind (arith, nat_tests)

counted : (IsOf : LeafMap → Tree → Type 0) (ss : MapSections) (written : Sections) → AreWrittenBy IsOf ss written
    → count written ≡ length (section_list ss)
counted IsOf no_sections written h = ap count h
counted IsOf (hollow head rest) written (xs, is, all) =
    let later = counted IsOf rest xs all in ap count is ∙ omega arith
counted IsOf (filled head t rest) written (r, xs, is, of, all) =
    let later = counted IsOf rest xs all in ap count is ∙ omega arith

leaf_back : (l : LeafMap) (r : Tree) → IsLeafAnswer l r → IsWellFormedLeaf l
    → ReadsBack (TreeDecodes r) (Restores (leaf l))
leaf_back (regular m) r ((mappings, ranges, texts, bits, is), fine, reads) well =
    let back = reads well in
    let decodes : RecordDecodes (record_with m mappings ranges) (Ok back.0) =
    subst (λ r. RecordDecodes r (Ok back.0)) (ap flat is) back.1 in (
      leaf (regular back.0),
      subst (λ r. TreeDecodes r (Ok (leaf (regular back.0)))) (sym is)
          (inl (back.0, decodes, refl)),
      (back.2.0, back.2),
    )
leaf_back (hermes h) r ((q, (mappings, ranges, texts, bits, is), with_them), fine, reads) well =
    let back = reads well in
    let whole : r ≡ scoped (plain (record_with h.map mappings ranges)) h.scopes.entries =
    with_them ∙ ap (λ q. scoped q h.scopes.entries) is in
    let decodes : HermesDecodes (with_scopes (record_with h.map mappings ranges) h.scopes.entries) (Ok back.0) =
    subst (λ r. HermesDecodes r (Ok back.0)) (ap flat whole) back.1 in (
      leaf (hermes back.0),
      subst (λ r. TreeDecodes r (Ok (leaf (hermes back.0)))) (sym whole)
          (inl (back.0, decodes, refl)),
      (back.2.0.0, back.2),
    )

index_back : (parts : IndexParts) (ss : MapSections) (written : Sections) (backs : List MapSection)
    → count written ≤ 4294967295 → AreSectionsInOrder ss
    → SectionsDecode written (Ok backs) → AreBack backs ss
    → ReadsBack (TreeDecodes (indexed (index_fields parts) written)) (Restores (index parts ss))
index_back parts ss written backs few ordered decodes back =
    let sorted : by_offset backs ≡ backs = sorted_by-sorted section_offset position_cmp_total backs
    (sorted-of_keys section_offset position_cmp_total backs (section_list ss) back.offsets ordered) in
    let same : sections_from (by_offset backs) ≡ sections_from backs = ap sections_from sorted in
    let whole : MapTree = index_of (index_fields parts) backs in
    let few' : nat_lt 4294967295 (count written) ≡ false = few_left (count written) few in (
      whole,
      rw few' (inl (backs, decodes, refl)),
      (
        λ p. meaning_by_sections (index_parts (index_fields parts)) (sections_from (by_offset backs)) p
            ∙ ap (λ ss. closest_answer (meanings ss) p) same
            ∙ ap (λ sections. closest_answer sections p) back.meant
            ∙ sym (meaning_by_sections parts ss p),
        (parts_back parts, subst (λ ss'. KeepSections ss' ss) (sym same) back.kept),
      ),
    )
  where
    parts_back : (parts : IndexParts) → index_parts (index_fields parts) ≡ parts
    parts_back parts = λ i. record parts { file = read_file parts.file i }

abbrev BackFrom : MapSections → Sections → Type 0
BackFrom ss written = (backs : List MapSection) × SectionsDecode written (Ok backs) × AreBack backs ss

hollow_back : (head : SectionHead) (rest : MapSections) (written more : Sections) → written ≡ bare head more
    → BackFrom rest more → BackFrom (hollow head rest) written
unfolding meanings
hollow_back head rest written more is (backs, decodes, back) = (
  record { head = head; map = None } ∷ backs,
  subst (λ w. SectionsDecode w (Ok (record { head = head; map = None } ∷ backs))) (sym is) (inl (backs, decodes, refl)),
  record {
    offsets = ap (λ os. offset_of head ∷ os) back.offsets;
    kept = (refl, back.kept);
    meant = ap (λ ms. (offset_of head, λ p. None) ∷ ms) back.meant;
  },
)

filled_back : (head : SectionHead) (t : MapTree) (rest : MapSections) (written : Sections) (r : Tree) (more : Sections)
    → written ≡ mapped head r more
    → ReadsBack (TreeDecodes r) (Restores t) → BackFrom rest more → BackFrom (filled head t rest) written
unfolding meanings
filled_back head t rest written r more is (one, reads, (means, keeps)) (backs, decodes, back) = (
  record { head = head; map = Some one } ∷ backs,
  subst (λ w. SectionsDecode w (Ok (record { head = head; map = Some one } ∷ backs))) (sym is)
      (inl (one, reads, inl (backs, decodes, refl))),
  record {
    offsets = ap (λ os. offset_of head ∷ os) back.offsets;
    kept = (refl, keeps, back.kept);
    meant = λ i. (offset_of head, λ p. means p i) ∷ back.meant i;
  },
)

mutual
  tree_back : (t : MapTree) (r : Tree) → IsWrittenBy IsLeafAnswer t r → IsWellFormed t
      → ReadsBack (TreeDecodes r) (Restores t)
  tree_back (leaf l) r h well = leaf_back l r h well
  tree_back (index parts ss) r (xs, is, all) well =
      let many = counted IsLeafAnswer ss xs all in
      let back = sections_back ss xs all well.1 in
      subst (λ r. ReadsBack (TreeDecodes r) (Restores (index parts ss))) (sym is)
      (index_back parts ss xs back.0 (omega (arith, many, well.0.0)) well.0.1 back.1 back.2)

  sections_back : (ss : MapSections) (written : Sections) → AreWrittenBy IsLeafAnswer ss written
      → InEachSection IsWellFormedLeaf AreWellFormedSections ss
      → (backs : List MapSection) × SectionsDecode written (Ok backs) × AreBack backs ss
  sections_back no_sections written h well =
      ([], subst (λ w. SectionsDecode w (Ok [])) (sym h) refl, record { offsets = refl; kept = tt; meant = refl })
  sections_back (hollow head rest) written (xs, is, all) well =
      hollow_back head rest written xs is (sections_back rest xs all well)
  sections_back (filled head t rest) written (r, xs, is, of, all) well =
      filled_back head t rest written r xs is (tree_back t r of well.0) (sections_back rest xs all well.1)

leaf_record : (l : LeafMap) (r : Tree) → IsLeafAnswer l r → IsLeafRecord l r
leaf_record (regular m) r h = h.0
leaf_record (hermes m) r h = h.0

leaf_no_null : (l : LeafMap) (r : Tree) → IsLeafAnswer l r → HasNoNullFile r
leaf_no_null (regular m) r h = h.1.1
leaf_no_null (hermes m) r h = h.1.1

pub tree_answer : (t : MapTree) (r : Tree) → IsWrittenBy IsLeafAnswer t r → IsInRange r → RecordAnswer t (Ok r)
tree_answer t r h small =
    (written-weaker leaf_record t r h, (small, written_no_null leaf_no_null t r h), tree_back t r h)
