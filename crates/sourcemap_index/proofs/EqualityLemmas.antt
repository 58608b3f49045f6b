-- The tests decide whether sections, and indexes, are equal.
use Rattle.std.proofs.Common.{◌≡◌, refl, sym, ap, ◌∙◌, true, false, ◌&&◌, List, [], ◌∷◌, Option, Some, None}
use Rattle.std.specs.Bool.{Decides}
use Rattle.std.specs.Option.{option_eq}
use Rattle.std.specs.Cmp.Lexicographic.{pointwise}
use Rattle.std.proofs.Math.Bool.{and_assoc, and-false, and-true}
use Rattle.sourcemap_records.specs.Jsontypes.{SectionHead}
use Rattle.sourcemap_index_model.specs.Equality.{same_parts, same_section_head, same_tree, same_sections}
use Rattle.sourcemap_index_model.specs.MapTree.{MapTree, MapSections, no_sections, MapSection, IndexValue, index_tree, section_list, section_with, sections_from}
use Rattle.sourcemap_index_model.proofs.EqualityLemmas.{trees_decide, sections_decide}
use Rattle.sourcemap_index_model.proofs.MapTreeLemmas.{section_list-from}
use Rattle.sourcemap_index.specs.Equality.{same_index, same_section}

none_same : (head : SectionHead) (m : Option MapTree) (rest : MapSections)
    → same_sections no_sections (section_with head m rest) ≡ false
none_same head None rest = refl
none_same head (Some t) rest = refl

same_none : (head : SectionHead) (m : Option MapTree) (rest : MapSections)
    → same_sections (section_with head m rest) no_sections ≡ false
same_none head None rest = refl
same_none head (Some t) rest = refl

both_same : (p q : SectionHead) (m n : Option MapTree) (rest rest' : MapSections)
    → same_sections (section_with p m rest) (section_with q n rest')
    ≡ (same_section_head p q && option_eq same_tree m n) && same_sections rest rest'
both_same p q None None rest rest' = sym (and_assoc (same_section_head p q) true (same_sections rest rest'))
both_same p q None (Some u) rest rest' =
    sym (ap (λ b. b && same_sections rest rest') (and-false (same_section_head p q)))
both_same p q (Some t) None rest rest' =
    sym (ap (λ b. b && same_sections rest rest') (and-false (same_section_head p q)))
both_same p q (Some t) (Some u) rest rest' =
    sym (and_assoc (same_section_head p q) (same_tree t u) (same_sections rest rest'))

sections_same : (ss ts : List MapSection)
    → same_sections (sections_from ss) (sections_from ts) ≡ pointwise same_section ss ts
sections_same [] [] = refl
sections_same [] (t ∷ ts) = none_same t.head t.map (sections_from ts)
sections_same (s ∷ ss) [] = same_none s.head s.map (sections_from ss)
sections_same (s ∷ ss) (t ∷ ts) =
    both_same s.head t.head s.map t.map (sections_from ss) (sections_from ts)
    ∙ ap (λ b. same_section s t && b) (sections_same ss ts)

pub index_same : (i j : IndexValue) → same_index i j ≡ same_tree (index_tree i) (index_tree j)
index_same i j = ap (λ b. same_parts i.parts j.parts && b) (sym (sections_same i.sections j.sections))

list_same : (ss ts : List MapSection) → sections_from ss ≡ sections_from ts → ss ≡ ts
list_same ss ts h = sym (section_list-from ss) ∙ ap section_list h ∙ section_list-from ts

pub section_decides : (s t : MapSection) → Decides (same_section s t) (s ≡ t)
section_decides s t =
    let all = sections_decide (sections_from (s ∷ [])) (sections_from (t ∷ [])) in
    let test = sections_same (s ∷ []) (t ∷ []) ∙ and-true (same_section s t) in (
      λ h. let both : s ∷ [] ≡ t ∷ [] = list_same (s ∷ []) (t ∷ []) (all.0 (test ∙ h)) in cc,
      λ h. sym test ∙ all.1 (ap (λ s. sections_from (s ∷ [])) h),
    )

pub index_decides : (i j : IndexValue) → Decides (same_index i j) (i ≡ j)
index_decides i j =
    let all = trees_decide (index_tree i) (index_tree j) in (
      λ h.
          let both = all.0 (sym (index_same i j) ∙ h) in
          let parts : i.parts ≡ j.parts = cc in
          let sections : sections_from i.sections ≡ sections_from j.sections = cc in
          λ k. record { parts = parts k; sections = list_same i.sections j.sections sections k },
      λ h. index_same i j ∙ all.1 (ap index_tree h),
    )
