-- The tree and the JSON value of a record, from its fields and its sections. A record is in range if its fields and its
-- sections are.
use Rattle.std.proofs.Common.{◌≡◌, List, [], ◌∷◌, Option, None, Some, Vec, Global, map, option_map, codes, IfSome, subst, refl, sym, ap, ◌∙◌}
use Rattle.std.specs.List.{AllByRecursion}
use Rattle.serde_json.specs.Data.{object, array, item}
use Rattle.serde_json.specs.View.{items_of}
use Rattle.sourcemap_records.specs.Field.{put_if, written_or_null}
use Rattle.sourcemap_records.specs.Jsontypes.{AreInRange, IsInRange, IsSectionInRange, AreSectionsInRange, section_at, Fields, Section, Sections, Tree, flat, tree, tree_with, tree_step, section, section_step, sections_from, fields_view, written, written_sections, written_section, written_one, section_with, SectionHead, written_fields}
use Rattle.sourcemap_records.specs.declared.jsontypes.RawSection.{RawSection}
use Rattle.sourcemap_records.specs.declared.jsontypes.RawSourceMap.{RawSourceMap, RawSourceMap-F, out-RawSourceMap, roll-RawSourceMap, fold_out-RawSourceMap, fold-roll-RawSourceMap, map-RawSourceMap}

flat-tree_with : (fields : Fields) (sections : Option Sections) → flat (tree_with fields sections) ≡ fields
flat-tree_with fields None = refl
flat-tree_with fields (Some _) = refl

-- the tree of a record has the fields of the record
pub flat-tree : (r : RawSourceMap) → flat (tree r) ≡ fields_view (out-RawSourceMap r)
flat-tree r = ap flat (fold_out-RawSourceMap Section Tree section_step tree_step r) ∙ flat-tree_with _ _

pub flat-roll : (r : RawSourceMap-F RawSection RawSourceMap) → flat (tree (roll-RawSourceMap r)) ≡ fields_view r
flat-roll r = ap flat (fold-roll-RawSourceMap Section Tree section_step tree_step r) ∙ flat-tree_with _ _

same_list : {X : Type 0} (f : X → X) → ((x : X) → f x ≡ x) → (xs : List X) → map f xs ≡ xs
same_list f same [] = refl
same_list f same (x ∷ xs) = cc (same x, same_list f same xs)

pub same_items : {X : Type 0} (f : X → X) → ((x : X) → f x ≡ x) → (v : Option (Vec X Global))
    → option_map (λ v. map f v.items) v ≡ option_map (λ v. v.items) v
same_items f same None = refl
same_items f same (Some v) = ap Some (same_list f same v.items)

of_sections : (r : RawSourceMap-F RawSection RawSourceMap) (v : Option (Vec RawSection Global))
    → tree_step (map-RawSourceMap RawSection RawSourceMap Section Tree section tree (record r { sections = v }))
    ≡ tree_with (fields_view r) (option_map (λ v. sections_from (map section v.items)) v)
of_sections r None = refl
of_sections r (Some v) = refl

pub tree-out : (r : RawSourceMap) → tree r
    ≡ tree_with (fields_view (out-RawSourceMap r))
    (option_map (λ v. sections_from (map section v.items)) (out-RawSourceMap r).sections)
tree-out r = fold_out-RawSourceMap Section Tree section_step tree_step r
    ∙ of_sections (out-RawSourceMap r) (out-RawSourceMap r).sections

-- sections are written one by one
written-from : (ss : List Section) → written_sections (sections_from ss) ≡ items_of (map written_one ss)
written-from [] = refl
written-from (s ∷ ss) = written-with s.head s.map (sections_from ss) ∙ ap (item (written_one s)) (written-from ss)
  where
    written-with : (head : SectionHead) (t : Option Tree) (rest : Sections)
        → written_sections (section_with head t rest)
        ≡ item (written_section head (written_or_null written t)) (written_sections rest)
    written-with head None rest = refl
    written-with head (Some t) rest = refl

written-with_sections : (fields : Fields) (v : Option (List Section))
    → written (tree_with fields (option_map sections_from v))
    ≡ object (put_if (codes "sections") (option_map (λ ss. array (items_of (map written_one ss))) v)
    (written_fields fields))
written-with_sections fields None = refl
written-with_sections fields (Some ss) =
    ap (λ items. object (put_if (codes "sections") (Some (array items)) (written_fields fields))) (written-from ss)

sections_listed : {X : Type 0} (f : List Section → X) (v : Option (Vec RawSection Global))
    → option_map (λ v. f (map section v.items)) v ≡ option_map f (option_map (λ v. map section v.items) v)
sections_listed f None = refl
sections_listed f (Some v) = refl

-- a record is written as its fields and its sections
pub written-tree : (r : RawSourceMap) → written (tree r)
    ≡ object (put_if (codes "sections") (option_map (λ v. array (items_of (map written_one (map section v.items))))
    (out-RawSourceMap r).sections) (written_fields (fields_view (out-RawSourceMap r))))
written-tree r =
    let fields = fields_view (out-RawSourceMap r) in
    let sections = (out-RawSourceMap r).sections in
    ap written (tree-out r ∙ ap (tree_with fields) (sections_listed sections_from sections))
    ∙ written-with_sections fields (option_map (λ v. map section v.items) sections)
    ∙ ap (λ v. object (put_if (codes "sections") v (written_fields fields)))
    (sym (sections_listed (λ ss. array (items_of (map written_one ss))) sections))

-- ---- a record is in range if its fields and its sections are in range

in_range-from : (ss : List Section) → AllByRecursion IsSectionInRange ss → AreSectionsInRange (sections_from ss)
in_range-from [] h = tt
in_range-from (s ∷ ss) h = in_range-with s.head s.map (sections_from ss) h.0 (in_range-from ss h.1)
  where
    in_range-with : (head : SectionHead) (t : Option Tree) (rest : Sections) → IsSectionInRange (section_at head t)
        → AreSectionsInRange rest → AreSectionsInRange (section_with head t rest)
    in_range-with head None rest h more = (h.0, more)
    in_range-with head (Some t) rest h more = (h.0, h.1, more)

in_range-with_sections : (fields : Fields) (v : Option (Vec RawSection Global)) → AreInRange fields
    → IfSome v (λ v. AllByRecursion IsSectionInRange (map section v.items))
    → IsInRange (tree_with fields (option_map (λ v. sections_from (map section v.items)) v))
in_range-with_sections fields None h all = h
in_range-with_sections fields (Some v) h all = (h, in_range-from (map section v.items) all)

pub in_range-tree : (r : RawSourceMap) → AreInRange (fields_view (out-RawSourceMap r))
    → IfSome (out-RawSourceMap r).sections (λ v. AllByRecursion IsSectionInRange (map section v.items))
    → IsInRange (tree r)
in_range-tree r h all = subst IsInRange (sym (tree-out r))
    (in_range-with_sections (fields_view (out-RawSourceMap r)) (out-RawSourceMap r).sections h all)
