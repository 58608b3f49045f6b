-- Sections as a list, and facts that hold at each level.
use Rattle.std.proofs.Common.{◌≡◌, refl, ap, ◌∙◌, List, [], ◌∷◌, Option, Some, None, IfSome}
use Rattle.std.specs.List.{AllByRecursion}
use Rattle.sourcemap_records.specs.Jsontypes.{SectionHead}
use Rattle.sourcemap_index_model.specs.MapTree.{LeafMap, MapTree, leaf, index, MapSections, no_sections, hollow, filled, MapSection, section_list, section_with, sections_from, AtEachLevel, InEachSection}

pub sections_from-list : (ss : MapSections) → sections_from (section_list ss) ≡ ss
sections_from-list no_sections = refl
sections_from-list (hollow head rest) = ap (hollow head) (sections_from-list rest)
sections_from-list (filled head t rest) = ap (filled head t) (sections_from-list rest)

pub section_list-from : (ss : List MapSection) → section_list (sections_from ss) ≡ ss
section_list-from [] = refl
section_list-from (s ∷ ss) = by_case s.map ∙ ap (λ rest. s ∷ rest) (section_list-from ss)
  where
    by_case : (map : Option MapTree) → section_list (section_with s.head map (sections_from ss))
        ≡ record { head = s.head; map = map } ∷ section_list (sections_from ss)
    by_case None = refl
    by_case (Some t) = refl

module _ (OfMap : LeafMap → Type 0) (OfSections : MapSections → Type 0) where
  -- `OfMap` and `OfSections` hold at each level of the map of `s`, if `s` has a map
  abbrev pub InSection : MapSection → Type 0
  InSection s = IfSome s.map (λ t. AtEachLevel OfMap OfSections t)

  in_section_with : (head : SectionHead) (map : Option MapTree) (rest : MapSections)
      → IfSome map (λ t. AtEachLevel OfMap OfSections t)
      → InEachSection OfMap OfSections rest → InEachSection OfMap OfSections (section_with head map rest)
  in_section_with head None rest h later = later
  in_section_with head (Some t) rest h later = (h, later)

  pub each_section : (ss : List MapSection) → AllByRecursion InSection ss
      → InEachSection OfMap OfSections (sections_from ss)
  each_section [] all = tt
  each_section (s ∷ ss) all = in_section_with s.head s.map (sections_from ss) all.0 (each_section ss all.1)

module _ {OfMap OfMap' : LeafMap → Type 0} {OfSections OfSections' : MapSections → Type 0}
    (maps : (m : LeafMap) → OfMap m → OfMap' m) (sections : (ss : MapSections) → OfSections ss → OfSections' ss) where
  mutual
    pub each_level-weaker : (t : MapTree) → AtEachLevel OfMap OfSections t → AtEachLevel OfMap' OfSections' t
    each_level-weaker (leaf l) h = maps l h
    each_level-weaker (index parts ss) h = (sections ss h.0, each_section-weaker ss h.1)

    pub each_section-weaker : (ss : MapSections) → InEachSection OfMap OfSections ss
        → InEachSection OfMap' OfSections' ss
    each_section-weaker no_sections h = tt
    each_section-weaker (hollow head rest) h = each_section-weaker rest h
    each_section-weaker (filled head t rest) h = (each_level-weaker t h.0, each_section-weaker rest h.1)
