-- `same_tree` decides equality.
use Rattle.std.proofs.Common.{◌≡◌, refl, sym, ap}
use Rattle.std.specs.Bool.{Decides}
use Rattle.std.specs.Cmp.{IsEquivalence, unsigned_Decides}
use Rattle.std.proofs.lemmas.Bool.Decides.{same_from_decides}
use Rattle.std.specs.Cmp.Lexicographic.{pointwise_decides}
use Rattle.sourcemap_tokens.proofs.DecidesLemmas.{decides_both}
use Rattle.sourcemap_map_parts.proofs.TextListsLemmas.{options_decide, texts_decide, text_lists_decide}
use Rattle.sourcemap_records.specs.Jsontypes.{SectionHead}
use Rattle.sourcemap_map_regular.proofs.EqualityLemmas.{same_map_decides}
use Rattle.sourcemap_hermes.proofs.EqualityLemmas.{same_hermes_decides}
use Rattle.sourcemap_index_model.specs.Equality.{same_leaf, same_parts, same_section_head, same_tree, same_sections}
use Rattle.sourcemap_index_model.specs.MapTree.{LeafMap, regular, hermes, IndexParts, MapTree, leaf, index, MapSections, no_sections, hollow, filled}

parts_decide : (a b : IndexParts) → Decides (same_parts a b) (a ≡ b)
parts_decide a b =
    let all =
    decides_both (decides_both (decides_both
    (options_decide texts_decide a.file b.file)
    (options_decide texts_decide a.debug_id b.debug_id))
    (options_decide (pointwise_decides (options_decide unsigned_Decides)) a.x_facebook_offsets b.x_facebook_offsets))
    (options_decide text_lists_decide a.x_metro_module_paths b.x_metro_module_paths) in (
      λ h. let p = all.0 h in λ i. record {
        file = p.0.0.0 i;
        debug_id = p.0.0.1 i;
        x_facebook_offsets = p.0.1 i;
        x_metro_module_paths = p.1 i;
      },
      λ h. all.1 (
        (
          (ap (λ (p : IndexParts). p.file) h, ap (λ (p : IndexParts). p.debug_id) h),
          ap (λ (p : IndexParts). p.x_facebook_offsets) h,
        ),
        ap (λ (p : IndexParts). p.x_metro_module_paths) h,
      ),
    )

heads_decide : (a b : SectionHead) → Decides (same_section_head a b) (a ≡ b)
heads_decide a b =
    let all =
    decides_both (decides_both (unsigned_Decides a.line b.line) (unsigned_Decides a.column b.column))
    (options_decide texts_decide a.url b.url) in (
      λ h. let p = all.0 h in λ i. record { line = p.0.0 i; column = p.0.1 i; url = p.1 i },
      λ h. all.1 (
        (ap (λ (p : SectionHead). p.line) h, ap (λ (p : SectionHead). p.column) h),
        ap (λ (p : SectionHead). p.url) h,
      ),
    )

leaves_decide : (a b : LeafMap) → Decides (same_leaf a b) (a ≡ b)
leaves_decide (regular a) (regular b) =
    let same = same_map_decides a b in
    (λ h. ap regular (same.0 h), λ h. same.1 (let e : a ≡ b = cc in e))
leaves_decide (regular a) (hermes b) = (λ h. cc, λ h. cc)
leaves_decide (hermes a) (regular b) = (λ h. cc, λ h. cc)
leaves_decide (hermes a) (hermes b) =
    let same = same_hermes_decides a b in
    (λ h. ap hermes (same.0 h), λ h. same.1 (let e : a ≡ b = cc in e))

mutual
  pub trees_decide : (s t : MapTree) → Decides (same_tree s t) (s ≡ t)
  trees_decide (leaf a) (leaf b) =
      let same = leaves_decide a b in
      (λ h. ap leaf (same.0 h), λ h. same.1 (let e : a ≡ b = cc in e))
  trees_decide (leaf a) (index parts ss) = (λ h. cc, λ h. cc)
  trees_decide (index parts ss) (leaf b) = (λ h. cc, λ h. cc)
  trees_decide (index parts ss) (index parts' ss') =
      let all = decides_both (parts_decide parts parts') (sections_decide ss ss') in (
        λ h. let p = all.0 h in λ i. index (p.0 i) (p.1 i),
        λ h. let e : parts ≡ parts' = cc in let f : ss ≡ ss' = cc in all.1 (e, f),
      )

  pub sections_decide : (ss ts : MapSections) → Decides (same_sections ss ts) (ss ≡ ts)
  sections_decide no_sections no_sections = (λ h. refl, λ h. refl)
  sections_decide no_sections (hollow head rest) = (λ h. cc, λ h. cc)
  sections_decide no_sections (filled head t rest) = (λ h. cc, λ h. cc)
  sections_decide (hollow head rest) no_sections = (λ h. cc, λ h. cc)
  sections_decide (hollow head rest) (hollow head' rest') =
      let all = decides_both (heads_decide head head') (sections_decide rest rest') in (
        λ h. let p = all.0 h in λ i. hollow (p.0 i) (p.1 i),
        λ h. let e : head ≡ head' = cc in let f : rest ≡ rest' = cc in all.1 (e, f),
      )
  sections_decide (hollow head rest) (filled head' t' rest') = (λ h. cc, λ h. cc)
  sections_decide (filled head t rest) no_sections = (λ h. cc, λ h. cc)
  sections_decide (filled head t rest) (hollow head' rest') = (λ h. cc, λ h. cc)
  sections_decide (filled head t rest) (filled head' t' rest') =
      let all =
      decides_both (heads_decide head head') (decides_both (trees_decide t t') (sections_decide rest rest')) in (
        λ h. let p = all.0 h in λ i. filled (p.0 i) (p.1.0 i) (p.1.1 i),
        λ h. let e : head ≡ head' = cc in let f : t ≡ t' = cc in let g : rest ≡ rest' = cc in all.1 (e, (f, g)),
      )

pub same_tree_equiv : IsEquivalence same_tree
same_tree_equiv = record {
  refl = λ s. (trees_decide s s).1 refl;
  symm = λ s t. same_from_decides (same_tree s t) (same_tree t s) (trees_decide s t)
      ((λ h. sym ((trees_decide t s).0 h)), (λ h. (trees_decide t s).1 (sym h)));
  congr = λ s t u h. let same : s ≡ t = (trees_decide s t).0 h in λ i. same_tree (same i) u;
}
