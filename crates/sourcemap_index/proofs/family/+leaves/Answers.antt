-- The leaves of section after section are added.
use Rattle.std.proofs.Common.{◌≡◌, ◌∙◌, sym, ap, subst, ℕ, [], ◌∷◌, arith, map, take, Some, option_map, OnOk, slice_get}
use Rattle.std.specs.List.{AllByRecursion}
use Rattle.std.proofs.lemmas.List.{take_all}
use Rattle.sourcemap_map_regular.specs.Lists.{AreListsOf}
use Rattle.sourcemap_index_model.specs.Flat.{passes_the_end}
use Rattle.sourcemap_index_model.specs.FlatList.{absolute_position}
use Rattle.sourcemap_index_model.specs.MapTree.{IndexValue, sections_from}
use Rattle.sourcemap_tokens.proofs.AllLemmas.{All-append}
use Rattle.sourcemap_index.specs.Family.{index_value, map_tree, section_value}
use Rattle.sourcemap_index.specs.Leaves.{AreAdded, HasComplete, leaves, leaves_in}
use Rattle.sourcemap_index.proofs.FamilyLemmas.{hermes_tree, index-out, regular_tree, section_at, section_map}
use Rattle.sourcemap_index.proofs.FlattenLemmas.{section_below, item-at, items-taken, on_ok_then}
use Rattle.sourcemap_index.proofs.LeavesLemmas.{AddsSections, adds-more, complete-all, landed, leaf-added, section-leaves_added}
use Rattle.sourcemap_index.proofs.family.+leaves.Goals as goal

pub DecodedMap::gather_leaves-returns-in-Regular-clause-ok :
    goal.DecodedMap::gather_leaves-returns-in-Regular-clause-ok
DecodedMap::gather_leaves-returns-in-Regular-clause-ok t c = λ before g.
    subst (λ m. OnOk c.add.result (AreAdded before (c.args.line, c.args.col) (leaves m) c.add.new.self))
    (sym (ap map_tree c.in-Regular.is ∙ regular_tree c.in-Regular.map))
    (on_ok_then c.add.result
    (leaf-added before (c.args.line, c.args.col) c.in-Regular.map c.add.new.self)
    (c.add.ensures.ok before c.in-Regular.map g c.lists.ensures.lists))

pub DecodedMap::gather_leaves-returns-in-Hermes-clause-ok :
    goal.DecodedMap::gather_leaves-returns-in-Hermes-clause-ok
DecodedMap::gather_leaves-returns-in-Hermes-clause-ok t c = λ before g.
    subst (λ m. OnOk c.add-in-Hermes.result (AreAdded before (c.args.line, c.args.col) (leaves m)
    c.add-in-Hermes.new.self)) (sym (ap map_tree c.in-Hermes.is ∙ hermes_tree c.in-Hermes.map))
    (on_ok_then c.add-in-Hermes.result
    (leaf-added before (c.args.line, c.args.col) c.in-Hermes.map.sm c.add-in-Hermes.new.self)
    (c.add-in-Hermes.ensures.ok before c.in-Hermes.map.sm g
    (subst (λ m. AreListsOf m c.lists-in-Hermes.result) c.deref.ensures c.lists-in-Hermes.ensures.lists)))

pub SourceMapIndex::gather_leaves-gather_leaves-requires : goal.SourceMapIndex::gather_leaves-gather_leaves-requires
SourceMapIndex::gather_leaves-gather_leaves-requires t c =
    let v : IndexValue = index_value c.args.self.now in
    let items = c.deref-section-items.result.now in
    let same : map section_value items ≡ v.sections =
    ap (map section_value) c.deref-section-items.ensures.value
    ∙ sym (ap (λ (v : IndexValue). v.sections) (index-out c.args.self.now)) in
    let less = section_below v c.loop-section.section-index (section_value c.section-item.result)
    (ap (λ ss. slice_get ss c.loop-section.section-index) (sym same)
    ∙ item-at items c.loop-section.section-index c.section-item.result c.loop-section-test.true
    c.section-item.is) in
    (omega (arith, less), tt)

pub SourceMapIndex::gather_leaves-loop-section-preserved : goal.SourceMapIndex::gather_leaves-loop-section-preserved
SourceMapIndex::gather_leaves-loop-section-preserved t c =
    let items = c.deref-section-items.result.now in
    let i = c.loop-section.section-index in
    let item = c.section-item.result in
    let again = sym (items-taken items i item c.loop-section-test.true c.section-item.is) in
    record {
      so_far = subst (λ ss. AddsSections (c.args.line, c.args.col) ss c.args.gathering.now c.gather_leaves.new.gathering)
          again (adds-more (c.args.line, c.args.col) (map section_value (take i items)) (section_value item)
          c.args.gathering.now c.loop-section.gathering c.gather_leaves.new.gathering c.loop-section.invariant.so_far
          c.in_ok-gather_leaves.ensures.ok);
      complete = subst (AllByRecursion (λ s. HasComplete s.map)) again
          (All-append (λ s. HasComplete s.map) (map section_value (take i items)) (section_value item ∷ [])
          c.loop-section.invariant.complete (c.in_ok-gather_leaves.ensures.complete, tt));
    }

pub SourceMapIndex::gather_leaves-returns-clause-ok : goal.SourceMapIndex::gather_leaves-returns-clause-ok
SourceMapIndex::gather_leaves-returns-clause-ok t c = λ before g.
    let items = c.deref-section-items.result.now in
    let same : map section_value items ≡ (index_value c.args.self.now).sections =
    ap (map section_value) c.deref-section-items.ensures.value
    ∙ sym (ap (λ (v : IndexValue). v.sections) (index-out c.args.self.now)) in
    subst (λ ss. AreAdded before (c.args.line, c.args.col) (leaves_in (sections_from ss)) c.loop-section.gathering)
    (ap (map section_value) (take_all c.loop-section.section-index items c.loop-section-test.false) ∙ same)
    (c.loop-section.invariant.so_far before g)

pub SourceMapIndex::gather_leaves-returns-clause-complete :
    goal.SourceMapIndex::gather_leaves-returns-clause-complete
SourceMapIndex::gather_leaves-returns-clause-complete t c =
    let v : IndexValue = index_value c.args.self.now in
    let items = c.deref-section-items.result.now in
    let same : map section_value items ≡ v.sections =
    ap (map section_value) c.deref-section-items.ensures.value
    ∙ sym (ap (λ (v : IndexValue). v.sections) (index-out c.args.self.now)) in
    complete-all v.parts v.sections
    (subst (AllByRecursion (λ s. HasComplete s.map))
    (ap (map section_value) (take_all c.loop-section.section-index items c.loop-section-test.false) ∙ same)
    c.loop-section.invariant.complete)

pub SourceMapSection::gather_leaves-returns-in-Some-absolute_position-clause-ok :
    goal.SourceMapSection::gather_leaves-returns-in-Some-absolute_position-clause-ok
SourceMapSection::gather_leaves-returns-in-Some-absolute_position-clause-ok t c = λ before g.
    let offset : ℕ × ℕ = (c.args.line, c.args.col) in
    let found = c.in-Some-absolute_position in
    let at : ◌≡◌ {A = ℕ × ℕ} (found.line, found.col) (absolute_position offset c.args.self.now.offset) =
    landed (passes_the_end (absolute_position offset c.args.self.now.offset))
    (absolute_position offset c.args.self.now.offset) (found.line, found.col)
    (sym c.absolute_position.ensures ∙ found.is) in
    let has : (section_value c.args.self.now).map ≡ Some (map_tree c.deref.result.now) =
    section_map c.args.self.now ∙ ap (option_map (λ b. map_tree b.value)) c.in-Some.is
    ∙ ap (λ m. Some (map_tree m)) (sym c.deref.ensures) in
    on_ok_then c.gather_leaves.result
    (λ added. section-leaves_added before offset (section_value c.args.self.now) (map_tree c.deref.result.now)
    c.gather_leaves.new.gathering has
    (subst (λ start. AreAdded before start (leaves (map_tree c.deref.result.now)) c.gather_leaves.new.gathering)
    (at ∙ ap (absolute_position offset) (sym (section_at c.args.self.now))) added))
    (c.gather_leaves.ensures.ok before g)
