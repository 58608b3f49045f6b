-- Sections are gathered one after another, each with its map flattened.
use Rattle.std.proofs.Common.{◌≡◌, ◌∙◌, sym, ap, subst, List, [], ◌∷◌, arith, map, drop, take, OnOk, ◌+◌, slice_get}
use Rattle.std.specs.List.{AllByRecursion}
use Rattle.std.proofs.lemmas.Result.{err_from_is_err_and}
use Rattle.sourcemap_map_regular.specs.Lists.{AreListsOf}
use Rattle.sourcemap_index_model.specs.MapTree.{MapSection, IndexValue, sections_from}
use Rattle.sourcemap_index_model.specs.Flat.{merged, pieces_after}
use Rattle.sourcemap_tokens.proofs.AllLemmas.{All-append}
use Rattle.sourcemap_index_flatten.specs.Gathering.{RefusesFor}
use Rattle.sourcemap_index.specs.Family.{index_value, map_tree, section_value}
use Rattle.sourcemap_index.specs.Flatten.{Gathered, IsSectionInOrder, map_added}
use Rattle.sourcemap_index.proofs.FamilyLemmas.{hermes_tree, index-out, index_tree-of, regular_tree}
use Rattle.sourcemap_index.proofs.FlattenLemmas.{SoFar, so_far-more, so_far-refused, gathered-more, index_added, section_below, item-at, item-next, items-taken, on_ok_then, if_ok_any, if_ok_then, none-left, in_order-all}
use Rattle.sourcemap_index.proofs.family.+flatten.Goals as goal

pub DecodedMap::gather-returns-in-Regular-clause-ok :
    goal.DecodedMap::gather-returns-in-Regular-clause-ok
DecodedMap::gather-returns-in-Regular-clause-ok t c = λ before g.
    subst (λ m. OnOk c.add.result (Gathered (map_added before (c.args.line, c.args.col) (map_tree m)) c.add.new.self))
    (sym c.in-Regular.is)
    (on_ok_then c.add.result
    (gathered-more _ before ((c.args.line, c.args.col), c.in-Regular.map) c.add.new.self
    (ap (map_added before (c.args.line, c.args.col)) (regular_tree c.in-Regular.map)))
    (c.add.ensures.ok before c.in-Regular.map g c.lists.ensures.lists))

pub DecodedMap::gather-returns-in-Hermes-clause-ok :
    goal.DecodedMap::gather-returns-in-Hermes-clause-ok
DecodedMap::gather-returns-in-Hermes-clause-ok t c = λ before g.
    subst (λ m. OnOk c.add-in-Hermes.result (Gathered (map_added before (c.args.line, c.args.col) (map_tree m))
    c.add-in-Hermes.new.self)) (sym c.in-Hermes.is)
    (on_ok_then c.add-in-Hermes.result
    (gathered-more _ before ((c.args.line, c.args.col), c.in-Hermes.map.sm) c.add-in-Hermes.new.self
    (ap (map_added before (c.args.line, c.args.col)) (hermes_tree c.in-Hermes.map)))
    (c.add-in-Hermes.ensures.ok before c.in-Hermes.map.sm g
    (subst (λ m. AreListsOf m c.lists-in-Hermes.result) c.deref.ensures c.lists-in-Hermes.ensures.lists)))

pub DecodedMap::gather-returns-in_ok-flat-in-Index-clause-ok :
    goal.DecodedMap::gather-returns-in_ok-flat-in-Index-clause-ok
DecodedMap::gather-returns-in_ok-flat-in-Index-clause-ok t c = λ before g.
    let v : IndexValue = index_value c.in-Index.index in
    let made = c.in_ok-flat-in-Index.ensures.ok in
    subst (λ m. OnOk c.add_flat.result
    (Gathered (map_added before (c.args.line, c.args.col) (map_tree m)) c.add_flat.new.self)) (sym c.in-Index.is)
    (on_ok_then c.add_flat.result
    (gathered-more _ before ((c.args.line, c.args.col), merged v.parts.file made.0) c.add_flat.new.self
    (ap (map_added before (c.args.line, c.args.col)) (index_tree-of c.in-Index.index)
    ∙ index_added v before (c.args.line, c.args.col) made.0 made.1))
    (c.add_flat.ensures.ok before made.0 v.parts.file g made.2))

pub SourceMapIndex::gather_by_level-gather-requires : goal.SourceMapIndex::gather_by_level-gather-requires
SourceMapIndex::gather_by_level-gather-requires t c =
    let v : IndexValue = index_value c.args.self.now in
    let items = c.deref-section-items.result.now in
    let same : map section_value items ≡ v.sections =
    ap (map section_value) c.deref-section-items.ensures.value
    ∙ sym (ap (λ (v : IndexValue). v.sections) (index-out c.args.self.now)) in
    let less = section_below v c.loop-section.section-index (section_value c.section-item.result)
    (ap (λ ss. slice_get ss c.loop-section.section-index) (sym same)
    ∙ item-at items c.loop-section.section-index c.section-item.result c.loop-section-test.true
    c.section-item.is) in
    (omega (arith, less), tt)

pub SourceMapIndex::gather_by_level-loop-section-preserved : goal.SourceMapIndex::gather_by_level-loop-section-preserved
SourceMapIndex::gather_by_level-loop-section-preserved t c =
    let items = c.deref-section-items.result.now in
    let i = c.loop-section.section-index in
    let item = c.section-item.result in
    let all : List MapSection = map section_value items in
    record {
      so_far = so_far-more all (section_value item) (drop (i + 1) all) c.loop-section.gathering c.gather.new.gathering
          (subst (λ rest. SoFar all rest c.loop-section.gathering)
          (item-next items i item c.loop-section-test.true c.section-item.is) c.loop-section.invariant.so_far)
          c.in_ok-gather.ensures.ok;
      in_order = subst (AllByRecursion IsSectionInOrder)
          (sym (items-taken items i item c.loop-section-test.true c.section-item.is))
          (All-append IsSectionInOrder (map section_value (take i items)) (section_value item ∷ [])
          c.loop-section.invariant.in_order (c.in_ok-gather.ensures.in_order, tt));
    }

pub SourceMapIndex::gather_by_level-returns-in_err-gather-clause-refused :
    goal.SourceMapIndex::gather_by_level-returns-in_err-gather-clause-refused
SourceMapIndex::gather_by_level-returns-in_err-gather-clause-refused t c =
    let items = c.deref-section-items.result.now in
    let i = c.loop-section.section-index in
    let item = c.section-item.result in
    let all : List MapSection = map section_value items in
    let same : all ≡ (index_value c.args.self.now).sections =
    ap (map section_value) c.deref-section-items.ensures.value
    ∙ sym (ap (λ (v : IndexValue). v.sections) (index-out c.args.self.now)) in
    let p = err_from_is_err_and c.from_residual-in_err-gather.result c.from_residual-in_err-gather.ensures.1 in
    rw (p.1, p.2)
    (subst (λ ss. RefusesFor (pieces_after [] (sections_from ss)) c.in_err-gather.field-0.0) same
    (so_far-refused all (section_value item) (drop (i + 1) all) c.loop-section.gathering c.in_err-gather.field-0.0
    (subst (λ rest. SoFar all rest c.loop-section.gathering)
    (item-next items i item c.loop-section-test.true c.section-item.is) c.loop-section.invariant.so_far)
    c.in_err-gather.ensures.refused))

pub SourceMapIndex::gather_by_level-returns-clause-ok : goal.SourceMapIndex::gather_by_level-returns-clause-ok
SourceMapIndex::gather_by_level-returns-clause-ok t c =
    let items = c.deref-section-items.result.now in
    let all : List MapSection = map section_value items in
    let same : all ≡ (index_value c.args.self.now).sections =
    ap (map section_value) c.deref-section-items.ensures.value
    ∙ sym (ap (λ (v : IndexValue). v.sections) (index-out c.args.self.now)) in
    let so_far : SoFar all [] c.loop-section.gathering =
    subst (λ rest. SoFar all rest c.loop-section.gathering)
    (none-left items c.loop-section.section-index c.loop-section-test.false) c.loop-section.invariant.so_far in
    if_ok_then c.finish.result (λ f h. (
      so_far.0,
      ap (λ ss. pieces_after [] (sections_from ss)) (sym same) ∙ so_far.1,
      h,
    )) (c.finish.ensures.ok so_far.0 so_far.2)

pub SourceMapIndex::gather_by_level-returns-clause-in_order :
    goal.SourceMapIndex::gather_by_level-returns-clause-in_order
SourceMapIndex::gather_by_level-returns-clause-in_order t c =
    let items = c.deref-section-items.result.now in
    let same : map section_value items ≡ (index_value c.args.self.now).sections =
    ap (map section_value) c.deref-section-items.ensures.value
    ∙ sym (ap (λ (v : IndexValue). v.sections) (index-out c.args.self.now)) in
    if_ok_any c.finish.result (in_order-all (index_value c.args.self.now) items c.loop-section.section-index
    c.loop-section-test.false same c.loop-section.invariant.in_order)
