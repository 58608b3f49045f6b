use Rattle.std.proofs.Common.{◌∙◌, ap, sym, arith, codes, option_map, refl}
use Rattle.serde_json.specs.Data.{items_depth}
use Rattle.serde_json.specs.View.{view, items_view}
use Rattle.sourcemap_check.proofs.LoopLemmas.{SectionsSoFar-none, SectionsSoFar-more, tree_checked}
use Rattle.sourcemap_check.proofs.LoopLemmas.{sections_none}
use Rattle.sourcemap_check.proofs.TreeLemmas.{inner_of-missing, inner_of-other, inner_of-map, depth-get, depth-list_at}
use Rattle.sourcemap_check.proofs.TreeLemmas.{depth_item, section_next, tree_of-sections, tree_of-bare}
use Rattle.sourcemap_check.proofs.tree.+tree.Goals as goal
use Rattle.sourcemap_check.proofs.tree.+tree.Goals.{check_inner-in_default-via-in-Some+else-is_object}
use Rattle.sourcemap_check.proofs.tree.+tree.Goals.{check_inner-in_default-via-in_default}
use Rattle.sourcemap_check.proofs.tree.+tree.Goals.{check_map-in-Some+in_ok-last-in-Some, check_map-in-None}

pub check_inner-check_map-requires : goal.check_inner-check_map-requires
check_inner-check_map-requires t c = (
  omega (
    arith,
    depth-get (codes "map") (view c.args.section.now) (view c.in-Some.map.now) (sym c.in-Some.ensures),
  ),
  tt,
)

pub check_inner-returns-in-Some-clause-inner : goal.check_inner-returns-in-Some-clause-inner
check_inner-returns-in-Some-clause-inner t c = λ all reports.
    rw (inner_of-map (view c.args.section.now) (view c.in-Some.map.now) (sym c.in-Some.ensures)
    (sym c.is_object.ensures ∙ c.if-is_object.true))
    (c.check_map.ensures.tree all reports)

pub check_inner-returns-in_default-clause-inner : goal.check_inner-returns-in_default-clause-inner
check_inner-returns-in_default-clause-inner t c = λ all reports.
    elim c.in_default.branch [
      | check_inner-in_default-via-in-Some+else-is_object w ↦
          rw (inner_of-other (view c.args.section.now) (view w.in-Some.map.now) (sym w.in-Some.ensures)
          (sym w.is_object.ensures ∙ w.if-is_object.false))
          (record { reports = reports; places_are = refl; last_is = refl })
      | check_inner-in_default-via-in_default w ↦
          rw (inner_of-missing (view c.args.section.now)
          (sym c.get.ensures ∙ ap (option_map (λ v. view v.now)) w.in_default.is))
          (record { reports = reports; places_are = refl; last_is = refl })
    ]

pub check_map-check_sections-requires : goal.check_map-check_sections-requires
check_map-check_sections-requires t c = (
  let depth = depth-list_at (codes "sections") (view c.args.map.now) (items_view c.in-Some.sections.now.items)
      (sym c.in-Some.ensures) in
      let same = ap (λ vs. items_depth (items_view vs)) c.as_slice.ensures.value in
      omega (arith, depth, same),
  tt,
)

pub check_map-returns-clause-tree : goal.check_map-returns-clause-tree
check_map-returns-clause-tree t c = λ all reports.
    let own = c.len-own.ensures ∙ c.args.checked.now.maps.ok.0 in
    let pushed = c.in_ok-push.ensures.items in
    let keys = c.in_ok-add_keys.ensures.added all reports in
    let text = c.in_ok-add_text.ensures.added _ keys in
    elim c.match-list_of_sections.branch [
      | check_map-in-Some+in_ok-last-in-Some w ↦
          let items = tree_of-sections (view c.args.map.now) (items_view w.in-Some.sections.now.items)
          (sym w.in-Some.ensures) in
          rw (w.checked-is, c.later_of.ensures, w.last-is, c.text_last.ensures)
          (tree_checked _ all (view c.args.map.now) _ _ _ _ _ _ _ own pushed items
          (rw w.as_slice.ensures.value at (w.in_ok-last-in-Some.ensures.sections _ text)))
      | check_map-in-None w ↦
          let bare = tree_of-bare (view c.args.map.now)
          (sym c.list_of_sections.ensures ∙ ap (option_map (λ v. items_view v.now.items)) w.in-None.is) in
          rw (w.checked-is, c.later_of.ensures, w.last-is, c.text_last.ensures)
          (tree_checked _ all (view c.args.map.now) _ _ _ _ _ _ _ own pushed bare (sections_none _ _ _ _ text))
    ]

pub check_sections-check_inner-requires : goal.check_sections-check_inner-requires
check_sections-check_inner-requires t c = (
  omega (
    arith,
    depth_item c.args.sections.now c.loop-index.index c.index-sections-index.result c.loop-index-test.true
        c.index-sections-index.is,
  ),
  tt,
)

pub check_sections-loop-index-init : goal.check_sections-loop-index-init
check_sections-loop-index-init t c = λ all reports. SectionsSoFar-none _ all _ _ _ reports

pub check_sections-loop-index-preserved : goal.check_sections-loop-index-preserved
check_sections-loop-index-preserved t c = λ all reports.
    let next = section_next c.args.sections.now c.loop-index.index c.index-sections-index.result c.loop-index-test.true
    c.index-sections-index.is in
    let so_far = rw next at (c.loop-index.invariant all reports) in
    let section = c.in_ok-add_section.ensures.added so_far.found so_far.reports in
    rw (c.later_of-last.ensures, c.moved_by.ensures, c.start_of-start.ensures)
    (SectionsSoFar-more _ all _ _ _ _ _ _ _ _ _ _ _ _ _ so_far refl (c.in_ok-inner.ensures.inner _ section))
