use Rattle.std.proofs.Common.{◌≡◌, [], ◌++◌, List, length, ap, sym, ◌∙◌, subst}
use Rattle.serde_json.specs.View.{view}
use Rattle.sourcemap_check_report.specs.Report.{Reports}
use Rattle.sourcemap_check.specs.declared.tree.MapPlace.{MapPlace}
use Rattle.sourcemap_check.specs.Trees.{tree_of}
use Rattle.sourcemap_check.specs.Findings.{tree_findings}
use Rattle.sourcemap_check.specs.Steps.{places}
use Rattle.sourcemap_check.proofs.ExactLemmas.{value_places-object}
use Rattle.sourcemap_check.proofs.check.check_value.Goals as goal

pub returns-clause-added : goal.returns-clause-added
returns-clause-added c = λ reports.
    rw (sym c.is_object.ensures ∙ c.if-not-is_object.false)
    (subst (λ n. Reports c.args.most (tree_findings n (tree_of (view c.args.value.now))) c.check_map.new.checked.report)
    (ap length c.requires) (c.in_ok-check_map.ensures.tree [] reports).reports)

pub returns-clause-places : goal.returns-clause-places
returns-clause-places c = λ reports.
    let P : List MapPlace → Type 0 = λ ms. c.check_map.new.checked.maps.items
    ≡ ms ++ places (length ms) (record { map = 0; section = 0 }) (tree_of (view c.args.value.now)) in
    let these : P [] = subst P c.requires (c.in_ok-check_map.ensures.tree [] reports).places_are in
    these
    ∙ sym (value_places-object (view c.args.value.now) (sym c.is_object.ensures ∙ c.if-not-is_object.false))
