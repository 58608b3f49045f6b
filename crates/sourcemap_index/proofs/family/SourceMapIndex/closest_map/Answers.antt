-- The map of the section closest to a position answers for the index map.
use Rattle.std.proofs.Common.{◌≡◌, ◌∙◌, sym, ap, ℕ, None, Some, option_and_then, option_map}
use Rattle.sourcemap_index_model.specs.MapTree.{section_offset}
use Rattle.sourcemap_index_model.specs.Meaning.{lookup, relative_position}
use Rattle.sourcemap_index.specs.Family.{index_value, map_tree, section_value}
use Rattle.sourcemap_index.proofs.FamilyLemmas.{section_map, section_at}
use Rattle.sourcemap_index.proofs.LookupLemmas.{answer_of, index_answers, inner_in_order}
use Rattle.sourcemap_index.proofs.family.SourceMapIndex.closest_map.Goals as goal

pub returns-in_err-section-clause-value : goal.returns-in_err-section-clause-value
returns-in_err-section-clause-value c =
    index_answers (index_value c.args.self.now) (c.args.line, c.args.col) None _ c.in_err-section.ensures.closest
    (λ _. ap (option_and_then (λ at. lookup (map_tree at.0.now) at.1)) c.from_residual.ensures)

pub returns-in-Some-clause-inner : goal.returns-in-Some-clause-inner
returns-in-Some-clause-inner c =
    let s = c.in_ok-section.section.now in (
      section_value s,
      c.in_ok-section.ensures.own,
      section_map s ∙ ap (option_map (λ b. map_tree b.value)) c.in-Some.is
          ∙ ap (λ m. Some (map_tree m)) (sym c.deref.ensures),
    )

pub returns-in-Some-clause-in_order : goal.returns-in-Some-clause-in_order
returns-in-Some-clause-in_order c =
    inner_in_order (index_value c.args.self.now) (map_tree c.deref.result.now) (returns-in-Some-clause-inner c)

pub returns-in-Some-clause-value : goal.returns-in-Some-clause-value
unfolding returns-in-Some-clause-inner
returns-in-Some-clause-value c =
    let s = c.in_ok-section.section.now in
    let p : ℕ × ℕ = (c.args.line, c.args.col) in
    let is : (section_value s).map ≡ Some (map_tree c.deref.result.now) = (returns-in-Some-clause-inner c).2 in
    index_answers (index_value c.args.self.now) p (Some (section_value s))
    (lookup (map_tree c.deref.result.now) c.relative_position-position.result)
    c.in_ok-section.ensures.closest
    (λ _.
    ap (lookup (map_tree c.deref.result.now))
    (c.relative_position-position.ensures ∙ ap (λ o. relative_position o p) (sym (section_at s)))
    ∙ ap (λ m. answer_of m (relative_position (section_offset (section_value s)) p)) (sym is))

pub returns-in-None-clause-value : goal.returns-in-None-clause-value
returns-in-None-clause-value c =
    let s = c.in_ok-section.section.now in
    let is : (section_value s).map ≡ None = section_map s ∙ ap (option_map (λ b. map_tree b.value)) c.in-None.is in
    index_answers (index_value c.args.self.now) (c.args.line, c.args.col) (Some (section_value s)) None
    c.in_ok-section.ensures.closest
    (λ _. ap (λ m. answer_of m (relative_position (section_offset (section_value s)) (c.args.line, c.args.col)))
    (sym is))
