-- If the sections are sorted by offset, `closest_section` returns the section closest to the position.
use Rattle.std.proofs.Common.{◌∙◌, sym, ap, subst, ℕ, Some, None, option_map, slice_get, IsSortedByKey}
use Rattle.std.proofs.lemmas.Option.{slice_get-map}
use Rattle.sourcemap_tokens.specs.Search.{closest, closest_item}
use Rattle.sourcemap_tokens.specs.Tokens.{position_cmp}
use Rattle.sourcemap_index_model.specs.MapTree.{section_offset}
use Rattle.sourcemap_index.specs.Family.{section_value}
use Rattle.sourcemap_index.specs.declared.family.SourceMapIndex.{out-SourceMapIndex}
use Rattle.sourcemap_index.proofs.FamilyLemmas.{index-out}
use Rattle.sourcemap_index.proofs.LookupLemmas.{closest_seen}
use Rattle.sourcemap_index.proofs.family.SourceMapIndex.closest_section.Goals as goal

pub returns-in_err-section-clause-closest : goal.returns-in_err-section-clause-closest
returns-in_err-section-clause-closest c = λ sorted.
    let p : ℕ × ℕ = (c.args.line, c.args.col) in
    ap (option_map (λ s. section_value s.now)) c.from_residual.ensures
    ∙ closest_seen section_value section_offset position_cmp (out-SourceMapIndex c.args.self.now).sections.items p None
    (λ order.
    c.in_err-section.ensures.closest (λ s. section_offset (section_value s)) (λ x k h. h)
    (subst (IsSortedByKey (λ s. section_offset (section_value s)) position_cmp) (sym c.as_slice-sections.ensures.value)
    order)
    ∙ ap (λ ys. closest (λ s. section_offset (section_value s)) position_cmp ys p) c.as_slice-sections.ensures.value)
    (subst (λ v. IsSortedByKey section_offset position_cmp v.sections) (index-out c.args.self.now) sorted)
    ∙ ap (λ v. closest_item section_offset position_cmp v.sections p) (sym (index-out c.args.self.now))

pub returns-clause-own : goal.returns-clause-own
returns-clause-own c = (
  c.in_ok-section.field-0-0,
  ap (λ v. slice_get v.sections c.in_ok-section.field-0-0) (index-out c.args.self.now)
      ∙ slice_get-map section_value (out-SourceMapIndex c.args.self.now).sections.items c.in_ok-section.field-0-0
      ∙ ap (λ ys. option_map section_value (slice_get ys c.in_ok-section.field-0-0))
      (sym c.as_slice-sections.ensures.value)
      ∙ ap (option_map section_value) c.in_ok-section.ensures.own_index,
)

pub returns-clause-closest : goal.returns-clause-closest
returns-clause-closest c = λ sorted.
    let p : ℕ × ℕ = (c.args.line, c.args.col) in
    closest_seen section_value section_offset position_cmp (out-SourceMapIndex c.args.self.now).sections.items p
    (Some (c.in_ok-section.field-0-0, c.in_ok-section.section.now))
    (λ order.
    c.in_ok-section.ensures.closest (λ s. section_offset (section_value s)) (λ x k h. h)
    (subst (IsSortedByKey (λ s. section_offset (section_value s)) position_cmp) (sym c.as_slice-sections.ensures.value)
    order)
    ∙ ap (λ ys. closest (λ s. section_offset (section_value s)) position_cmp ys p) c.as_slice-sections.ensures.value)
    (subst (λ v. IsSortedByKey section_offset position_cmp v.sections) (index-out c.args.self.now) sorted)
    ∙ ap (λ v. closest_item section_offset position_cmp v.sections p) (sym (index-out c.args.self.now))
