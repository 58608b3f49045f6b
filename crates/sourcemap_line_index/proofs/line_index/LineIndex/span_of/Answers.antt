use Rattle.std.proofs.Common.{◌≡◌, sym, ap, subst, ◌∙◌, ◌<◌, ◌≤◌, ◌-◌, arith, length, slice_index}
use Rattle.std.specs.Ordering.{is_eq, nat_cmp}
use Rattle.sourcemap_line_index.proofs.LineIndexLemmas.{eq_from_is_eq, lt_from_not_eq}
use Rattle.sourcemap_line_index.proofs.TableLemmas.{span_in_one, span_of_none, span_of_row}
use Rattle.sourcemap_line_index.proofs.line_index.LineIndex.span_of.Goals as goal
use Rattle.sourcemap_line_index.proofs.line_index.LineIndex.span_of.Goals.{else-row-lines-via-then-row-lines+else-is_eq}
use Rattle.sourcemap_line_index.proofs.line_index.LineIndex.span_of.Goals.{else-row-lines-via-else-row-lines}

pub returns-then-lines-eq1-clause-span : goal.returns-then-lines-eq1-clause-span
returns-then-lines-eq1-clause-span g c =
    let same : c.as_slice-lines.result.now ≡ c.args.self.now.lines =
    c.as_slice-lines.ensures.value ∙ ap (λ t. t.lines) c.self.view_is in
    let n = length c.args.tokens.now in
    let p = (g.P.Probe.position c.args.probe.now).0 in
    span_in_one c.args.tokens.now c.args.self.now c.requires
    (subst (λ xs. length xs ≡ 1) same c.if-lines-eq1.true) p c.span_of_one.result
    (subst (λ xs. p ≡ slice_index xs 0 → c.span_of_one.result ≡ (0, n)) same c.span_of_one.ensures.same)
    (subst (λ xs. p < slice_index xs 0 → c.span_of_one.result ≡ (0, 0)) same c.span_of_one.ensures.before)
    (subst (λ xs. slice_index xs 0 < p → c.span_of_one.result ≡ (n, n)) same c.span_of_one.ensures.after)

pub returns-then-is_eq-clause-span : goal.returns-then-is_eq-clause-span
returns-then-is_eq-clause-span g c =
    let same : c.as_slice-lines.result.now ≡ c.args.self.now.lines =
    c.as_slice-lines.ensures.value ∙ ap (λ t. t.lines) c.self.view_is in
    let here : (g.P.Probe.position c.args.probe.now).0
    ≡ slice_index c.as_slice-lines.result.now c.first_at_line-row.result =
    ap (λ p. p.0) (sym c.first_at_line-row.ensures.kept)
    ∙ eq_from_is_eq _ _ (ap is_eq (sym (c.line.ensures.answer)) ∙ sym c.is_eq.ensures ∙ c.if-is_eq.true) in
    span_of_row c.args.tokens.now c.args.self.now c.requires c.first_at_line-row.result c.first_of-first.result
    c.first_of.result (g.P.Probe.position c.args.probe.now).0
    c.first_of-first.ensures.within c.first_of.ensures.within c.first_of.ensures.past
    (subst (λ xs. c.first_at_line-row.result < length xs) same c.if-row-lines.true)
    (subst (λ xs. (g.P.Probe.position c.args.probe.now).0 ≡ slice_index xs c.first_at_line-row.result) same here)
    (subst (λ xs. 0 < c.first_at_line-row.result → slice_index xs (c.first_at_line-row.result - 1)
    < (g.P.Probe.position c.args.probe.now).0) same c.first_at_line-row.ensures.before)

pub returns-clause-span : goal.returns-clause-span
returns-clause-span g c =
    let same : c.as_slice-lines.result.now ≡ c.args.self.now.lines =
    c.as_slice-lines.ensures.value ∙ ap (λ t. t.lines) c.self.view_is in
    let more : c.first_at_line-row.result < length c.as_slice-lines.result.now
    → (g.P.Probe.position c.args.probe.now).0 < slice_index c.as_slice-lines.result.now c.first_at_line-row.result =
    λ l. elim c.else-row-lines.branch [
      | else-row-lines-via-then-row-lines+else-is_eq w ↦
          lt_from_not_eq _ _ (c.first_at_line-row.ensures.from l)
          (ap (λ p. is_eq (nat_cmp p.0 (slice_index c.as_slice-lines.result.now c.first_at_line-row.result)))
          (sym c.first_at_line-row.ensures.kept) ∙ ap is_eq (sym w.line.ensures.answer) ∙ sym w.is_eq.ensures
          ∙ w.if-is_eq.false)
      | else-row-lines-via-else-row-lines w ↦ let past = w.if-row-lines.false in absurd (omega arith)
    ] in
    span_of_none c.args.tokens.now c.args.self.now c.requires c.first_at_line-row.result c.first_of-first.result
    (g.P.Probe.position c.args.probe.now).0
    c.first_of-first.ensures.within c.first_of-first.ensures.past
    (subst (λ xs. c.first_at_line-row.result ≤ length xs) same c.first_at_line-row.ensures.within)
    (subst (λ xs. 0 < c.first_at_line-row.result → slice_index xs (c.first_at_line-row.result - 1)
    < (g.P.Probe.position c.args.probe.now).0) same c.first_at_line-row.ensures.before)
    (subst (λ xs. c.first_at_line-row.result < length xs
    → (g.P.Probe.position c.args.probe.now).0 < slice_index xs c.first_at_line-row.result) same more)
