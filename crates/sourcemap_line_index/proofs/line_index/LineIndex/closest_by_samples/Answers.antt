use Rattle.std.proofs.Common.{sym, ap, ◌∙◌, arith, length, ◌≡◌, ◌<◌}
use Rattle.std.proofs.lemmas.Bool.{eqb-true}
use Rattle.std.specs.Ordering.{is_eq}
use Rattle.sourcemap_line_index.proofs.ClosestLemmas.{binary_digits_suffice, closest-in-none, count_before_last}
use Rattle.sourcemap_line_index.proofs.ClosestLemmas.{count_in_all, closest-at-index}
use Rattle.sourcemap_line_index.proofs.SamplesLemmas.{sampled_some}
use Rattle.sourcemap_line_index.proofs.line_index.LineIndex.closest_by_samples.Goals as goal

pub returns-then-is_empty-clause-answer : goal.returns-then-is_empty-clause-answer
returns-then-is_empty-clause-answer g c = closest-in-none c.args.tokens.now (g.P.Probe.position c.args.probe.now)
    c.requires.made.0 (eqb-true (length c.args.tokens.now) 0 (sym c.is_empty.ensures ∙ c.if-is_empty.true))

pub returns-clause-answer : goal.returns-clause-answer
returns-clause-answer g c =
    let searched = c.first_by_samples-index.ensures in
    let found = searched.found in
    let span = c.span_of-first.ensures.span in
    let inside = span.inside in
    let here : c.first_by_samples-index.result < c.span_of-first.result.1
    → c.min-nearest.result ≡ c.first_by_samples-index.result = λ l. omega (arith, c.min-nearest.ensures) in
    closest-at-index c.args.tokens.now (g.P.Probe.position c.args.probe.now) c.span_of-first.result.0
    c.span_of-first.result.1 c.first_by_samples-index.result c.requires.made.0 span found.at_least found.at_most
    _ c.span_of-first.ensures.kept found.before found.from _ c.min-nearest.result _ searched.kept here c.is_eq.result
    (c.is_eq.ensures
    ∙ ap is_eq c.column.ensures.answer) c.from.result c.from.ensures c.checked_sub.result c.checked_sub.ensures

pub returns-clause-counted : goal.returns-clause-counted
returns-clause-counted g c =
    let searched = c.first_by_samples-index.ensures in
    let left =
    count_before_last (length c.args.tokens.now) (length c.args.self.now.lines) (length c.args.samples.now) _ _ _ _
    (binary_digits_suffice (length c.args.tokens.now)) c.requires.made.1.few c.requires.made.1.filled
    (sampled_some _ _ _ c.requires.sampled) c.span_of-first.ensures.counted searched.counted_none searched.counted in
    count_in_all _ _ _ _ left c.column.ensures.counted

pub first_by_samples-index-requires-clause-sampled : goal.first_by_samples-index-requires-clause-sampled
first_by_samples-index-requires-clause-sampled g c = λ some. (c.requires.sampled some).0
