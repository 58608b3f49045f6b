use Rattle.std.proofs.Common.{◌≡◌, ◌==◌, ◌∙◌, arith, lit<, refl, rules, ap, slice_index}
use Rattle.std.proofs.lemmas.Iterator.Splits.{YieldsList-from_str_split}
use Rattle.std.proofs.lemmas.Iterator.Consumers.{YieldsList-turn, YieldsList-end}
use Rattle.std.proofs.lemmas.List.{length_push}
use Rattle.std.proofs.lemmas.List.Splits.{length-slice_split}
use Rattle.std.proofs.lemmas.List.Sums.{count_by-le-length}
use Rattle.sourcemap_check_segments.specs.Segments.{semicolon}
use Rattle.sourcemap_check_order.specs.Ranges.{line_fits}
use Rattle.sourcemap_check_order.proofs.RangeLemmas.{LinesFitSoFar-more, LinesFitSoFar-all}
use Rattle.sourcemap_check_order.proofs.ranges.text_fits.Goals as goal

pub loop-line-init : goal.loop-line-init
loop-line-init c = record { number = search rules; so_far = record { rest = refl } }

pub overflow_add-number : goal.overflow_add-number
overflow_add-number c =
    let t = YieldsList-turn (YieldsList-from_str_split semicolon c.args.text.now (lit< tt) (cc) (cc) (cc))
    c.loop-line.yielded _ c.loop-line.yielded_by _ _ c.in-Some.line c.in-Some.is c.next.ensures.steps in
    let n = c.loop-line.invariant.number in
    omega (
      arith,
      t.0,
      n,
      length-slice_split (λ b. b == semicolon) c.args.text.now,
      count_by-le-length (λ b. b == semicolon) c.args.text.now,
    )

pub loop-line-preserved : goal.loop-line-preserved
loop-line-preserved c =
    let t = YieldsList-turn (YieldsList-from_str_split semicolon c.args.text.now (lit< tt) (cc) (cc) (cc))
    c.loop-line.yielded _ c.loop-line.yielded_by _ _ c.in-Some.line c.in-Some.is c.next.ensures.steps in
    let n = c.loop-line.invariant.number in
    let count : c.unwrap_or-count.result ≡ slice_index c.args.counts.now c.loop-line.number = search rules in
    record {
      number = (let more = length_push c.loop-line.yielded c.in-Some.line in omega (arith, n, more));
      so_far = LinesFitSoFar-more _ _ _ _ c.in-Some.line.now _ _ c.loop-line.invariant.so_far (rw n t.0) (rw n t.1)
          (c.line_fits-fits.ensures ∙ (ap (line_fits c.args.format c.unwrap_or-count.result) c.as_bytes.ensures.value
          ∙ ap (λ k. line_fits c.args.format k c.in-Some.line.now) count));
    }

pub returns : goal.returns
returns c =
    let t = YieldsList-end (YieldsList-from_str_split semicolon c.args.text.now (lit< tt) (cc) (cc) (cc))
    c.loop-line.yielded _ c.loop-line.yielded_by _ _ c.in-None.is c.next.ensures.steps in
    let n = c.loop-line.invariant.number in
    LinesFitSoFar-all _ _ _ _ _ c.loop-line.invariant.so_far (omega (arith, t.1, n))
