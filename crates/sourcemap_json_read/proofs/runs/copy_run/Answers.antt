use Rattle.std.proofs.Common.{◌≡◌, ◌+◌, ◌-◌, ◌≤◌, ◌++◌, length, take, drop, sym, ap, ◌∙◌, arith}
use Rattle.sourcemap_json_read.specs.Runs.{is_stop}
use Rattle.sourcemap_json_read.proofs.RunLemmas.{copied_more, cut_back, run_goes_on, run_stops, run_within, stop_inside}
use Rattle.sourcemap_json_read.proofs.runs.copy_run.Goals as goal
use lib.Count.{count_trailing_zeros}

pub returns-then-stops-ne0-clause-value : goal.returns-then-stops-ne0-clause-value
returns-then-stops-ne0-clause-value c =
    let found = c.stops-stops in
    let run = run_stops is_stop c.args.text.now c.loop-at.at 32 (omega arith) (omega arith) (omega
    (arith, found.ensures)) ∙ ap (count_trailing_zeros 64) (sym found.ensures) in
    omega (arith, run, c.loop-at.invariant.0)

pub returns-then-stops-ne0-clause-within : goal.returns-then-stops-ne0-clause-within
returns-then-stops-ne0-clause-within c =
    let found = c.stops-stops in
    let run = run_stops is_stop c.args.text.now c.loop-at.at 32 (omega arith) (omega arith) (omega
    (arith, found.ensures)) ∙ ap (count_trailing_zeros 64) (sym found.ensures) in
    omega (arith, run, run_within is_stop c.args.text.now c.loop-at.at c.loop-at.invariant.2)

pub returns-then-stops-ne0-clause-copied : goal.returns-then-stops-ne0-clause-copied
returns-then-stops-ne0-clause-copied c =
    let text = c.args.text.now in
    let at = c.loop-at.at in
    let n = count_trailing_zeros 64 c.stops-stops.result in
    let out = c.loop-at.out.items in
    let run = run_stops is_stop text at 32 (omega arith) (omega arith) (omega (arith, c.stops-stops.ensures))
    ∙ ap (count_trailing_zeros 64) (sym c.stops-stops.ensures) in
    let mask = c.stops-stops.ensures in
    let few : n ≤ 32 = omega (
      arith,
      stop_inside is_stop text at 32 (omega arith) (omega arith) (omega (arith, mask)),
      ap (count_trailing_zeros 64) mask,
    ) in
    let width : at + 32 - at ≡ 32 = omega arith in
    let whole : c.extend_from_slice.new.self.items ≡ out ++ take 32 (drop at text) =
    c.in_ok-extend_from_slice.ensures.items ∙ ap (λ k. out ++ take k (drop at text)) width in
    let length_before : c.len-before.result ≡ length out = omega (arith, c.len-before.ensures) in
    let cut : c.truncate.new.self.items ≡ take (length out + n) c.extend_from_slice.new.self.items =
    c.truncate.ensures.items ∙ ap (λ k. take (k + n) c.extend_from_slice.new.self.items) length_before in
    cut ∙ cut_back out (drop at text) _ n 32 few whole
    ∙ copied_more out c.args.out.now.items text c.args.from at n c.loop-at.invariant.1 c.loop-at.invariant.3

pub loop-at-preserved : goal.loop-at-preserved
loop-at-preserved c =
    let text = c.args.text.now in
    let at = c.loop-at.at in
    let out = c.loop-at.out.items in
    let width : at + 32 - at ≡ 32 = omega arith in
    let whole : c.extend_from_slice.new.self.items ≡ out ++ take 32 (drop at text) =
    c.in_ok-extend_from_slice.ensures.items ∙ ap (λ k. out ++ take k (drop at text)) width in
    let run =
    run_goes_on is_stop c.args.text.now c.loop-at.at 32 (omega arith) (omega (arith, c.stops-stops.ensures)) in (
      omega (arith, run, c.loop-at.invariant.0),
      omega arith,
      omega arith,
      whole ∙ copied_more out c.args.out.now.items text c.args.from at 32 c.loop-at.invariant.1 c.loop-at.invariant.3,
    )

pub returns-clause-copied : goal.returns-clause-copied
returns-clause-copied c =
    let text = c.args.text.now in
    let at = c.loop-at.at in
    let end = c.run_end_by_bytes-end in
    let out = c.loop-at.out.items in
    let ends : at + (end.result - at) ≡ end.result = omega (arith, end.ensures.value) in
    c.in_ok-extend_from_slice-2.ensures.items ∙ copied_more out c.args.out.now.items text c.args.from at (end.result
    - at) c.loop-at.invariant.1 c.loop-at.invariant.3
    ∙ ap (λ k. c.args.out.now.items ++ take (k - c.args.from) (drop c.args.from text)) ends
