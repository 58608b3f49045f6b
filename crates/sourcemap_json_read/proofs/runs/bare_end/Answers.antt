use Rattle.std.proofs.Common.{sym, ap, ◌∙◌, arith}
use Rattle.sourcemap_json_read.specs.Runs.{is_bare_stop}
use Rattle.sourcemap_json_read.proofs.RunLemmas.{run_goes_on, run_stops, run_within}
use Rattle.sourcemap_json_read.proofs.runs.bare_end.Goals as goal
use lib.Count.{count_trailing_zeros}

pub returns-then-stops-ne0-clause-value : goal.returns-then-stops-ne0-clause-value
returns-then-stops-ne0-clause-value c =
    let found = c.bare_stops-stops in
    let run = run_stops is_bare_stop c.args.text.now c.loop-at.at 32 (omega arith) (omega arith) (omega
    (arith, found.ensures)) ∙ ap (count_trailing_zeros 64) (sym found.ensures) in
    omega (arith, run, c.loop-at.invariant.0)

pub returns-then-stops-ne0-clause-within : goal.returns-then-stops-ne0-clause-within
returns-then-stops-ne0-clause-within c =
    let found = c.bare_stops-stops in
    let run = run_stops is_bare_stop c.args.text.now c.loop-at.at 32 (omega arith) (omega arith) (omega
    (arith, found.ensures)) ∙ ap (count_trailing_zeros 64) (sym found.ensures) in
    omega (arith, run, run_within is_bare_stop c.args.text.now c.loop-at.at c.loop-at.invariant.1)

pub loop-at-preserved : goal.loop-at-preserved
loop-at-preserved c =
    let run = run_goes_on is_bare_stop c.args.text.now c.loop-at.at 32 (omega arith) (omega
    (arith, c.bare_stops-stops.ensures)) in
    (omega (arith, run, c.loop-at.invariant.0), omega arith)
