use Rattle.std.proofs.Common.{◌∙◌, get_or, ap, arith}
use Rattle.std.proofs.lemmas.List.{take_more}
use Rattle.std.proofs.lemmas.List.Sums.{fold-append}
use Rattle.sourcemap.specs.TokenWalk.{function_name}
use Rattle.sourcemap_bench.specs.Sums.{mixed}
use Rattle.sourcemap_bench.specs.ViewSums.{absent_name, name_worth}
use Rattle.sourcemap_bench.proofs.view_sums.name_sum.Goals as goal

pub loop-position-preserved : goal.loop-position-preserved
loop-position-preserved c =
    let i = c.loop-position.position-index in
    let p = get_or c.args.positions.now i (0, 0) in
    rw (take_more c.args.positions.now i (0, 0) (omega arith), fold-append)
    (c.add_guess-sum.ensures ∙ ap (λ sum.
    mixed sum (name_worth (function_name c.args.map.now c.args.view.now absent_name p))) c.loop-position.invariant)
