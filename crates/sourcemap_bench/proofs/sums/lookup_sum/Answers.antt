use Rattle.std.proofs.Common.{◌∙◌, get_or, ap, arith}
use Rattle.std.proofs.lemmas.List.{take_more}
use Rattle.std.proofs.lemmas.List.Sums.{fold-append}
use Rattle.sourcemap.specs.AnyMap.{map_tree}
use Rattle.sourcemap.specs.Trees.{lookup}
use Rattle.sourcemap_bench.specs.Sums.{mixed, worth}
use Rattle.sourcemap_bench.proofs.sums.lookup_sum.Goals as goal

pub loop-position-preserved : goal.loop-position-preserved
loop-position-preserved c ordered =
    let i = c.loop-position.position-index in
    let p = get_or c.args.positions.now i (0, 0) in
    rw (take_more c.args.positions.now i (0, 0) (omega arith), fold-append)
    (c.add_lookup-sum.ensures ordered
    ∙ ap (λ sum. mixed sum (worth (lookup (map_tree c.args.map.now) p))) (c.loop-position.invariant ordered))
