-- The result is what `json_line` returns for the adjusted map, or the error of adjusting.
use Rattle.std.proofs.Common.{Some}
use Rattle.std.proofs.lemmas.Result.{err_from_is_err_and}
use Rattle.sourcemap.specs.AnyMap.{map_tree}
use Rattle.sourcemap_index.proofs.FamilyLemmas.{regular_tree}
use Rattle.sourcemap.specs.declared.types.DecodedMap.TheVariants.{Regular}
use Rattle.sourcemap_cli.proofs.ProgramLemmas.{returns_adjusted, returns_no_adjusted}
use Rattle.sourcemap_cli.proofs.output.adjusted_json.Goals as goal

pub returns : goal.returns
returns c = λ path.
    returns_adjusted path (map_tree c.args.map) (Some (map_tree c.args.adjustment)) c.in_ok-adjusted.adjusted
    (map_tree (Regular c.in_ok-adjusted.adjusted)) c.json_line.result
    c.in_ok-adjusted.ensures (regular_tree c.in_ok-adjusted.adjusted) c.json_line.ensures

pub returns-in_err-adjusted : goal.returns-in_err-adjusted
returns-in_err-adjusted c = λ path.
    let p = err_from_is_err_and c.from_residual.result c.from_residual.ensures.1 in
    rw (p.1, p.2) (returns_no_adjusted path (map_tree c.args.map) (Some (map_tree c.args.adjustment)) _
    c.in_err-adjusted.ensures)
