-- If the file decodes to the map `adjustment`, the result is `map` adjusted by `adjustment`, as a JSON line, or the
-- error of adjusting `map`. If the file cannot be read or decoded, the result is the error of reading or decoding the
-- file. `OutOfMemory` is always allowed.
use Rattle.std.proofs.lemmas.Result.{err_from_is_err_and}
use Rattle.sourcemap.specs.AnyMap.{map_tree}
use Rattle.sourcemap_cli.specs.Program.{file_read}
use Rattle.sourcemap_cli.proofs.ProgramLemmas.{composes_with, composes_with_none}
use Rattle.sourcemap_cli.proofs.program.compose.Goals as goal

pub returns : goal.returns
returns c = λ path.
    composes_with path (file_read c.args.file) (map_tree c.args.map) (map_tree c.in_ok-adjustment.adjustment)
    c.adjusted_json.result c.in_ok-adjustment.ensures (c.adjusted_json.ensures path)

pub returns-in_err-adjustment : goal.returns-in_err-adjustment
returns-in_err-adjustment c = λ path.
    let p = err_from_is_err_and c.from_residual.result c.from_residual.ensures.1 in
    rw (p.1, p.2)
    (composes_with_none path (file_read c.args.file) (map_tree c.args.map) _ c.in_err-adjustment.ensures)
