-- The result is what `json_line` returns for the flattened map, or an error of `into_index` or `flatten`.
use Rattle.std.proofs.lemmas.Result.{err_from_is_err_and}
use Rattle.sourcemap.specs.AnyMap.{index_value, map_tree}
use Rattle.sourcemap_index.proofs.FamilyLemmas.{regular_tree}
use Rattle.sourcemap.specs.declared.types.DecodedMap.TheVariants.{Regular}
use Rattle.sourcemap_cli.proofs.ProgramLemmas.{no_index_flat, returns_flat, returns_no_flat}
use Rattle.sourcemap_cli.proofs.output.flat_json.Goals as goal

pub returns : goal.returns
returns c =
    rw c.in_ok-index.ensures
    (returns_flat (index_value c.in_ok-index.index) c.in_ok-flat.flat (map_tree (Regular c.in_ok-flat.flat))
    c.json_line.result
    c.in_ok-flat.ensures.answer (regular_tree c.in_ok-flat.flat) c.json_line.ensures)

pub returns-in_err-flat : goal.returns-in_err-flat
returns-in_err-flat c =
    let r = c.from_residual-in_err-flat in
    let p = err_from_is_err_and r.result r.ensures.1 in
    rw (p.1, p.2, c.in_ok-index.ensures)
    (returns_no_flat (index_value c.in_ok-index.index) _ c.in_err-flat.ensures.answer)

pub returns-in_err-index : goal.returns-in_err-index
returns-in_err-index c =
    let r = c.from_residual in
    let p = err_from_is_err_and r.result r.ensures.1 in
    rw (p.1, p.2) (no_index_flat (map_tree c.args.map) _ c.in_err-index.ensures)
