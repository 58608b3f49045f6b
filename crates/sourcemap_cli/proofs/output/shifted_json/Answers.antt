-- The index map with its sections moved, or an error: a section would pass the last row, or the map is no
-- index map.
use Rattle.std.proofs.Common.{◌∙◌, ap, refl}
use Rattle.std.proofs.lemmas.Result.{err_from_is_err_and}
use Rattle.sourcemap.specs.AnyMap.{index_value, map_tree}
use Rattle.sourcemap.specs.Trees.{index_tree}
use Rattle.sourcemap_index.proofs.FamilyLemmas.{index_tree-of}
use Rattle.sourcemap.specs.declared.types.DecodedMap.TheVariants.{Index}
use Rattle.sourcemap_cli.proofs.ProgramLemmas.{no_index_shift, returns_no_shift, returns_shifted}
use Rattle.sourcemap_cli.proofs.output.shifted_json.Goals as goal

pub returns-then-not-adjust_sections_offset_rows :
    goal.returns-then-not-adjust_sections_offset_rows
returns-then-not-adjust_sections_offset_rows c =
    rw c.in_ok-index.ensures
    (returns_no_shift c.args.rows (index_value c.in_ok-index.index)
    (λ left. let no = c.if-not-adjust_sections_offset_rows.ensures.possible.1 left in cc))

pub returns : goal.returns
returns c =
    let moved = c.adjust_sections_offset_rows.new.self in
    rw c.in_ok-index.ensures
    (returns_shifted c.args.rows (index_value c.in_ok-index.index) (map_tree (Index moved)) c.json_line.result
    (c.if-not-adjust_sections_offset_rows.ensures.possible.0 refl)
    (index_tree-of moved ∙ ap index_tree c.if-not-adjust_sections_offset_rows.ensures.value) c.json_line.ensures)

pub returns-in_err-index : goal.returns-in_err-index
returns-in_err-index c =
    let p = err_from_is_err_and c.from_residual.result c.from_residual.ensures.1 in
    rw (p.1, p.2) (no_index_shift c.args.rows (map_tree c.args.map) _ c.in_err-index.ensures)
