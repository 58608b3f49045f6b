-- As `execute_on_bytes`, for the file that is read once the bytes are decoded.
use Rattle.std.proofs.lemmas.Result.{err_from_is_err_and}
use Rattle.sourcemap.specs.AnyMap.{map_tree}
use Rattle.sourcemap_cli.specs.Program.{file_read}
use Rattle.sourcemap_cli.proofs.ProgramLemmas.{returns_on_map, returns_on_no_map_unread}
use Rattle.sourcemap_index_model.proofs.WellFormedLemmas.{well_formed_in_order}
use Rattle.sourcemap_cli.proofs.program.execute_and_read_file.Goals as goal

pub returns : goal.returns
returns g c =
    let map = map_tree c.in_ok-map.map in
    let file = file_read c.read_command_file-file.result in (
      file,
      c.read_command_file-file.ensures,
      returns_on_map file c.args.command.now c.args.bytes.items map c.execute.result c.in_ok-map.ensures.answer
          (c.execute.ensures (well_formed_in_order map c.in_ok-map.ensures.well_formed)),
    )

pub returns-in_err-map : goal.returns-in_err-map
returns-in_err-map g c =
    let p = err_from_is_err_and c.from_residual.result c.from_residual.ensures.1 in
    rw (p.1, p.2) (returns_on_no_map_unread c.args.command.now c.args.bytes.items _ c.in_err-map.ensures.answer)
