use Rattle.sourcemap_cli.proofs.CommandLemmas.{no_shift}
use Rattle.std.proofs.Common.{refl}
use Rattle.sourcemap_cli.proofs.command.shift_command.Goals as goal

pub returns-in_err-rows : goal.returns-in_err-rows
returns-in_err-rows c = rw c.from_residual.ensures (no_shift c.args.rows.now c.in_err-rows.ensures)

pub returns : goal.returns
returns c = (c.args.rows.now, refl, c.in_ok-rows.ensures)
