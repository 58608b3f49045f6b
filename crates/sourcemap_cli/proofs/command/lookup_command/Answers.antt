use Rattle.sourcemap_cli.proofs.CommandLemmas.{no_lookup}
use Rattle.std.proofs.Common.{refl}
use Rattle.sourcemap_cli.proofs.command.lookup_command.Goals as goal

pub returns-in_err-line : goal.returns-in_err-line
returns-in_err-line c =
    rw c.from_residual.ensures
    (no_lookup c.args.line.now c.args.col.now c.args.counting (λ l k p q. c.in_err-line.ensures l p))

pub returns-in_err-col : goal.returns-in_err-col
returns-in_err-col c =
    rw c.from_residual-in_err-col.ensures
    (no_lookup c.args.line.now c.args.col.now c.args.counting (λ l k p q. c.in_err-col.ensures k q))

pub returns : goal.returns
returns c = (c.args.line.now, c.args.col.now, refl, c.in_ok-line.ensures, c.in_ok-col.ensures)
