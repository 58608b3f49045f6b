use Rattle.std.proofs.Common.{◌∷◌, ap, codes}
use Rattle.sourcemap_cli.proofs.CommandLemmas.{no_check}
use Rattle.sourcemap_cli.proofs.command.check_command.Goals as goal

pub returns-in-Some : goal.returns-in-Some
returns-in-Some c = ap (λ words. codes "check" ∷ words) (rw c.in-Some.is at c.in_ok-checking.ensures)

pub returns-in-None : goal.returns-in-None
returns-in-None c = no_check _ (rw c.in-None.is at c.in_ok-checking.ensures)
