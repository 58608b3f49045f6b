-- A command other than `compose` takes no second map. A command other than `trace` takes no positions.
use Rattle.std.proofs.Common.{◌≢◌, None, refl, String, Global}
use Rattle.sourcemap_cli.specs.Command.{TakesAdjustment}
use Rattle.sourcemap_cli.specs.declared.command.Command.{Command}
use Rattle.sourcemap_cli.specs.declared.command.Command.TheVariants.{Compose}
use Rattle.sourcemap_cli.proofs.ProgramLemmas.{of_maps}
use Rattle.sourcemap_tool_tests.proofs.runs.command_prints.Goals as goal

takes_none : (X : Type 0) (command : Command) → ((path : String Global) → command ≢ Compose path) → TakesAdjustment {X = X} command None
takes_none X (Compose path) other = absurd (other path refl)
takes_none X command other = refl

pub apply-requires : goal.apply-requires
apply-requires c = record {
  adjustment = takes_none _ c.args.command.now c.in_default.not-Compose;
  of_maps = of_maps c.args.command.now c.in_default.not-Trace;
}
