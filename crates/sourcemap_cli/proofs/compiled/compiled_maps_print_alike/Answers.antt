-- The meaning in the file is that in the map, less the scope.
use Rattle.sourcemap_cli.proofs.CompiledLemmas.{printed_alike}
use Rattle.sourcemap_cli.proofs.compiled.compiled_maps_print_alike.Goals as goal

pub returns : goal.returns
returns c = λ contents t bytes is. printed_alike t bytes (c.compiled_maps_mean_the_same.ensures contents t bytes is)
