use Rattle.sourcemap_hermes.proofs.NamesLemmas.{names_restored}
use Rattle.sourcemap_hermes.proofs.encode.restored_maps_name_functions_alike.Goals as goal

pub returns : goal.returns
returns c = names_restored
