use Rattle.sourcemap_bundle_split.proofs.WellFormedLemmas.{split_well}
use Rattle.sourcemap_bundle_split.proofs.laws.module_maps_are_well_formed.Goals as goal

pub returns : goal.returns
returns c = split_well c.flat_maps_are_well_formed.ensures
