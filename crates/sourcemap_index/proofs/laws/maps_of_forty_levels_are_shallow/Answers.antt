use Rattle.sourcemap_index.proofs.WrittenValueLemmas.{shallow_within}
use Rattle.sourcemap_index.proofs.laws.maps_of_forty_levels_are_shallow.Goals as goal

pub returns : goal.returns
returns c = shallow_within
