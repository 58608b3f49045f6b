use Rattle.std.proofs.Common.{refl}
use Rattle.sourcemap_index_model.specs.Flat.{merged}
use Rattle.sourcemap_index_flatten.proofs.FlatLemmas.{part-of_flat}
use Rattle.sourcemap_index_flatten.proofs.gathering.Gathering.add_flat.Goals as goal

pub returns-clause-ok : goal.returns-clause-ok
returns-clause-ok c = λ before inner file g is.
    c.add_part.ensures.ok before (merged file inner) g
    (part-of_flat file inner c.args.map.now _ is c.as_slice.ensures.value refl c.as_slice-2.ensures.value
    c.as_slice-3.ensures.value)

pub returns-clause-refused : goal.returns-clause-refused
returns-clause-refused c = λ before inner file g is.
    c.add_part.ensures.refused before (merged file inner) g
    (part-of_flat file inner c.args.map.now _ is c.as_slice.ensures.value refl c.as_slice-2.ensures.value
    c.as_slice-3.ensures.value)
