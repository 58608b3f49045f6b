use Rattle.sourcemap_references.proofs.ReferenceLemmas.{refused_by_memory, same_found}
use Rattle.sourcemap_references.proofs.detector.readers_find_what_slices_do.Goals as goal

pub returns-clause-found : goal.returns-clause-found
returns-clause-found c = same_found

pub returns-clause-refused : goal.returns-clause-refused
returns-clause-refused c = refused_by_memory
