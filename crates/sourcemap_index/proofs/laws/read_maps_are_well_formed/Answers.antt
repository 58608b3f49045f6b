use Rattle.sourcemap_index.proofs.ReadLemmas.{bytes_read, url_read, value_read}
use Rattle.sourcemap_index.proofs.laws.read_maps_are_well_formed.Goals as goal

pub returns-clause-values : goal.returns-clause-values
returns-clause-values c = value_read

pub returns-clause-bytes : goal.returns-clause-bytes
returns-clause-bytes c = bytes_read

pub returns-clause-urls : goal.returns-clause-urls
returns-clause-urls c = url_read
