use Rattle.sourcemap_hermes.proofs.EncodeLemmas.{scoped_once}
use Rattle.sourcemap_hermes.proofs.encode.written_records_are_determined.Goals as goal

pub returns : goal.returns
returns c = scoped_once
