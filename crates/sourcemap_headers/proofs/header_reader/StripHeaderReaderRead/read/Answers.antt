-- prover: explicit search
use Rattle.std.proofs.Common.{rules}
use Rattle.sourcemap_headers.proofs.header_reader.StripHeaderReaderRead.read.Goals as goal

pub returns-in-Invalid-clause-refused : goal.returns-in-Invalid-clause-refused
returns-in-Invalid-clause-refused g c = search rules
