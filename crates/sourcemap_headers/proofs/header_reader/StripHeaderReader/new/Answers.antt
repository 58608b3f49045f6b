-- prover: explicit search
use Rattle.std.proofs.Common.{rules}
use Rattle.sourcemap_headers.proofs.header_reader.StripHeaderReader.new.Goals as goal

pub returns-clause-unread : goal.returns-clause-unread
returns-clause-unread g c = search rules
