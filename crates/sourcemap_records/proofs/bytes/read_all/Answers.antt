-- The bytes that the reader specifies were read.
use Rattle.std.proofs.Common.{rules}
use Rattle.sourcemap_records.proofs.bytes.read_all.Goals as goal

pub returns : goal.returns
returns g c = search rules
