use Rattle.std.proofs.Common.{arith}
use Rattle.sourcemap_json_read.proofs.RunLemmas.{mask_of_stops}
use Rattle.sourcemap_json_read.proofs.runs.block_stops.Goals as goal

pub returns : goal.returns
returns c = mask_of_stops 64 c.args.bytes c.fits-bytes.0 (omega arith)
