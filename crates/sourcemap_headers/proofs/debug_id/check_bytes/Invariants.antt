use Rattle.std.proofs.Common.{◌<◌, ℕ, get_or}
use Rattle.sourcemap_headers.proofs.debug_id.check_bytes.Given as goal

abbrev pub invariant-bytes : goal.invariant-bytes
invariant-bytes l = (k : ℕ) → k < l.i → get_or l.bytes k 0 < 256
