use Rattle.std.proofs.Common.{◌≡◌, length}
use Rattle.sourcemap_headers.specs.Header.{after_junk, after_header}
use Rattle.sourcemap_headers.proofs.header.strip_junk_header.Given as goal

-- `after_junk` of the rest is equal to `after_header` of all bytes
abbrev pub invariant-loop-rest : goal.invariant-loop-rest
invariant-loop-rest l = after_junk l.rest ≡ after_header l.fn.bytes

abbrev pub decreases-loop-rest : goal.decreases-loop-rest
decreases-loop-rest l = length l.rest
