use Rattle.std.proofs.Common.{[], ◌≡◌, false}
use Rattle.sourcemap_headers.specs.HeaderReader.{Outputs, has_failed}
use Rattle.sourcemap_headers.proofs.header_reader.StripHeaderReader.read_after_junk.Given as goal

-- no output so far, and no error
abbrev pub invariant-loop : goal.invariant-loop
invariant-loop g l = Outputs g.R.Read.remaining l.initial.self l.self [] × (has_failed l.self ≡ false)
