use Rattle.sourcemap_cli.proofs.ChecksLemmas.{BelowSoFar}
use Rattle.sourcemap_cli.proofs.checks.source_files.Given as goal

abbrev pub invariant-loop-id : goal.invariant-loop-id
invariant-loop-id g l = BelowSoFar l.map l.files.items l.id
