-- prover: explicit search
use Rattle.std.proofs.Common.{rules}
use Rattle.sourcemap_headers.proofs.header.strip_junk_header.Goals as goal

pub returns-then-not-begins_junk_header-clause-bytes : goal.returns-then-not-begins_junk_header-clause-bytes
returns-then-not-begins_junk_header-clause-bytes c = search rules

pub returns-then-not-begins_junk_header-clause-error : goal.returns-then-not-begins_junk_header-clause-error
returns-then-not-begins_junk_header-clause-error c = search rules

pub returns-then-first-eq10-clause-bytes : goal.returns-then-first-eq10-clause-bytes
returns-then-first-eq10-clause-bytes c = search rules

pub returns-then-first-eq10-clause-error : goal.returns-then-first-eq10-clause-error
returns-then-first-eq10-clause-error c = search rules

pub returns-then-continues_line-clause-bytes : goal.returns-then-continues_line-clause-bytes
returns-then-continues_line-clause-bytes c = search rules

pub returns-clause-error : goal.returns-clause-error
returns-clause-error c = search rules
