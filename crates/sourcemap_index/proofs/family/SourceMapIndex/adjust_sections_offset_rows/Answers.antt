-- prover: explicit search
use Rattle.std.proofs.Common.{rules}
use Rattle.sourcemap_index.proofs.family.SourceMapIndex.adjust_sections_offset_rows.Goals as goal

pub returns-then-not-have_rows_left-clause-value : goal.returns-then-not-have_rows_left-clause-value
returns-then-not-have_rows_left-clause-value c = search rules
