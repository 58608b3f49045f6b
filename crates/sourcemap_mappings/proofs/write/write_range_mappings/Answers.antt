-- prover: explicit search
use Rattle.std.proofs.Common.{rules}
use Rattle.sourcemap_mappings.proofs.write.write_range_mappings.Goals as goal

pub returns-then-not-has_range-clause-text : goal.returns-then-not-has_range-clause-text
returns-then-not-has_range-clause-text c = search rules

pub returns-then-not-has_range-clause-memory : goal.returns-then-not-has_range-clause-memory
returns-then-not-has_range-clause-memory c = search rules

pub returns-in_err-range_text-clause-text : goal.returns-in_err-range_text-clause-text
returns-in_err-range_text-clause-text c = search rules

pub returns-in_err-range_text-clause-memory : goal.returns-in_err-range_text-clause-memory
returns-in_err-range_text-clause-memory c = search rules

pub returns-clause-text : goal.returns-clause-text
returns-clause-text c = search rules

pub returns-clause-memory : goal.returns-clause-memory
returns-clause-memory c = search rules
