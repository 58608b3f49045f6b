use Rattle.sourcemap_line_index.proofs.ClosestLemmas.{binary_digits_fewest, binary_digits_suffice}
use Rattle.sourcemap_line_index.proofs.line_index.binary_digits_are_fewest.Goals as goal

pub returns-clause-enough : goal.returns-clause-enough
returns-clause-enough c = binary_digits_suffice

pub returns-clause-fewest : goal.returns-clause-fewest
returns-clause-fewest c = binary_digits_fewest
