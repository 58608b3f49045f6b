use Rattle.std.proofs.Common.{length, inl, inr, arith}
use Rattle.std.proofs.lemmas.Bool.{cases_lt}
use Rattle.std.proofs.lemmas.List.{places, get_or_past}
use Rattle.sourcemap_compiled.proofs.numbers.padded.Goals as goal

pub returns-clause-same : goal.returns-clause-same
returns-clause-same c k = elim (cases_lt k (length c.args.bytes.now)) [
  | inl within ↦ grind (arith, places)
  | inr past ↦ grind (arith, places, get_or_past)
]
