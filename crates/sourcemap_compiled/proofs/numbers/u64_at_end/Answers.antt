use Rattle.std.proofs.Common.{refl, arith, inl, inr}
use Rattle.std.proofs.lemmas.List.{drop_all}
use Rattle.sourcemap_compiled.specs.Numbers.{u64_at}
use Rattle.sourcemap_compiled.proofs.numbers.u64_at_end.Goals as goal

pub returns-in-None : goal.returns-in-None
unfolding u64_at
returns-in-None c = elim c.in-None.ensures.lookup.0 [
  | inl past ↦ rw (drop_all c.args.offset c.args.bytes.now (omega arith)) refl
  | inr never ↦ absurd (omega arith)
]
