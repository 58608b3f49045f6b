use Rattle.std.proofs.Common.{refl, arith}
use Rattle.std.proofs.lemmas.Nat.{and_mask, one_shl}
use Rattle.sourcemap_compiled.specs.Numbers.{bits_at}
use Rattle.sourcemap_compiled.proofs.numbers.bits_at.Goals as goal

pub returns-clause-number : goal.returns-clause-number
unfolding bits_at
returns-clause-number c =
    rw (one_shl c.args.width 64 (omega arith), and_mask, c.u64_anywhere-word.ensures) refl
