use Rattle.std.proofs.Common.{◌≡◌, ℕ, ◌%◌, ◌^◌, arith}
use Rattle.sourcemap_compiled.specs.Numbers.{bits_at}
use Rattle.sourcemap_compiled.proofs.blocks.Field.number.Goals as goal

no_bits : (n width : ℕ) → width ≡ 0 → 0 ≡ n % 2 ^ width
no_bits n width none = rw none (omega arith)

pub returns-then-self-eq0-clause-value : goal.returns-then-self-eq0-clause-value
unfolding bits_at
returns-then-self-eq0-clause-value c = no_bits _ c.args.self.now.width c.if-self-eq0.true
