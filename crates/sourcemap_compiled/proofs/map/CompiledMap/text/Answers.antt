use Rattle.std.proofs.Common.{◌-◌, slice_range, arith}
use Rattle.std.proofs.lemmas.Bool.Decides.{nat_tests}
use Rattle.sourcemap_compiled.proofs.map.CompiledMap.text.Goals as goal

pub returns-in-Err-clause-text : goal.returns-in-Err-clause-text
returns-in-Err-clause-text c = (
  slice_range c.args.self.now.bytes.now c.u32_at-start.result (c.u32_at-end.result - 1),
  grind (arith, nat_tests),
  c.in-Err.ensures,
)
