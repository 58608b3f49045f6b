use Rattle.std.proofs.Common.{◌∙◌}
use Rattle.sourcemap_compiled.specs.Numbers.{u64_at}
use Rattle.sourcemap_compiled.proofs.NumbersLemmas.{little_from-same}
use Rattle.sourcemap_compiled.proofs.numbers.u64_of_few.Goals as goal

pub returns : goal.returns
unfolding u64_at
returns c = c.read_u64.ensures ∙ little_from-same 0 8 c.padded.result c.args.bytes.now c.padded.ensures.same
