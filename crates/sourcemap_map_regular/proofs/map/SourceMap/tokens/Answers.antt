use Rattle.std.proofs.Common.{arith, subst}
use Rattle.sourcemap_tokens.specs.Tokens.{AreInOrder}
use Rattle.sourcemap_map_regular.specs.Map.{MapValue}
use Rattle.sourcemap_map_regular.proofs.MapLemmas.{length-tokens_from}
use Rattle.sourcemap_map_regular.proofs.map.SourceMap.tokens.Goals as goal

pub returns-clause-bound : goal.returns-clause-bound
returns-clause-bound c =
    rw (length-tokens_from c.args.self.now 0, ← c.self.view_is, ← c.as_slice.ensures.value) (omega arith)

pub returns-clause-in_order : goal.returns-clause-in_order
returns-clause-in_order c =
    subst (λ (m : MapValue). AreInOrder m.tokens) c.self.view_is
    (subst AreInOrder c.as_slice.ensures.value c.as_slice.ensures.in_order)
