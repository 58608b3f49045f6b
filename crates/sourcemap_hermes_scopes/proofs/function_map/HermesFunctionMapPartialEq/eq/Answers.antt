-- `eq` returns true for two function maps exactly if the maps are equal.
use Rattle.sourcemap_hermes_scopes.proofs.FunctionMapLemmas.{offsets_decide}
use Rattle.sourcemap_hermes_scopes.proofs.function_map.HermesFunctionMapPartialEq.eq.Goals as goal

pub returns-clause-same : goal.returns-clause-same
returns-clause-same c =
    rw c.same_items.ensures (rw (c.self.view_is, c.other.view_is) (offsets_decide c.args.self.now c.args.other.now))
