use Rattle.std.proofs.Common.{◌-◌, ◌≤◌, length}
use Rattle.sourcemap_tokens.specs.Search.{GivesKey}
use Rattle.sourcemap_tokens.proofs.SearchLemmas.{IsBracket}
use Rattle.sourcemap_tokens.proofs.search.greatest_lower_bound.Given as goal

abbrev pub invariant-loop-low : goal.invariant-loop-low
invariant-loop-low g l = record {
  ordered : l.low ≤ l.high;
  within : l.high ≤ length l.slice;
  bracket : (key_of : _) → GivesKey (λ x k. g.F.Fn.post l.map (x, tt) k) key_of
      → IsBracket key_of g.K.Ord.cmp l.slice l.key l.low l.high;
}

abbrev pub decreases-loop-low : goal.decreases-loop-low
decreases-loop-low g l = l.high - l.low
