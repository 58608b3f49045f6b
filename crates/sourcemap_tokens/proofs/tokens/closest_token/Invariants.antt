use Rattle.std.proofs.Common.{◌-◌, ◌≤◌, length}
use Rattle.sourcemap_tokens.specs.Tokens.{destination, position_cmp}
use Rattle.sourcemap_tokens.proofs.SearchLemmas.{IsBracket}
use Rattle.sourcemap_tokens.proofs.tokens.closest_token.Given as goal

abbrev pub invariant-loop-low : goal.invariant-loop-low
invariant-loop-low l = record {
  ordered : l.low ≤ l.high;
  within : l.high ≤ length l.tokens;
  bracket : IsBracket destination position_cmp l.tokens (l.line, l.col) l.low l.high;
}

abbrev pub decreases-loop-low : goal.decreases-loop-low
decreases-loop-low l = l.high - l.low
