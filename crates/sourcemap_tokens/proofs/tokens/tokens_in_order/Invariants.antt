use Rattle.std.proofs.Common.{◌≡◌, ℕ, ◌+◌, ◌-◌, ◌<◌, get_or, false}
use Rattle.std.specs.Ordering.{is_lt}
use Rattle.sourcemap_tokens.specs.declared.tokens.RawToken.{RawToken}
use Rattle.sourcemap_tokens.specs.Tokens.{destination, position_cmp}
use Rattle.sourcemap_tokens.proofs.tokens.tokens_in_order.Given as goal

abbrev pub invariant-loop-token : goal.invariant-loop-token
invariant-loop-token l = record {
  start : l.token-index ≡ 0 → ◌≡◌ {A = ℕ × ℕ} (l.line, l.col) (0, 0);
  last : (d : RawToken) → 0 < l.token-index → destination (get_or l.tokens (l.token-index - 1) d) ≡ (l.line, l.col);
  so_far : (k : ℕ) (d : RawToken) → k + 1 < l.token-index
      → is_lt (position_cmp (destination (get_or l.tokens (k + 1) d)) (destination (get_or l.tokens k d))) ≡ false;
}
