use Rattle.std.proofs.Common.{◌≡◌, ℕ, ◌<◌, ◌*◌, length, slice_index}
use Rattle.sourcemap_tokens.specs.declared.tokens.RawToken.{RawToken}
use Rattle.sourcemap_line_index.specs.LineIndex.{col_at}
use Rattle.sourcemap_line_index.proofs.samples.columns_of.Given as goal

abbrev pub invariant-loop-sample : goal.invariant-loop-sample
invariant-loop-sample l = record {
  many : length l.columns.items ≡ l.sample;
  own : (k : ℕ) (d : RawToken) → k < l.sample → slice_index l.columns.items k ≡ col_at l.tokens d (8 * k);
}
