use Rattle.std.proofs.Common.{◌∙◌, arith, [], length, subst}
use Rattle.sourcemap_mappings.proofs.ReadLemmas.{LinesSoFar-none, LinesSoFar-more, LinesSoFar-all}
use Rattle.sourcemap_mappings.proofs.ReadOrder.{order_none}
use Rattle.sourcemap_line_index.specs.LineIndex.{IsLineTable}
use Rattle.sourcemap_line_index.proofs.TableLemmas.{table_of_none}
use Rattle.sourcemap_mappings.proofs.ReadTable.{below_next}
use Rattle.sourcemap_mappings.proofs.read.read_lines.Goals as goal

pub loop-lines-init : goal.loop-lines-init
loop-lines-init c = record {
  numbers = omega arith;
  so_far = rw c.in_ok-tokens.ensures.items (LinesSoFar-none _ _);
  below = rw c.in_ok-tokens.ensures.items tt;
  table = rw (c.in_ok-tokens.ensures.items, c.of_none-table.ensures) (table_of_none []);
  order = rw c.in_ok-tokens.ensures.items (λ rises. order_none (0, 0));
}

pub loop-lines-preserved : goal.loop-lines-preserved
loop-lines-preserved c = record {
  numbers = let left = rw c.in-Some.is at c.loop-lines.invariant.numbers in omega (arith, c.split_line.ensures.shorter);
  so_far =
      let so_far =
      rw (c.in-Some.is, c.split_line.ensures.split, c.next_bits.ensures) at c.loop-lines.invariant.so_far in
      LinesSoFar-more _ _ _ (c.split_line.result.0.now, c.next_bits.result.0.now) _ _ _ _ _ so_far
      (rw (c.as_bytes.ensures.value, c.as_bytes-in-Some.ensures.value) at
      (c.in_ok-sums.ensures.added so_far.before so_far.sums_after));
  below = below_next c.loop-lines.number c.loop-lines.tokens.items _ c.loop-lines.invariant.below
      c.in_ok-sums.ensures.on_line;
  table =
      let on_line = c.in_ok-sums.ensures.on_line in
      let value = c.as_slice.ensures.value in
      subst (λ tokens. IsLineTable tokens (length tokens) c.add_row.new.table) value
      (c.in_ok-add_row.ensures.row c.loop-lines.number c.loop-lines.tokens.items on_line.0 (value ∙ on_line.1)
      (c.len-first.ensures ∙ c.loop-lines.tokens.ok.0)
      c.loop-lines.invariant.below on_line.2 c.loop-lines.invariant.table);
  order = c.in_ok-sums.ensures.order c.loop-lines.invariant.order;
}

pub returns-clause-read : goal.returns-clause-read
returns-clause-read c = LinesSoFar-all _ _ _ _ _ (rw c.in_default.is at c.loop-lines.invariant.so_far)

pub returns-clause-table : goal.returns-clause-table
returns-clause-table c = λ rises. ((c.loop-lines.invariant.order rises).0, c.loop-lines.invariant.table)
