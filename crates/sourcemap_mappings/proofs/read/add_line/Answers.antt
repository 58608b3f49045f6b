use Rattle.std.proofs.Common.{sym, ◌∙◌, ◌+◌}
use Rattle.sourcemap_mappings.specs.ReadSteps.{AreInOrderTo}
use Rattle.std.proofs.lemmas.Result.{IfOk-weaker}
use Rattle.sourcemap_mappings.proofs.ReadLemmas.{AddsLine-none, AddsLine-parts}
use Rattle.sourcemap_mappings.proofs.ReadOrder.{order_line}
use Rattle.sourcemap_mappings.proofs.ReadTable.{adds_none}
use Rattle.sourcemap_mappings.proofs.read.add_line.Goals as goal

pub returns-then-is_empty-clause-added : goal.returns-then-is_empty-clause-added
returns-then-is_empty-clause-added c = λ before sums.
    AddsLine-none _ _ before c.args.text.now c.args.bits.now _ _ (sym c.is_empty.ensures ∙ c.if-is_empty.true) sums

pub returns-clause-added : goal.returns-clause-added
returns-clause-added c = λ before sums.
    let adds = rw c.in-Ok.ensures.1 at (c.add_parts.ensures.added before sums) in
    IfOk-weaker _ _ _
    (λ after h. AddsLine-parts _ _ before c.args.text.now c.args.bits.now _ _ after
    (sym c.is_empty.ensures ∙ c.if-is_empty.false)
    c.in-Ok.ensures.0 c.in_ok-test_digits.ensures h) adds

pub returns-then-is_empty-clause-order : goal.returns-then-is_empty-clause-order
returns-then-is_empty-clause-order c = λ before rises. order_line c.args.number 0 c.args.tokens.now.items (before rises)

pub returns-clause-order : goal.returns-clause-order
returns-clause-order c = λ before.
    let order = rw c.in-Ok.ensures.1 at c.add_parts.ensures.order in
    IfOk-weaker c.add_parts.result (λ after. AreInOrderTo c.args.number after c.add_parts.new.tokens.items)
    (λ after. AreInOrderTo (c.args.number + 1) (record after { column = 0 }) c.add_parts.new.tokens.items)
    (λ after kept rises. order_line c.args.number after.column c.add_parts.new.tokens.items (kept rises)) (order before)

pub returns-then-is_empty-clause-on_line : goal.returns-then-is_empty-clause-on_line
returns-then-is_empty-clause-on_line c = adds_none c.args.number c.args.tokens.now.items
