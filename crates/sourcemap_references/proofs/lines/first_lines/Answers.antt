use Rattle.std.proofs.Common.{◌∙◌, sym, arith}
use Rattle.sourcemap_references.proofs.LineLemmas.{decides, passed-start, passed-line, unmarked}
use Rattle.sourcemap_references.proofs.lines.first_lines.Goals as goal

pub loop-least-init : goal.loop-least-init
loop-least-init c = passed-start c.args.bytes.now

pub returns-then-has_mark-clause-marked : goal.returns-then-has_mark-clause-marked
returns-then-has_mark-clause-marked c =
    decides c.args.bytes.now _ c.loop-least.invariant c.line_end-end.ensures
    (sym c.has_mark.ensures ∙ c.if-has_mark.true)

pub returns-then-end-least-clause-unmarked : goal.returns-then-end-least-clause-unmarked
returns-then-end-least-clause-unmarked c =
    unmarked c.args.bytes.now c.loop-least.start _ c.loop-least.invariant c.line_end-end.ensures
    (sym c.has_mark.ensures ∙ c.if-has_mark.false)

pub loop-least-preserved : goal.loop-least-preserved
loop-least-preserved c =
    passed-line c.args.bytes.now c.loop-least.start _ c.loop-least.invariant c.line_end-end.ensures
    (sym c.has_mark.ensures ∙ c.if-has_mark.false)
    (let few = c.requires in omega (arith, few, c.if-end-least.false))
