use Rattle.std.proofs.Common.{◌∙◌, arith}
use Rattle.sourcemap_mappings.proofs.ReadTable.{no_row, row_added}
use Rattle.sourcemap_mappings.proofs.read.add_row.Goals as goal
use Rattle.sourcemap_mappings.proofs.read.add_row.Goals.{then-first-tokens+in_ok-push, else-first-tokens}

pub returns-clause-row : goal.returns-clause-row
returns-clause-row c = λ line before more is at below all t.
    elim c.if-first-tokens.branch [
      | then-first-tokens+in_ok-push w ↦
          row_added c.args.tokens.now before more line c.args.first _ c.args.table.now c.if-first-tokens.table is at
          below all t w.if-first-tokens.true (w.table-is ∙ w.in_ok-push.ensures)
      | else-first-tokens w ↦
          rw w.table-is
          (no_row c.args.tokens.now before more c.args.table.now is (omega (arith, at, w.if-first-tokens.false)) t)
    ]
