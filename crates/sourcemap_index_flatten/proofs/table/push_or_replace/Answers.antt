use Rattle.std.proofs.Common.{sym, ap, ◌∙◌, arith}
use Rattle.sourcemap_index_flatten.proofs.TableLemmas.{put-appended, put-over, put-kept}
use Rattle.sourcemap_index_flatten.proofs.table.push_or_replace.Goals as goal
use Rattle.sourcemap_index_flatten.proofs.table.push_or_replace.Goals.{then-number-len+in_ok-push, else-number-len+then-is_some, else-number-len+else-is_some}

pub returns-clause-ok : goal.returns-clause-ok
returns-clause-ok c =
    let old = c.args.entries.now in
    elim c.if-number-len.branch [
      | then-number-len+in_ok-push w ↦
          put-appended old.items c.args.number c.args.item c.if-number-len.entries.items
          (omega (arith, w.if-number-len.true, c.len.ensures, old.ok.0))
          (ap (λ v. v.items) w.entries-is ∙ w.in_ok-push.ensures.items)
      | else-number-len+then-is_some w ↦
          put-over old.items c.args.number c.args.item c.if-number-len.entries.items
          (omega (arith, w.if-number-len.false, c.len.ensures, old.ok.0))
          (sym w.is_some.ensures ∙ w.if-is_some.true) (ap (λ v. v.items) w.entries-is)
      | else-number-len+else-is_some w ↦
          put-kept old.items c.args.number c.args.item c.if-number-len.entries.items
          (omega (arith, w.if-number-len.false, c.len.ensures, old.ok.0))
          (sym w.is_some.ensures ∙ w.if-is_some.false) (ap (λ v. v.items) w.entries-is)
    ]
