use Rattle.std.proofs.Common.{◌≡◌, ◌++◌, [], ◌∷◌, true, take, subst}
use Rattle.std.proofs.lemmas.Result.{err_from_is_err_and}
use Rattle.sourcemap_errors.proofs.AnswerLemmas.{UnlessMemory-weaker}
use Rattle.sourcemap_index_flatten.specs.Table.{IsEntered, are_too_many, entry_value, entry_values, texts_entered}
use Rattle.sourcemap_index_flatten.specs.declared.table.Entry.{Entry}
use Rattle.sourcemap_index_flatten.proofs.TableLemmas.{entered-next, too_many-at}
use Rattle.sourcemap_index_flatten.proofs.table.Table.enter_all.Goals as goal

pub returns-in_err-number-clause-refused : goal.returns-in_err-number-clause-refused
returns-in_err-number-clause-refused c = λ before is.
    let entries = c.args.entries.now in
    let i = c.loop-item.item-index in
    let so_far = c.loop-item.invariant before is in
    let p = err_from_is_err_and c.from_residual-in_err-number.result c.from_residual-in_err-number.ensures.1 in
    let many : (item : Entry) → Type 0 = λ item.
    are_too_many (texts_entered ((before ++ entry_values (take i entries)) ++ entry_value item ∷ [])) ≡ true in
    rw (p.1, p.2)
    (UnlessMemory-weaker c.in_err-number.field-0.0
    (λ h. (
      too_many-at before entries i c.item-item.result c.loop-item-test.true (subst many c.item-item.is h.0),
      h.1,
    ))
    (c.in_err-number.ensures.refused (before ++ entry_values (take i entries)) so_far.table))

pub loop-item-preserved : goal.loop-item-preserved
loop-item-preserved c = λ before is.
    let entries = c.args.entries.now in
    let i = c.loop-item.item-index in
    let so_far = c.loop-item.invariant before is in
    let entered : (item : Entry) → Type 0 = λ item.
    IsEntered ((before ++ entry_values (take i entries)) ++ entry_value item ∷ []) item.text.now
    c.in_ok-number.number c.enter.new.self in
    entered-next before entries i c.item-item.result c.loop-item-test.true c.loop-item.numbers.items
    c.push.new.self.items c.in_ok-number.number c.loop-item.self c.enter.new.self so_far
    (subst entered c.item-item.is (c.in_ok-number.ensures.ok (before ++ entry_values (take i entries)) so_far.table))
    c.in_ok-push.ensures.items
