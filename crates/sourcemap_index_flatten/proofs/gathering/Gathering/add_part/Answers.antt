use Rattle.std.proofs.Common.{◌++◌, codes, refl, sym, subst}
use Rattle.std.proofs.lemmas.Result.{err_from_is_err_and}
use Rattle.sourcemap_index_flatten.specs.Errors.{RefusesBy}
use Rattle.sourcemap_index_flatten.specs.Table.{AreEntered, are_too_many, entry_values, texts_entered}
use Rattle.sourcemap_index_flatten.specs.Gathering.{all_source_entries, all_name_entries}
use Rattle.sourcemap_index_flatten.specs.declared.moving.Move.{Move}
use Rattle.sourcemap_index_flatten.proofs.GatheringLemmas.{refused-sources, refused-names, part-refused, part-gathered}
use Rattle.sourcemap_index_flatten.proofs.gathering.Gathering.add_part.Goals as goal

pub returns-in_err-sources-clause-refused : goal.returns-in_err-sources-clause-refused
returns-in_err-sources-clause-refused c = λ before m g is.
    let p = err_from_is_err_and c.from_residual.result c.from_residual.ensures.1 in
    rw (p.1, p.2)
    (refused-sources before ((c.args.line, c.args.col), m) (codes "too many sources or names")
    c.in_err-sources.field-0.0 refl
    (subst (λ es. RefusesBy (are_too_many (texts_entered (all_source_entries before ++ es)))
    (codes "too many sources or names") c.in_err-sources.field-0.0) is.sources
    (c.in_err-sources.ensures.refused (all_source_entries before) g.sources)))

pub returns-in_err-names-clause-refused : goal.returns-in_err-names-clause-refused
returns-in_err-names-clause-refused c = λ before m g is.
    let p = err_from_is_err_and c.from_residual-in_err-names.result c.from_residual-in_err-names.ensures.1 in
    rw (p.1, p.2)
    (refused-names before ((c.args.line, c.args.col), m) (codes "too many sources or names") c.in_err-names.field-0.0
    refl
    (subst (λ es. RefusesBy (are_too_many (texts_entered (all_name_entries before ++ es)))
    (codes "too many sources or names") c.in_err-names.field-0.0) is.names
    (c.in_err-names.ensures.refused (all_name_entries before) g.names)))

pub returns-in_err-move_all-clause-refused : goal.returns-in_err-move_all-clause-refused
returns-in_err-move_all-clause-refused c = λ before m g is.
    let p = err_from_is_err_and c.from_residual-in_err-move_all.result c.from_residual-in_err-move_all.ensures.1 in
    let to : Move =
    record { line = c.args.line; column = c.args.col; sources = c.as_slice.result; names = c.as_slice-2.result } in
    rw (p.1, p.2)
    (part-refused before m c.args.part is to c.enter_all.new.self c.enter_all-2.new.self
    (subst (λ ids. AreEntered (all_source_entries before ++ entry_values c.args.part.sources.now)
    (entry_values c.args.part.sources.now) ids c.enter_all.new.self) (sym c.as_slice.ensures.value)
    (c.in_ok-sources.ensures.ok (all_source_entries before) g.sources))
    (subst (λ ids. AreEntered (all_name_entries before ++ entry_values c.args.part.names.now)
    (entry_values c.args.part.names.now) ids c.enter_all-2.new.self) (sym c.as_slice-2.ensures.value)
    (c.in_ok-names.ensures.ok (all_name_entries before) g.names))
    (codes "a position passes 4294967295") c.in_err-move_all.field-0.0 refl c.in_err-move_all.ensures.refused)

pub returns-clause-ok : goal.returns-clause-ok
returns-clause-ok c = λ before m g is.
    let to : Move =
    record { line = c.args.line; column = c.args.col; sources = c.as_slice.result; names = c.as_slice-2.result } in
    part-gathered before m c.args.part is to c.enter_all.new.self c.enter_all-2.new.self
    (subst (λ ids. AreEntered (all_source_entries before ++ entry_values c.args.part.sources.now)
    (entry_values c.args.part.sources.now) ids c.enter_all.new.self) (sym c.as_slice.ensures.value)
    (c.in_ok-sources.ensures.ok (all_source_entries before) g.sources))
    (subst (λ ids. AreEntered (all_name_entries before ++ entry_values c.args.part.names.now)
    (entry_values c.args.part.names.now) ids c.enter_all-2.new.self) (sym c.as_slice-2.ensures.value)
    (c.in_ok-names.ensures.ok (all_name_entries before) g.names))
    c.args.self.now (record {
      sources = c.enter_all.new.self;
      names = c.enter_all-2.new.self;
      tokens = c.move_all.new.all;
      ignored = c.add_ignored.new.all;
    }) g refl refl
    c.in_ok-move_all.ensures.ok c.in_ok-add_ignored.ensures.ok
