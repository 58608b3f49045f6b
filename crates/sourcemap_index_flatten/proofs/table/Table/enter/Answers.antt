use Rattle.std.proofs.Common.{refl}
use Rattle.sourcemap_index_flatten.specs.Table.{entry_value}
use Rattle.sourcemap_index_flatten.proofs.TableLemmas.{entered-more}
use Rattle.sourcemap_index_flatten.proofs.table.Table.enter.Goals as goal

pub returns-clause-ok : goal.returns-clause-ok
returns-clause-ok c = λ before is.
    entered-more before (entry_value c.args.item) c.in_ok-number.number c.args.self.now
    (record { entries = c.push_or_replace.new.entries; ids = c.number_of.new.self }) is
    (c.if-is_full.ensures.free refl)
    c.in_ok-number.ensures.number c.in_ok-number.ensures.texts c.in_ok-push_or_replace.ensures.ok
