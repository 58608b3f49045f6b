use Rattle.std.proofs.Common.{◌-◌, arith}
use Rattle.std.proofs.lemmas.Bool.{OnTrue_at}
use Rattle.sourcemap_source_views.proofs.ColumnsLemmas.{ascii-back}
use Rattle.sourcemap_source_views.proofs.columns.reach_back.Goals as goal

pub returns-then-is_ascii_before-clause-value : goal.returns-then-is_ascii_before-clause-value
returns-then-is_ascii_before-clause-value c =
    let found = OnTrue_at c.if-is_ascii_before.true c.is_ascii_before.ensures in
    let ahead = c.requires.ahead in
    (ascii-back c.args.line.now c.args.from.offset c.args.from.units
    (c.args.from.units - c.args.col) c.args.col c.utf8.line c.requires.offset (omega arith) found.0 found.1).0

pub returns-then-is_ascii_before-clause-offset : goal.returns-then-is_ascii_before-clause-offset
returns-then-is_ascii_before-clause-offset c =
    let found = OnTrue_at c.if-is_ascii_before.true c.is_ascii_before.ensures in
    let ahead = c.requires.ahead in
    (ascii-back c.args.line.now c.args.from.offset c.args.from.units
    (c.args.from.units - c.args.col) c.args.col c.utf8.line c.requires.offset (omega arith) found.0 found.1).1
