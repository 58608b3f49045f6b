use Rattle.std.proofs.Common.{◌≡◌, true, false, is_some, map, sym, ◌∙◌}
use Rattle.std.specs.List.{list_any}
use Rattle.sourcemap_records.specs.Jsontypes.{text_view}
use Rattle.sourcemap_map_conversions.proofs.ToRecordLemmas.{list_any-text_view}
use Rattle.sourcemap_map_conversions.proofs.to_record.contents_if_some.Goals as goal

pub returns-then-has_some : goal.returns-then-has_some
returns-then-has_some c =
    let some : list_any is_some (map text_view c.args.contents.items) ≡ true = list_any-text_view c.args.contents.items
    ∙ (rw c.as_slice.ensures.value at (sym c.has_some.ensures ∙ c.if-has_some.true)) in
    rw some

pub returns-else-has_some : goal.returns-else-has_some
returns-else-has_some c =
    let none : list_any is_some (map text_view c.args.contents.items) ≡ false = list_any-text_view c.args.contents.items
    ∙ (rw c.as_slice.ensures.value at (sym c.has_some.ensures ∙ c.if-has_some.false)) in
    rw none
