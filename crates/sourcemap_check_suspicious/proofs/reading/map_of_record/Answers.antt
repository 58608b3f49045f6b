use Rattle.std.proofs.Common.{◌∙◌, sym}
use Rattle.sourcemap_records.specs.Jsontypes.{tree}
use Rattle.sourcemap_check_suspicious.proofs.ReadingLemmas.{flat_read, regular_read}
use Rattle.sourcemap_check_suspicious.proofs.reading.map_of_record.Goals as goal

pub returns-then-is_some : goal.returns-then-is_some
returns-then-is_some c =
    λ holds.
    flat_read c.args.raw c.flat_map.result (sym c.is_some.ensures ∙ c.if-is_some.true)
    (c.flat_map.ensures (tree c.args.raw) holds)

pub returns : goal.returns
returns c =
    λ holds.
    regular_read c.args.raw c.decode_regular.result (sym c.is_some.ensures ∙ c.if-is_some.false)
    c.decode_regular.ensures.answer
