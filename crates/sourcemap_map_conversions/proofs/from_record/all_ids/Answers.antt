use Rattle.std.proofs.Common.{◌∙◌, get_or, ap, arith}
use Rattle.std.proofs.lemmas.List.{take_more}
use Rattle.std.proofs.lemmas.List.Sums.{fold-append}
use Rattle.std.specs.Ordering.{nat_cmp}
use Rattle.std.specs.BTreeSet.{insert_key}
use Rattle.sourcemap_map_conversions.proofs.from_record.all_ids.Goals as goal

pub loop-id-preserved : goal.loop-id-preserved
loop-id-preserved c =
    rw (take_more c.args.ids.now c.loop-id.id-index 0 (omega arith), fold-append)
    (c.in_ok-insert.ensures.keys
    ∙ ap (λ ids. insert_key nat_cmp ids (get_or c.args.ids.now c.loop-id.id-index 0)) c.loop-id.invariant)
