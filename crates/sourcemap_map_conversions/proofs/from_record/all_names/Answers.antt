use Rattle.std.proofs.Common.{◌≡◌, Ok, refl, ap, rules, vec_len, sym, ◌∙◌}
use Rattle.std.proofs.lemmas.List.{reverse-reverse}
use Rattle.serde_json.specs.View.{view}
use Rattle.sourcemap_map_conversions.specs.FromRecord.{name_read}
use Rattle.sourcemap_map_conversions.proofs.FromRecordLemmas.{none-left}
use Rattle.sourcemap_map_conversions.proofs.from_record.all_names.Goals as goal

pub loop-name-init : goal.loop-name-init
loop-name-init c = rw (c.in_ok-texts.ensures.items, c.reverse.ensures.items, reverse-reverse) refl

pub returns : goal.returns
returns c =
    let gone : vec_len c.loop-name.names ≡ 0 = search rules in
    ap Ok
    (none-left name_read view _ _ c.loop-name.names.items (sym c.loop-name.names.ok.0 ∙ gone) c.loop-name.invariant)
