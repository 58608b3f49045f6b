use Rattle.std.proofs.Common.{sym, ap, ◌∙◌, length}
use Rattle.std.specs.Option.{option_map_or}
use Rattle.sourcemap_check_keys.specs.Values.{count_items}
use Rattle.sourcemap_check_keys.proofs.ValueLemmas.{count_items-length}
use Rattle.sourcemap_check_keys.proofs.values.count_at.Goals as goal

pub returns-in-Some : goal.returns-in-Some
returns-in-Some c =
    let found = ap (λ o. option_map_or count_items o 0) c.in-Some.ensures in
    ap length c.as_slice.ensures.value ∙ (sym (count_items-length c.in-Some.items.now.items) ∙ found)
