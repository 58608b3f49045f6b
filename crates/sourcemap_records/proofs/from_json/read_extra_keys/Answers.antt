use Rattle.std.proofs.Common.{rules, refl, sym, option_map}
use Rattle.std.proofs.lemmas.Iterator.Adapters.{option_map_id}
use Rattle.sourcemap_records.proofs.JsontypesLemmas.{same_items}
use Rattle.sourcemap_records.proofs.from_json.read_extra_keys.Goals as goal

pub returns : goal.returns
returns c =
    rw (
      sym (same_items (λ n. n) (λ n. refl) c.in_ok-ignore_list.ignore_list),
      sym (same_items (option_map (λ n. n)) option_map_id c.in_ok-x_facebook_offsets.x_facebook_offsets),
    )
    (search rules)
