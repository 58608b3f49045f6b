use Rattle.std.proofs.Common.{refl, option_map, subst, IfSome, OnOk, Ok, Err}
use Rattle.std.specs.List.{AllByRecursion}
use Rattle.std.proofs.lemmas.Iterator.Adapters.{option_map_id}
use Rattle.sourcemap_records.specs.Keys.{AreExtraKeysInRange, extra_keys_view}
use Rattle.sourcemap_records.specs.Jsontypes.{FitsU32}
use Rattle.sourcemap_records.proofs.JsontypesLemmas.{same_items}
use Rattle.sourcemap_records.proofs.to_json.put_extra_keys.Goals as goal

pub returns-clause-ok : goal.returns-clause-ok
returns-clause-ok c =
    rw (
      c.in_ok-put_field-3.ensures.ok,
      c.in_ok-put_field-2.ensures.ok,
      c.in_ok-put_field.ensures.ok,
      same_items (λ n. n) (λ n. refl) c.args.extra_keys.ignore_list,
      same_items (option_map (λ n. n)) option_map_id c.args.extra_keys.x_facebook_offsets,
    ) at c.put_field-4.ensures.ok

pub returns-clause-in_range : goal.returns-clause-in_range
returns-clause-in_range c =
    let ids = subst (λ v. IfSome v (AllByRecursion FitsU32))
    (same_items (λ n. n) (λ n. refl) c.args.extra_keys.ignore_list) c.in_ok-put_field.ensures.in_range in
    let offsets = subst (λ v. IfSome v (AllByRecursion (λ n. IfSome n FitsU32)))
    (same_items (option_map (λ n. n)) option_map_id c.args.extra_keys.x_facebook_offsets)
    c.in_ok-put_field-2.ensures.in_range in
    elim c.put_field-4.result as (λ r. OnOk r (AreExtraKeysInRange (extra_keys_view c.args.extra_keys)))
    [ Ok _ ↦ (ids, offsets) | Err _ ↦ tt ]
