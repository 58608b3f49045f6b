use Rattle.std.proofs.Common.{◌∙◌, ap, sym, refl, option_map, Ok}
use Rattle.std.proofs.lemmas.Iterator.Adapters.{option_map_id}
use Rattle.sourcemap_records.specs.Keys.{extra_keys_of}
use Rattle.sourcemap_records.specs.declared.jsontypes.RawSourceMap.{out-RawSourceMap}
use Rattle.sourcemap_records.proofs.FieldLemmas.{ok_injective}
use Rattle.sourcemap_records.proofs.JsontypesLemmas.{flat-tree, same_items}
use Rattle.sourcemap_records.proofs.copy.copy_extra_keys.Goals as goal

pub returns : goal.returns
returns c =
    let old = out-RawSourceMap c.args.whole.now in
    let numbers = sym (same_items (λ n. n) (λ n. refl) old.ignore_list) ∙ ok_injective c.in_ok-ignore_list.ensures
    ∙ same_items (λ n. n) (λ n. refl) c.in_ok-ignore_list.ignore_list in
    let offsets = sym (same_items (option_map (λ n. n)) option_map_id old.x_facebook_offsets)
    ∙ ok_injective c.in_ok-x_facebook_offsets.ensures
    ∙ same_items (option_map (λ n. n)) option_map_id c.in_ok-x_facebook_offsets.x_facebook_offsets in
    let paths = ok_injective c.in_ok-x_metro_module_paths.ensures in
    let scopes = ok_injective c.in_ok-x_facebook_sources.ensures in
    ap Ok (ap extra_keys_of (flat-tree c.args.whole.now)
    ∙ (λ i. record {
      ignore_list = numbers i;
      x_facebook_offsets = offsets i;
      x_metro_module_paths = paths i;
      x_facebook_sources = scopes i;
    }))
