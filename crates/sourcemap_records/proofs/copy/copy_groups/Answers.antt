use Rattle.std.proofs.Common.{ap, Ok}
use Rattle.sourcemap_records.specs.Keys.{fields_from}
use Rattle.sourcemap_records.proofs.FieldLemmas.{ok_injective}
use Rattle.sourcemap_records.proofs.JsontypesLemmas.{flat-tree}
use Rattle.sourcemap_records.proofs.copy.copy_groups.Goals as goal

pub returns : goal.returns
returns c =
    let file_keys = ok_injective c.in_ok-file_keys.ensures in
    let content_keys = ok_injective c.in_ok-content_keys.ensures in
    let extra_keys = ok_injective c.in_ok-extra_keys.ensures in
    let debug_id = ap (λ f. f.debug_id) (flat-tree c.args.whole.now) in
    λ i. Ok (fields_from (file_keys i) (content_keys i) (extra_keys i) (debug_id i))
