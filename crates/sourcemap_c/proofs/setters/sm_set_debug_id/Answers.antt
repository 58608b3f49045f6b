use Rattle.std.proofs.Common.{subst}
use Rattle.sourcemap_c_handles.specs.Handles.{held_in}
use Rattle.sourcemap_c.proofs.CodesLemmas.{coded}
use Rattle.sourcemap_c.proofs.setters.sm_set_debug_id.Goals as goal
use Rattle.sourcemap_c.specs.Changing.{HasId, ChangesMap}
use Rattle.sourcemap_c.specs.Codes.{Does}

pub returns : goal.returns
returns c =
    let old = held_in c.args.map.now in
    let new = held_in c.change_map.new.handle in
    coded c.change_map.result c.finish.ensures.report
    (subst (λ id. ChangesMap (Does c.change_map.result) (HasId id) old new) c.id_if-id.ensures c.change_map.ensures)
