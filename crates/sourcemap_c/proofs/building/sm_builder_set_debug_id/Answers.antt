use Rattle.std.proofs.Common.{subst}
use Rattle.sourcemap_c_handles.specs.Handles.{held_in}
use Rattle.sourcemap_c.proofs.CodesLemmas.{coded}
use Rattle.sourcemap_c.proofs.building.sm_builder_set_debug_id.Goals as goal
use Rattle.sourcemap_c.specs.Building.{HasId, Steps}
use Rattle.sourcemap_c.specs.Codes.{Does}

pub returns : goal.returns
returns c =
    let old = held_in c.args.builder.now in
    let new = held_in c.step_in.new.handle in
    coded c.step_in.result c.finish.ensures.report
    (subst (λ id. Steps (Does c.step_in.result) (HasId id) old new) c.id_if-id.ensures c.step_in.ensures)
