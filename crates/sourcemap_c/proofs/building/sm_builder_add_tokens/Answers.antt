use Rattle.sourcemap_c_handles.specs.Handles.{held_in}
use Rattle.sourcemap_c.proofs.BuildingLemmas.{adds_all}
use Rattle.sourcemap_c.proofs.building.sm_builder_add_tokens.Goals as goal
use Rattle.sourcemap_c.specs.Kinds.{builder_in}

pub returns-clause-all : goal.returns-clause-all
returns-clause-all c = adds_all (builder_in (held_in c.args.builder.now)) _ _ _ c.finish.result _ _ c.add_tokens-count.ensures.all c.finish.ensures.report
