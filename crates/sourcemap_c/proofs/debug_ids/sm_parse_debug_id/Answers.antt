use Rattle.std.proofs.Common.{refl, subst, Some}
use Rattle.sourcemap_c.specs.Codes.{ReturnsValue}
use Rattle.sourcemap_c.proofs.debug_ids.sm_parse_debug_id.Goals as goal

pub returns-in-Some-clause-id : goal.returns-in-Some-clause-id
returns-in-Some-clause-id c = λ utf8.
    subst (λ found. ReturnsValue (Some found) 0 c.args.id.now.bytes c.of_id.result.bytes) (c.in-Some.ensures.id utf8) (refl, c.of_id.ensures)
