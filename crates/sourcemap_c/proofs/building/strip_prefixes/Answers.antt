use Rattle.std.proofs.Common.{◌≡◌, ◌∙◌, ap, subst}
use Rattle.std.specs.List.{All}
use Rattle.std.specs.Str.{IsUtf8}
use Rattle.sourcemap_c_handles.specs.Handles.{held_in}
use Rattle.sourcemap_c.specs.Building.{HoldsStep, IsStripped}
use Rattle.sourcemap_c.specs.Changing.{FailsAs}
use Rattle.sourcemap_c.specs.Kinds.{builder_in}
use Rattle.sourcemap_c.proofs.ReplacingLemmas.{bytes_of, of_texts}
use Rattle.sourcemap_c.proofs.building.strip_prefixes.Goals as goal

pub returns-in-Ok : goal.returns-in-Ok
returns-in-Ok c =
    of_texts c.step_in.result (bytes_of c.as_slice.result.now) (bytes_of c.args.prefixes.now)
    (λ t. HoldsStep (IsStripped t) (held_in c.args.builder.now) (held_in c.step_in.new.handle))
    (λ t. FailsAs (IsStripped t) (builder_in (held_in c.args.builder.now)))
    (held_in c.step_in.new.handle ≡ held_in c.args.builder.now) (ap bytes_of c.as_slice.ensures.value ∙ c.in-Ok.ensures.0)
    (subst (All IsUtf8) c.in-Ok.ensures.0 c.in-Ok.ensures.1) c.step_in.ensures
