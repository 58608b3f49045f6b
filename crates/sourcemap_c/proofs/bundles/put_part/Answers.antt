use Rattle.std.proofs.Common.{◌≡◌, ◌∙◌, ap, refl, subst, Some, Result, Err}
use Rattle.sourcemap_errors.specs.Answer.{Gives}
use Rattle.sourcemap_errors.specs.declared.errors.Error.{Error}
use Rattle.sourcemap_bundle_split.specs.Split.{ModuleParts, YieldsPart, parts_value}
use Rattle.sourcemap_c.proofs.BundlesLemmas.{invalid}
use Rattle.sourcemap_c.proofs.bundles.put_part.Goals as goal

pub returns-in-Some-Err : goal.returns-in-Some-Err
returns-in-Some-Err c due given =
    let here : (item : Result ModuleParts Error) × (due ≡ Some item) × Gives parts_value (Err c.in-Some-Err.error) item =
    subst (λ part. YieldsPart parts_value part due) (c.in-Some-Err.is ∙ ap Some c.in-Some-Err.field-0-is) given in
    (invalid c.in-Some-Err.error due here.0 here.1 here.2, refl)
