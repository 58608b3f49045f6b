-- The failure of a module that is invalid.
use Rattle.std.proofs.Common.{◌≡◌, ◌∙◌, ap, Option, Some, Result, Err}
use Rattle.sourcemap_errors.specs.Answer as errors
use Rattle.sourcemap_errors.specs.declared.errors.Error.{Error}
use Rattle.sourcemap_errors.specs.declared.errors.Error.TheVariants.{OutOfMemory}
use Rattle.sourcemap_bundle_split.specs.Split.{ModuleParts}
use Rattle.sourcemap_c_handles.specs.declared.errors.Failure.TheVariants.{Library}
use Rattle.sourcemap_c.specs.Codes.{UnlessMemory}

pub invalid : (e : Error) (due : Option (Result ModuleParts Error)) (item : Result ModuleParts Error) → due ≡ Some item
    → errors.UnlessMemory e (item ≡ Err e) → UnlessMemory (Library e) (Some due ≡ Some (Some (Err e)))
invalid OutOfMemory due item is same = tt
invalid _ due item is same = ap Some (is ∙ ap Some same)
