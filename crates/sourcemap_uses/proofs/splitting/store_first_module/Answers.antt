-- The first item is a module whose map is well-formed, or an error.
use Rattle.std.proofs.Common.{◌≡◌, Ok, inl, subst}
use Rattle.std.proofs.lemmas.Result.{err_from_is_err_and}
use Rattle.sourcemap.specs.Answer.{Gives}
use Rattle.sourcemap.specs.AnyMap.{index_value}
use Rattle.sourcemap.specs.BundleModules.{modules_of}
use Rattle.sourcemap.specs.Split.{ModuleParts, Splits, parts_value}
use Rattle.sourcemap.specs.SplitIterators.{split_value}
use Rattle.sourcemap_uses.proofs.RefusalLemmas.{memory_refused, unless_memory}
use Rattle.sourcemap_uses.proofs.SplittingLemmas.{first_refused, first_stored}
use Rattle.sourcemap_uses.specs.Splitting.{IsFirstRefused}
use Rattle.sourcemap_uses.proofs.splitting.store_first_module.Goals as goal

pub returns-in_err-modules-clause-error : goal.returns-in_err-modules-clause-error
returns-in_err-modules-clause-error c =
    let p = err_from_is_err_and c.from_residual.result c.from_residual.ensures.1 in
    let i = index_value c.args.map.now in
    let modules = modules_of c.args.bundle.now in
    let e = c.in_err-modules.field-0.0 in
    rw (p.1, p.2)
    (unless_memory e _ (IsFirstRefused i modules e) (λ refused. inl refused) c.in_err-modules.ensures.answer)

pub returns-in-Some-Err-clause-error : goal.returns-in-Some-Err-clause-error
returns-in-Some-Err-clause-error c =
    let steps = c.in-Some-Err.ensures.steps in
    let gives = subst (λ r. Gives parts_value r steps.0) c.in-Some-Err.field-0-is steps.2 in
    first_refused (index_value c.args.map.now) (modules_of c.args.bundle.now) (split_value c.in_ok-modules.modules)
    c.in_ok-modules.ensures.answer steps.0 _ steps.1 c.in-Some-Err.refused gives

pub returns-clause-reads_back : goal.returns-clause-reads_back
returns-clause-reads_back c = λ well.
    let i = index_value c.args.map.now in
    let modules = modules_of c.args.bundle.now in
    let split = split_value c.in_ok-modules.modules in
    let steps = c.in-Some-Ok.ensures.steps in
    let parts : ModuleParts = parts_value (c.in-Some-Ok.field-0-0-0, c.in-Some-Ok.field-0-0-1, c.in-Some-Ok.map) in
    let gives : steps.0 ≡ Ok parts = subst (λ r. Gives parts_value r steps.0) c.in-Some-Ok.field-0-is steps.2 in
    first_stored i modules split c.in_ok-modules.ensures.answer steps.0 _ steps.1 parts gives
    (c.module_maps_are_well_formed.ensures i modules split c.in_ok-modules.ensures.answer c.in_ok-modules.ensures.few well)
    c.stored.result c.stored.ensures.text

pub returns-clause-error : goal.returns-clause-error
returns-clause-error c =
    memory_refused (IsFirstRefused (index_value c.args.map.now) (modules_of c.args.bundle.now)) c.stored.result
    c.stored.ensures.memory
