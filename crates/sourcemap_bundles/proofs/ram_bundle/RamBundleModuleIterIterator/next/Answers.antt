use Rattle.std.proofs.Common.{rules, ◌≡◌, ℕ, ◌+◌, ◌-◌, ◌<◌, ◌∷◌, length, Ok, ap, sym, subst, arith}
use Rattle.sourcemap_bundles.specs.Modules.{BundleValue, files, modules_from}
use Rattle.sourcemap_bundles.specs.Stored.{bundle_value, files_value, module_value}
use Rattle.sourcemap_bundles.proofs.ModulesLemmas.{modules_file}
use Rattle.sourcemap_bundles.proofs.ram_bundle.RamBundleModuleIterIterator.next.Goals as goal

pub returns-in-Unbundle-clause-steps : goal.returns-in-Unbundle-clause-steps
returns-in-Unbundle-clause-steps c =
    let folder = files_value c.in-Unbundle.files in
    let old = c.args.self.now in
    let found = c.in_ok-found.found in
    let shown : bundle_value c.bundle.inside.repr ≡ files folder = ap bundle_value c.in-Unbundle.is in
    let view = c.bundle.view_is in
    let bundle : old.bundle.now ≡ files folder = cc in
    let id : c.id-in-Unbundle.result ≡ found.id = c.id-in-Unbundle.ensures in
    let below : found.id < old.end = omega (arith, c.if-id-end.false, c.id.ensures) in
    let step = modules_file folder old.next found.id old.end (module_value found)
    c.in_ok-found.ensures.found.0 below c.in_ok-found.ensures.found.1 c.in_ok-found.ensures.least in
    let left = λ (b : BundleValue) (n : ℕ). Ok (module_value found) ∷ modules_from b (old.end - (n + 1)) (n + 1) in
    subst (λ b. modules_from b (old.end - old.next) old.next ≡ left b c.id-in-Unbundle.result) (sym bundle)
    (subst (λ n. modules_from (files folder) (old.end - old.next) old.next ≡ left (files folder) n) (sym id) step)

pub returns-in-Unbundle-clause-goes : goal.returns-in-Unbundle-clause-goes
returns-in-Unbundle-clause-goes c = let steps = ap length (returns-in-Unbundle-clause-steps c) in search rules
