-- The items that an iterator over modules has not returned yet. Each item is a module or an error.
use Rattle.std.specs.Prelude.{◌-◌, List, Result}
use Rattle.sourcemap_errors.specs.declared.errors.Error.{Error}
use Rattle.sourcemap_bundles.specs.Modules.{ModuleValue, modules_from}
use Rattle.sourcemap_bundles.specs.declared.ram_bundle.RamBundleModuleIter.{RamBundleModuleIter}

abbrev pub modules_left : RamBundleModuleIter → List (Result ModuleValue Error)
modules_left it = modules_from it.bundle.now (it.end - it.next) it.next
