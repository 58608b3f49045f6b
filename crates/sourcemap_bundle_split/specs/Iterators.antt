-- The modules that an iterator has not yet returned.
use Rattle.std.specs.Prelude.{ℕ, List, [], filter_map, Result, Ok, Err}
use Rattle.sourcemap_errors.specs.declared.errors.Error.{Error}
use Rattle.sourcemap_bundles.specs.Iterators.{modules_left}
use Rattle.sourcemap_bundles.specs.Modules.{ModuleValue}
use Rattle.sourcemap_bundles.specs.Stored.{module_value}
use Rattle.sourcemap_bundles.specs.declared.modules.RamBundleModule.{RamBundleModule}
use Rattle.sourcemap_bundle_split.specs.Split.{ModuleParts, SplitValue, dues_in, with_first_line}
use Rattle.sourcemap_bundle_split.specs.declared.split.BundleSplitter.{BundleSplitter}
use Rattle.sourcemap_bundle_split.specs.declared.split.SplitRamBundleModuleIter.{SplitRamBundleModuleIter}

-- a splitter as a split bundle that has no modules
abbrev pub splitter_value : BundleSplitter → SplitValue
splitter_value s = record { flat = s.maps; offsets = s.offsets.items; modules = [] }

abbrev pub split_value : SplitRamBundleModuleIter → SplitValue
split_value it = record {
  flat = it.splitter.maps;
  offsets = it.splitter.offsets.items;
  modules = modules_left it.modules;
}

-- for each module that is left and is not skipped: the module with its first line, or the error for it
abbrev pub modules_and_lines_left : SplitRamBundleModuleIter → List (Result (ModuleValue × ℕ) Error)
modules_and_lines_left it = filter_map (with_first_line it.splitter.offsets.items) (modules_left it.modules)

abbrev pub module_and_line : Result (RamBundleModule × ℕ) Error → Result (ModuleValue × ℕ) Error
module_and_line (Ok found) = Ok (module_value found.0, found.1)
module_and_line (Err e) = Err e

abbrev pub dues_left : SplitRamBundleModuleIter → List (Result ModuleParts Error)
dues_left it = dues_in (split_value it)
