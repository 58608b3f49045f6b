-- Converts bundles and modules, as the types in `src` store them, to the values that `Modules.antt` defines. `type_of`
-- returns the kind of a bundle.
use Rattle.std.specs.Prelude.{ℕ, List, map, Result, Ok, Err}
use Rattle.std.specs.Cow.{cow_slice_items}
use Rattle.std.specs.declared.alloc.Global.{Global}
use Rattle.std.specs.declared.vec.Vec.{Vec}
use Rattle.sourcemap_errors.specs.declared.errors.Error.{Error}
use Rattle.sourcemap_bundles.specs.Modules.{BundleValue, FilesValue, ModuleValue, files, indexed}
use Rattle.sourcemap_bundles.specs.declared.indexed.IndexedRamBundle.{IndexedRamBundle}
use Rattle.sourcemap_bundles.specs.declared.modules.RamBundleModule.{RamBundleModule}
use Rattle.sourcemap_bundles.specs.declared.ram_bundle.RamBundleImpl.{RamBundleImpl}
use Rattle.sourcemap_bundles.specs.declared.ram_bundle.RamBundleImpl.TheVariants.{Indexed as IndexedImpl, Unbundle as UnbundleImpl}
use Rattle.sourcemap_bundles.specs.declared.ram_bundle.RamBundleType.{RamBundleType}
use Rattle.sourcemap_bundles.specs.declared.ram_bundle.RamBundleType.TheVariants.{Indexed, Unbundle}
use Rattle.sourcemap_bundles.specs.declared.unbundle.UnbundleRamBundle.{UnbundleRamBundle}

abbrev pub module_value : RamBundleModule → ModuleValue
module_value found = record { id = found.id; text = found.text.now }

-- an item of the iterator over modules
abbrev pub item_value : Result RamBundleModule Error → Result ModuleValue Error
item_value (Ok found) = Ok (module_value found)
item_value (Err e) = Err e

abbrev pub indexed_value : IndexedRamBundle → BundleValue
indexed_value bundle = indexed bundle.header (cow_slice_items bundle.bytes)

-- the bytes of a file, with its number
abbrev pub numbered_file_value : ℕ × Vec ℕ Global → ℕ × List ℕ
numbered_file_value entry = (entry.0, entry.1.items)

abbrev pub files_value : UnbundleRamBundle → FilesValue
files_value bundle = record {
  startup = bundle.startup_code.items;
  count = bundle.module_count;
  modules = map numbered_file_value bundle.modules.entries;
}

abbrev pub bundle_value : RamBundleImpl → BundleValue
bundle_value (IndexedImpl bundle) = indexed_value bundle
bundle_value (UnbundleImpl bundle) = files (files_value bundle)

-- how a bundle is laid out
abbrev pub type_of : BundleValue → RamBundleType
type_of (indexed header bytes) = Indexed
type_of (files folder) = Unbundle
