-- RAM bundles in handles, and the maps of their modules.
use Rattle.std.specs.Prelude.{◌≡◌, ◌⊎◌, ℕ, List, [], Option, Some, None, option_map, Result, Ok, Err}
use Rattle.std.specs.Arc.{arc_value}
use Rattle.sourcemap_errors.specs.declared.errors.Error.{Error}
use Rattle.sourcemap_index_model.specs.MapTree.{IndexValue, MapTree, index, index_tree, leaf, regular}
use Rattle.sourcemap_bundles.specs.Modules.{BundleValue, ModuleValue, bundle_module}
use Rattle.sourcemap_bundle_split.specs.Iterators.{splitter_value}
use Rattle.sourcemap_bundle_split.specs.Split.{ModuleParts, Splits, due_in as due_by}
use Rattle.sourcemap_bundle_split.specs.declared.split.BundleSplitter.{BundleSplitter}
use Rattle.sourcemap_c_handles.specs.declared.errors.Failure.{Failure}
use Rattle.sourcemap_c_handles.specs.declared.errors.Failure.TheVariants.{Library, Absent, WrongKind, PastLimit}
use Rattle.sourcemap_c_handles.specs.declared.held.Held.{Held}
use Rattle.sourcemap_c_handles.specs.declared.held.Held.TheVariants.{Bundle, Split}

abbrev pub bundle_in : Option Held → Option BundleValue
bundle_in (Some (Bundle bundle)) = Some (arc_value bundle)
bundle_in _ = None

-- the bytes of a module
abbrev pub bytes_of : Result (Option ModuleValue) Error → Result (Option (List ℕ)) Error
bytes_of (Ok found) = Ok (option_map (λ m. m.text) found)
bytes_of (Err e) = Err e

abbrev pub module_bytes : BundleValue → ℕ → Result (Option (List ℕ)) Error
module_bytes bundle id = bytes_of (bundle_module bundle id)

-- `tree` is an index map that can be flattened and has `x_facebook_offsets`, and the handle has both
abbrev pub IsSplit : Option MapTree → Option Held → Type 0
IsSplit tree held = (i : IndexValue) × (splitter : BundleSplitter)
    × (tree ≡ Some (index_tree i)) × (held ≡ Some (Split splitter)) × Splits i [] (Ok (splitter_value splitter))

abbrev pub IsNoIndex : Option MapTree → Type 0
IsNoIndex (Some (index _ _)) = ⊥
IsNoIndex _ = Unit {0}

-- the errors of splitting; `WrongKind` if there is no index map
abbrev pub IsUnsplit : Option MapTree → Failure → Type 0
IsUnsplit tree (Library e) = (i : IndexValue) × (tree ≡ Some (index_tree i)) × Splits i [] (Err e)
IsUnsplit tree WrongKind = IsNoIndex tree
IsUnsplit tree Absent = ⊥
IsUnsplit tree PastLimit = ⊥

-- the parts of module `id`, or the error for it; `Some None` if the module is missing or skipped; `None` if a handle is
-- of the wrong kind
abbrev pub due_in : Option Held → Option BundleValue → ℕ → Option (Option (Result ModuleParts Error))
due_in (Some (Split s)) (Some bundle) id = Some (due_by s.maps s.offsets.items (bundle_module bundle id))
due_in _ _ id = None

-- the errors of reading a module
abbrev pub IsNoItem : Option (Option (Result ModuleParts Error)) → Failure → Type 0
IsNoItem due (Library e) = due ≡ Some (Some (Err e))
IsNoItem due Absent = due ≡ Some None
IsNoItem due WrongKind = due ≡ None
IsNoItem due PastLimit = ⊥

-- the module has this map
abbrev pub HasMap : Option (Option (Result ModuleParts Error)) → Option MapTree → Type 0
HasMap due tree = (parts : ModuleParts) × (due ≡ Some (Some (Ok parts))) × (tree ≡ Some (leaf (regular parts.map)))
