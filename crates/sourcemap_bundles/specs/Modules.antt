-- Bundles as values: which modules and which startup code they have.
use Rattle.std.specs.Prelude.{◌≡◌, ◌≤◌, ℕ, zero, suc, ◌+◌, ◌-◌, ◌*◌, ◌==◌, ◌&&◌, nat_lt, if◌then◌else◌, List, [], ◌∷◌, length, Option, Some, None, option_map, Result, Ok, Err}
use Rattle.std.specs.Ordering.{is_eq, nat_cmp}
use Rattle.std.specs.Map.{lookup}
use Rattle.std.specs.Str.{IsUtf8}
use Rattle.sourcemap_errors.specs.Answer.{UnlessMemory}
use Rattle.sourcemap_errors.specs.Errors.{FromIo}
use Rattle.sourcemap_errors.specs.declared.errors.Error.{Error}
use Rattle.sourcemap_errors.specs.declared.errors.Error.TheVariants.{Io, InvalidRamBundleEntry, InvalidRamBundleIndex, InvalidRamBundleMagic, OutOfMemory, Utf8}
use Rattle.sourcemap_bundles.specs.Bundle.{bundle_magic, entry_of, header_of, u32_at, range_of, then_make}
use Rattle.sourcemap_bundles.specs.declared.bundle.ModuleEntry.{ModuleEntry}
use Rattle.sourcemap_bundles.specs.declared.bundle.RamBundleHeader.{RamBundleHeader}

-- a module: its number, and its text in bytes
pub record ModuleValue : Type 0 where
  pub id : ℕ
  pub text : List ℕ

-- a file bundle: its startup code, its module count, and its modules by number. If the bundle was read from files, the
-- count is one more than the greatest number of a module, or 1 if there is no module
pub record FilesValue : Type 0 where
  pub startup : List ℕ
  pub count : ℕ
  pub modules : List (ℕ × List ℕ)

-- a bundle: an indexed bundle or a file bundle. An indexed bundle has its header, and the list of all its bytes. The
-- list includes the 12 bytes of the header
pub data BundleValue : Type 0 where
  indexed : RamBundleHeader → List ℕ → BundleValue
  files : FilesValue → BundleValue

-- bytes that begin with the header of a bundle
abbrev pub HasBundleHeader : List ℕ → Type 0
HasBundleHeader bytes = (12 ≤ length bytes) × (u32_at 0 bytes ≡ bundle_magic)

-- the indexed bundle with these bytes; `Scroll` if there are fewer than 12 bytes; otherwise `InvalidRamBundleMagic` if
-- the bytes do not begin with `bundle_magic`
abbrev pub indexed_bundle : List ℕ → Result BundleValue Error
indexed_bundle bytes = then_make (λ header.
    if header.magic == bundle_magic then Ok (indexed header bytes) else Err InvalidRamBundleMagic) (header_of bytes)

-- the offset, in bytes, at which the table of modules ends. The startup code begins at this offset, and the offsets of
-- modules are relative to this offset
abbrev pub code_start : RamBundleHeader → ℕ
code_start header = 12 + 8 * header.module_count

abbrev pub indexed_startup : RamBundleHeader → List ℕ → Result (List ℕ) Error
indexed_startup header bytes = range_of bytes (code_start header) header.startup_code_size

-- the module that `entry` describes. The text of the module is one byte shorter than `entry.length`, because the last
-- byte is left out. The last byte should be zero, but is not checked. `None` if `entry.offset` and `entry.length` are
-- both 0; `InvalidRamBundleEntry` if only `entry.length` is 0; `Scroll` if the text ends after the end of `bytes`
abbrev pub module_of_entry : RamBundleHeader → List ℕ → ℕ → ModuleEntry → Result (Option ModuleValue) Error
module_of_entry header bytes id entry =
    if entry.length == 0 then (if entry.offset == 0 then Ok None else Err InvalidRamBundleEntry)
    else then_make (λ text. Ok (Some (record { id = id; text = text })))
    (range_of bytes (code_start header + entry.offset) (entry.length - 1))

abbrev pub indexed_module : RamBundleHeader → List ℕ → ℕ → Result (Option ModuleValue) Error
indexed_module header bytes id =
    if nat_lt id header.module_count then then_make (module_of_entry header bytes id) (entry_of bytes id)
    else Err InvalidRamBundleIndex

abbrev pub file_module : FilesValue → ℕ → Option ModuleValue
file_module folder id =
    option_map (λ text. record { id = id; text = text }) (lookup (λ k. is_eq (nat_cmp id k)) folder.modules)

-- the module count: the count in the header of an indexed bundle, or the `count` of a file bundle
abbrev pub bundle_count : BundleValue → ℕ
bundle_count (indexed header bytes) = header.module_count
bundle_count (files folder) = folder.count

abbrev pub bundle_startup : BundleValue → Result (List ℕ) Error
bundle_startup (indexed header bytes) = indexed_startup header bytes
bundle_startup (files folder) = Ok folder.startup

-- the module with this number; `None` if the number has no module. An indexed bundle instead gives an error for a
-- number that is not below `bundle_count`, and may give other errors
abbrev pub bundle_module : BundleValue → ℕ → Result (Option ModuleValue) Error
bundle_module (indexed header bytes) id = indexed_module header bytes id
bundle_module (files folder) id = Ok (file_module folder id)

-- `items`, after a module or an error was added as the first item. `Ok None` adds no item
abbrev pub with_item : Result (Option ModuleValue) Error → List (Result ModuleValue Error)
    → List (Result ModuleValue Error)
with_item (Ok None) items = items
with_item (Ok (Some found)) items = Ok found ∷ items
with_item (Err e) items = Err e ∷ items

-- the modules with numbers in the range that starts at `id`, by rising number. The second argument is the length of
-- the range. A number without a module is skipped. If `bundle_module` returns an error for a number, the list contains
-- the error instead of a module
abbrev pub modules_from : BundleValue → ℕ → ℕ → List (Result ModuleValue Error)
modules_from bundle zero id = []
modules_from bundle (suc left) id = with_item (bundle_module bundle id) (modules_from bundle left (id + 1))

-- the modules with numbers below `bundle_count`, by rising number. A number without a module is skipped. If
-- `bundle_module` returns an error for a number, the list contains the error instead of a module
abbrev pub modules_of : BundleValue → List (Result ModuleValue Error)
modules_of bundle = modules_from bundle (bundle_count bundle) 0

-- the result of making a view of this text: the text if it is UTF-8, the error `Utf8` if it is not, or out of memory
abbrev pub IsViewOf : List ℕ → Result (List ℕ) Error → Type 0
IsViewOf text (Ok view) = (view ≡ text) × IsUtf8 text
IsViewOf text (Err OutOfMemory) = Unit {0}
IsViewOf text (Err (Utf8 _)) = ¬ IsUtf8 text
IsViewOf text (Err _) = ⊥

-- the result of reading an indexed bundle from a file: the bundle or the error of `indexed_bundle` for some bytes,
-- `Io` for a failed read, or out of memory
abbrev pub ReadsIndexedBundle : Result BundleValue Error → Type 0
ReadsIndexedBundle (Ok bundle) = (bytes : List ℕ) × (indexed_bundle bytes ≡ Ok bundle)
ReadsIndexedBundle (Err OutOfMemory) = Unit {0}
ReadsIndexedBundle (Err (Io cause)) = FromIo cause (Io cause)
ReadsIndexedBundle (Err e) = (bytes : List ℕ) × (indexed_bundle bytes ≡ Err e)
