-- The files of a file bundle: their names, and the value of the bundle that is read from them.
use Rattle.std.specs.Prelude.{◌≡◌, ◌<◌, ℕ, ◌+◌, ◌^◌, max, List, [], ◌++◌, codes, map, fold, string_bytes}
use Rattle.std.specs.BTreeMap.{insert_entry}
use Rattle.std.specs.List.{AllZip}
use Rattle.std.specs.List.Sorted.{IsSorted}
use Rattle.std.specs.Ordering.{nat_cmp}
use Rattle.std.specs.Str.Parse.{IsNumeral, digits_value}
use Rattle.std.specs.String.{string_cmp}
use Rattle.std.specs.declared.alloc.Global.{Global}
use Rattle.std.specs.declared.string.String.{String}
use Rattle.sourcemap_errors.specs.Errors.{FromIo}
use Rattle.sourcemap_errors.specs.declared.errors.Error.{Error}
use Rattle.sourcemap_errors.specs.declared.errors.Error.TheVariants.{Io, InvalidRamBundleIndex, NotARamBundle, OutOfMemory}
use Rattle.sourcemap_bundles.specs.Modules.{BundleValue, FilesValue, files, indexed}

-- the errors of reading a file bundle; a read that ran out of memory is `OutOfMemory`, not `Io`
abbrev pub IsFileError : Error → Type 0
IsFileError OutOfMemory = Unit {0}
IsFileError (Io cause) = FromIo cause (Io cause)
IsFileError NotARamBundle = Unit {0}
IsFileError InvalidRamBundleIndex = Unit {0}
IsFileError _ = ⊥

-- a file's name consists of ASCII digits and `.js`, and the digits denote this number, which is below 2^64 - 1
abbrev pub IsNumbered : List ℕ → ℕ → Type 0
IsNumbered name id = (digits : List ℕ) × (name ≡ digits ++ codes ".js") × IsNumeral 10 digits
    × (id ≡ digits_value 10 digits) × (id + 1 < 2 ^ 64)

-- a file bundle with this startup code and without modules
abbrev pub no_modules : List ℕ → FilesValue
no_modules startup = record { startup = startup; count = 1; modules = [] }

-- a file is added with its number, and replaces an earlier file with the same number
abbrev pub with_file : FilesValue → ℕ × List ℕ → FilesValue
with_file folder file = record {
  startup = folder.startup;
  count = max folder.count (file.0 + 1);
  modules = insert_entry nat_cmp folder.modules file.0 file.1;
}

-- a file bundle with this startup code, after these numbered files were added, in the order of the list
abbrev pub folder_of : List ℕ → List (ℕ × List ℕ) → FilesValue
folder_of startup found = fold with_file (no_modules startup) found

-- files of these names, each with its number
abbrev pub AreNumbered : List (List ℕ) → List (ℕ × List ℕ) → Type 0
AreNumbered names found = AllZip (λ name file. IsNumbered name file.0) names found

-- a file bundle with this startup code, after one file for each of these names was added, in the order of the list.
-- Each file has the number that its name denotes, as in `IsNumbered`. The files may have any contents
abbrev pub IsReadBy : List (List ℕ) → List ℕ → FilesValue → Type 0
IsReadBy names startup folder =
    (found : List (ℕ × List ℕ)) × AreNumbered names found × (folder ≡ folder_of startup found)

-- a file bundle that was read from files in the order of the bytes of their names
abbrev pub IsFolder : FilesValue → Type 0
IsFolder folder = (names : List (String Global)) × (startup : List ℕ)
    × IsSorted string_cmp names × IsReadBy (map string_bytes names) startup folder

-- the bundle is a file bundle whose files were read in the order of the bytes of their names
abbrev pub IsFileBundle : BundleValue → Type 0
IsFileBundle (indexed header bytes) = ⊥
IsFileBundle (files folder) = IsFolder folder
