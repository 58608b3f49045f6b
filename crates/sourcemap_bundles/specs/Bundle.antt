-- The header of an indexed bundle, the entries of its modules, and ranges of its bytes.
use Rattle.std.specs.Prelude.{◌≡◌, ℕ, ◌+◌, ◌*◌, nat_le, if◌then◌else◌, List, length, take, drop, Result, Ok, Err}
use Rattle.byteorder.specs.Endian.{little_number}
use Rattle.sourcemap_errors.specs.declared.errors.RangeFault.{RangeFault}
use Rattle.sourcemap_errors.specs.declared.errors.Error.{Error}
use Rattle.sourcemap_errors.specs.declared.errors.Error.TheVariants.{Scroll}
use Rattle.sourcemap_bundles.specs.declared.bundle.ModuleEntry.{ModuleEntry}
use Rattle.sourcemap_bundles.specs.declared.bundle.RamBundleHeader.{RamBundleHeader}

-- the result of a call that allocates nothing agrees with `due`: both are the same error, or `view` maps the value of
-- the result to the value of `due`
abbrev pub Returns : {X Y : Type 0} → (X → Y) → Result X Error → Result Y Error → Type 0
Returns view (Ok x) due = due ≡ Ok (view x)
Returns view (Err e) due = due ≡ Err e

-- `make` applied to a value; an error stays unchanged
abbrev pub then_make : {X Y : Type 0} → (X → Result Y Error) → Result X Error → Result Y Error
then_make make (Ok x) = make x
then_make make (Err e) = Err e

-- the `size` bytes from `start` on, or `Scroll` if their end passes the end of `bytes`
abbrev pub range_of : List ℕ → ℕ → ℕ → Result (List ℕ) Error
range_of bytes start size =
    if nat_le (start + size) (length bytes) then Ok (take size (drop start bytes))
    else Err (Scroll (record { start = start; size = size; len = length bytes }))

-- the number in the 4 bytes from this byte offset on, lowest byte first. A missing byte counts as 0
abbrev pub u32_at : ℕ → List ℕ → ℕ
u32_at offset bytes = little_number 4 (drop offset bytes)

-- the number that an indexed bundle begins with
abbrev pub bundle_magic : ℕ
bundle_magic = 0xFB0BD1E5

-- the first 12 bytes, as three numbers; `Scroll` if there are fewer bytes
abbrev pub header_of : List ℕ → Result RamBundleHeader Error
header_of bytes = then_make (λ header. Ok (record {
  magic = u32_at 0 header;
  module_count = u32_at 4 header;
  startup_code_size = u32_at 8 header;
})) (range_of bytes 0 12)

-- the entry of the module `id`, as two numbers. The entries start after the 12 bytes of the header, and each entry has
-- 8 bytes. `Scroll` if the bytes end before the end of the entry
abbrev pub entry_of : List ℕ → ℕ → Result ModuleEntry Error
entry_of bytes id = then_make (λ entry. Ok (record {
  offset = u32_at 0 entry;
  length = u32_at 4 entry;
})) (range_of bytes (12 + 8 * id) 8)
