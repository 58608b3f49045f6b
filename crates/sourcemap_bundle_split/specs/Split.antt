-- Split bundles, and the items that their iterators return. An item is the name, the text and the map of a module, or
-- an error.
use Rattle.std.specs.Prelude.{◌≡◌, ◌≤◌, ℕ, ◌&&◌, if◌then◌else◌, List, [], ◌∷◌, ◌++◌, codes, length, map, filter_map}
use Rattle.std.specs.Prelude.{slice_get, Option, Some, None, is_some, option_map, MatchOption}
use Rattle.std.specs.Prelude.{Result, Ok, Err, IfOk, string_bytes}
use Rattle.std.specs.Fmt.{decimal}
use Rattle.std.specs.List.{AllByRecursion}
use Rattle.std.specs.Str.{is_utf8}
use Rattle.std.specs.declared.alloc.Global.{Global}
use Rattle.std.specs.declared.string.String.{String}
use Rattle.sourcemap_errors.specs.Answer.{Gives}
use Rattle.sourcemap_errors.specs.declared.errors.Error.{Error}
use Rattle.sourcemap_errors.specs.declared.errors.Error.TheVariants.{InvalidRamBundleEntry, NotARamBundle}
use Rattle.sourcemap_map_regular.specs.Map.{IsWellFormed, MapValue, meaning}
use Rattle.sourcemap_index_model.specs.Decode.{Then}
use Rattle.sourcemap_index_model.specs.Flat.{FlatAnswer}
use Rattle.sourcemap_index_model.specs.MapTree.{IndexValue, index_tree}
use Rattle.sourcemap_bundles.specs.Modules.{ModuleValue}
use Rattle.sourcemap_bundle_split.specs.ModuleMap.{end_of, module_map}

-- a module of a split bundle: the file name, the text and the map of the module
pub record ModuleParts : Type 0 where
  pub name : List ℕ
  pub text : List ℕ
  pub map : MapValue

abbrev pub parts_value : String Global × List ℕ × MapValue → ModuleParts
parts_value parts = record { name = string_bytes parts.0; text = parts.1; map = parts.2 }

-- the name of the file of a module
abbrev pub file_name : ℕ → List ℕ
file_name id = decimal id ++ codes ".js"

abbrev pub parts_on : MapValue → ℕ → ModuleValue → ModuleParts
parts_on flat line m = record {
  name = file_name m.id;
  text = m.text;
  map = module_map flat (file_name m.id) line (end_of line m.text);
}

-- bytes as a text; the error `InvalidRamBundleEntry` if they are not UTF-8
abbrev pub utf8_text : List ℕ → Result (List ℕ) Error
utf8_text bytes = if is_utf8 bytes then Ok bytes else Err InvalidRamBundleEntry

-- The name, the text and the map of the module `m`, which begins at column 0 of `line` of the flat map. The error is
-- `InvalidRamBundleEntry` if the flat map has no token at or before this position, or if the text of `m` is not UTF-8
abbrev pub parts_at : MapValue → ℕ → ModuleValue → Result ModuleParts Error
parts_at flat line m =
    if is_some (meaning flat (line, 0)) && is_utf8 m.text then Ok (parts_on flat line m) else Err InvalidRamBundleEntry

-- The module `m` with the number of its first line. The second argument is the offset at index `m.id` of the list of
-- offsets. If the list has no such index, the result is the error `InvalidRamBundleEntry`. If the offset is null, the
-- result is `None`: the module is skipped
abbrev pub with_line : ModuleValue → Option (Option ℕ) → Option (Result (ModuleValue × ℕ) Error)
with_line m None = Some (Err InvalidRamBundleEntry)
with_line m (Some None) = None
with_line m (Some (Some line)) = Some (Ok (m, line))

abbrev pub with_first_line : List (Option ℕ) → Result ModuleValue Error → Option (Result (ModuleValue × ℕ) Error)
with_first_line offsets (Ok m) = with_line m (slice_get offsets m.id)
with_first_line offsets (Err e) = Some (Err InvalidRamBundleEntry)

abbrev pub due_of : MapValue → Result (ModuleValue × ℕ) Error → Result ModuleParts Error
due_of flat (Ok found) = parts_at flat found.1 found.0
due_of flat (Err e) = Err e

-- the item for the module that `bundle_module` gives for a number; `None` if the module is missing or skipped
abbrev pub due_in : MapValue → List (Option ℕ) → Result (Option ModuleValue) Error → Option (Result ModuleParts Error)
due_in flat offsets (Ok None) = None
due_in flat offsets (Ok (Some m)) = option_map (due_of flat) (with_first_line offsets (Ok m))
due_in flat offsets (Err e) = Some (Err InvalidRamBundleEntry)

-- the answer is `due`, or the error `OutOfMemory` instead of an item
abbrev pub YieldsPart : {A B : Type 0} → (A → B) → Option (Result A Error) → Option (Result B Error) → Type 0
YieldsPart view None due = due ≡ None
YieldsPart {B = B} view (Some r) due = (item : Result B Error) × (due ≡ Some item) × Gives view r item

-- the items for `modules`, in order: one item for each module, but none for a module that is skipped
abbrev pub dues_of : MapValue → List (Option ℕ) → List (Result ModuleValue Error) → List (Result ModuleParts Error)
dues_of flat offsets modules = map (due_of flat) (filter_map (with_first_line offsets) modules)

-- A split bundle: the flat map, the offsets, and the modules that the iterator has not reached. The offset at index `n`
-- is the first line of module number `n` in the flat map, or `None` if the module is skipped
pub record SplitValue : Type 0 where
  pub flat : MapValue
  pub offsets : List (Option ℕ)
  pub modules : List (Result ModuleValue Error)

abbrev pub dues_in : SplitValue → List (Result ModuleParts Error)
dues_in split = dues_of split.flat split.offsets split.modules

-- the split bundle with this flat map, these modules and this list of first lines; the error `NotARamBundle` if the
-- list is `None`
abbrev pub with_offsets : MapValue → List (Result ModuleValue Error) → Option (List (Option ℕ))
    → Result SplitValue Error
with_offsets flat modules None = Err NotARamBundle
with_offsets flat modules (Some offsets) = Ok (record { flat = flat; offsets = offsets; modules = modules })

-- `answer` is the result of splitting a bundle by its index map `i`. If `i` cannot be flattened, the result is the
-- error of flattening. Otherwise `with_offsets` determines the result
abbrev pub Splits : IndexValue → List (Result ModuleValue Error) → Result SplitValue Error → Type 0
Splits i modules answer =
    Then (FlatAnswer (index_tree i)) (λ flat a. a ≡ with_offsets flat modules i.parts.x_facebook_offsets) answer

-- at most 4294967295 sources, and at most 4294967295 names
pub record HasFewTexts (flat : MapValue) : Type 0 where
  pub sources : length flat.sources ≤ 4294967295
  pub names : length flat.names ≤ 4294967295

-- the map of each item that is no error is well-formed
abbrev pub HaveWellFormedMaps : List (Result ModuleParts Error) → Type 0
HaveWellFormedMaps dues = AllByRecursion (λ due. IfOk due (λ parts. IsWellFormed parts.map)) dues

-- A call of `next` changes an iterator from `s` to `t`. `rest` lists the items that an iterator has still to return.
-- The call returns the first item of `rest s`, or the error `OutOfMemory` instead of this item. In both cases `rest t`
-- has the other items of `rest s`. If `rest s` is empty, the call returns `None`, and `rest t` is empty
abbrev pub YieldsDue : {S A B : Type 0} → (A → B) → (S → List (Result B Error)) → S → Option (Result A Error)
    → S → Type 0
YieldsDue {B = B} view rest s item t =
    MatchOption item ((rest s ≡ []) × (rest t ≡ [])) (λ r. (due : Result B Error) × (rest s ≡ due ∷ rest t)
    × Gives view r due)
