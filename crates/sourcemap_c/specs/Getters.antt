-- Getters of a map in a handle.
use Rattle.std.specs.Prelude.{◌≡◌, ◌<◌, ◌+◌, ℕ, List, length, min, Option, Some, None, option_map, option_and_then, slice_get}
use Rattle.sourcemap_map_regular.specs.Map.{MapValue, source_of, name_of, contents_of}
use Rattle.sourcemap_index_model.specs.MapTree.{MapTree, leaf, index, held, section_list}
use Rattle.sourcemap_c_handles.specs.declared.layout.Counts.{Counts}

-- the map itself if it is regular, the regular map of a Hermes map, `None` for an index map
abbrev pub leaf_in : MapTree → Option MapValue
leaf_in (leaf l) = Some (held l)
leaf_in (index _ _) = None

-- a count for C; a count above 4294967295 becomes 4294967295
abbrev pub as_u32 : ℕ → ℕ
as_u32 n = min n 4294967295

abbrev pub counts_of_map : MapValue → Counts
counts_of_map m = record {
  tokens = as_u32 (length m.tokens);
  sources = length m.sources;
  names = length m.names;
  ignored = as_u32 (length m.ignored);
  sections = 0;
}

abbrev pub counts_of_sections : ℕ → Counts
counts_of_sections n = record { tokens = 0; sources = 0; names = 0; ignored = 0; sections = as_u32 n }

abbrev pub counts_of : MapTree → Counts
counts_of (leaf l) = counts_of_map (held l)
counts_of (index parts ss) = counts_of_sections (length (section_list ss))

abbrev pub file_of : MapTree → Option (List ℕ)
file_of (leaf l) = (held l).file
file_of (index parts _) = parts.file

abbrev pub root_of : MapTree → Option (List ℕ)
root_of t = option_and_then (λ m. m.root) (leaf_in t)

abbrev pub source_in : ℕ → MapTree → Option (List ℕ)
source_in id t = option_and_then (λ m. source_of m id) (leaf_in t)

abbrev pub name_in : ℕ → MapTree → Option (List ℕ)
name_in id t = option_and_then (λ m. name_of m id) (leaf_in t)

abbrev pub contents_in : ℕ → MapTree → Option (List ℕ)
contents_in id t = option_and_then (λ m. contents_of m id) (leaf_in t)

-- for each `i` below `n`, item `i` of `written` is `view` of item `first + i` of `items`, or neither item exists
abbrev pub AreFrom : {X Y : Type 0} → (X → Y) → (first : ℕ) → List X → List Y → ℕ → Type 0
AreFrom view first items written n =
    (i : ℕ) → i < n → slice_get written i ≡ option_map view (slice_get items (first + i))
