-- When an item of the lists of a regular map looks wrong, though the map is valid.
use Rattle.std.specs.Prelude.{ℕ, ◌==◌, ◌&&◌, Bool, not, false, is_some, is_none, List, length, take, slice_get}
use Rattle.std.specs.List.{list_any}
use Rattle.std.specs.Option.{option_map_or}
use Rattle.std.specs.Str.{bytes_eq}
use Rattle.std.specs.Cmp.Lexicographic.{pointwise}
use Rattle.sourcemap_tokens.specs.declared.tokens.RawToken.{RawToken}
use Rattle.sourcemap_map_parts.specs.TextLists.{same_text}
use Rattle.sourcemap_map_regular.specs.Map.{MapValue, resolved_sources, contents_of}
use Rattle.sourcemap_check_lists.specs.declared.lists.ListDoubt.{ListDoubt}
use Rattle.sourcemap_check_lists.specs.declared.lists.ListDoubt.TheVariants.{UnusedSource, UnusedName, EqualSource}
use Rattle.sourcemap_check_lists.specs.declared.lists.ListDoubt.TheVariants.{MissingContents, RootWithoutEffect}
use Rattle.sourcemap_check_lists.specs.declared.marks.Field.{Field}
use Rattle.sourcemap_check_lists.specs.declared.marks.Field.TheVariants.{Source, Name}

-- the source id of a token, or its name id
abbrev pub id_in : Field → RawToken → ℕ
id_in Source t = t.src_id
id_in Name t = t.name_id

-- no token has this source id, or this name id
abbrev pub is_unused : Field → List RawToken → ℕ → Bool
is_unused field tokens id = not (list_any (λ t. id_in field t == id) tokens)

-- the text at an index is equal to one before it
abbrev pub is_repeated : List (List ℕ) → ℕ → Bool
is_repeated texts i = option_map_or (λ text. list_any (bytes_eq text) (take i texts)) (slice_get texts i) false

-- the map has a `sourceRoot`, and its sources are the same without it
abbrev pub has_idle_root : MapValue → Bool
has_idle_root m = is_some m.root && pointwise same_text (resolved_sources m) m.sources

-- the item with this index looks wrong: a source; for `UnusedName` a name; for `RootWithoutEffect` the root itself, which
-- has the index 0
abbrev pub is_doubtful : ListDoubt → MapValue → ℕ → Bool
is_doubtful UnusedSource m i = is_unused Source m.tokens i
is_doubtful UnusedName m i = is_unused Name m.tokens i
is_doubtful EqualSource m i = is_repeated (resolved_sources m) i
is_doubtful MissingContents m i = is_none (contents_of m i)
is_doubtful RootWithoutEffect m i = has_idle_root m

-- how many items there are
abbrev pub item_count : ListDoubt → MapValue → ℕ
item_count UnusedSource m = length m.sources
item_count UnusedName m = length m.names
item_count EqualSource m = length m.sources
item_count MissingContents m = length m.sources
item_count RootWithoutEffect m = 1
