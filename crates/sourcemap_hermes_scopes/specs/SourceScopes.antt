-- The scopes of the sources of a Hermes map, and the function that contains an original position.
use Rattle.std.specs.Prelude.{ℕ, ◌≤◌, List, length, slice_get, Bool, Option, IfSome, option_map, option_and_then}
use Rattle.std.specs.Option.{option_eq}
use Rattle.std.specs.List.{AllZip}
use Rattle.std.specs.Ordering.{on, eq_of_both}
use Rattle.std.specs.Cmp.{IsEquivalence}
use Rattle.std.specs.Cmp.Rules.{comparing}
use Rattle.std.specs.Cmp.Lexicographic.{pointwise}
use Rattle.std.proofs.Common.{rules}
use Rattle.sourcemap_hermes_scopes.specs.FunctionMap.{AreOffsetsInOrder, closest_offset, offset_name, same_offsets}
use Rattle.sourcemap_tokens.specs.Items.{item_at}
use Rattle.sourcemap_hermes_scopes.specs.Picks.{items_at}
use Rattle.sourcemap_hermes_scopes.specs.ScopeLists.{ScopeEntry, EntryStandsFor, names_of, same_entry}
use Rattle.sourcemap_hermes_scopes.specs.declared.offsets.HermesScopeOffset.{HermesScopeOffset}

-- the scopes of sources, in two lists. The index of an item is the source id. `entries` has the items of
-- `x_facebook_sources`. `function_maps` has the function maps that the entries encode (`AreOfEntries`)
pub record SourceScopesValue : Type 0 where
  pub entries : List ScopeEntry
  pub function_maps : List (Option (List HermesScopeOffset))

-- there are at most as many entries as a map can have sources
abbrev pub AreFewScopes : List ScopeEntry → Type 0
AreFewScopes entries = length entries ≤ 4294967295

-- the entry of each source encodes the function map of the same source (`EntryStandsFor`). There are as many function
-- maps as entries
abbrev pub AreOfEntries : SourceScopesValue → Type 0
AreOfEntries scopes = AllZip EntryStandsFor scopes.entries scopes.function_maps

-- the functions of the source with this id are sorted by start position; true if the source has no function map
abbrev pub IsInOrderAt : SourceScopesValue → ℕ → Type 0
IsInOrderAt scopes id = IfSome (item_at scopes.function_maps id) AreOffsetsInOrder

-- the name index of the function that contains the original position `p` in the source with this id (`closest_offset`).
-- Line and column of `p` count from 0. `None` if the source has no function map, or no function starts at or before `p`
abbrev pub name_index : SourceScopesValue → ℕ → ℕ × ℕ → Option ℕ
name_index scopes id p =
    option_and_then (λ offsets. option_map offset_name (closest_offset offsets p)) (item_at scopes.function_maps id)

-- the name of the function that contains the original position `p` in the source with this id. Line and column of `p`
-- count from 0. `None` if `name_index` is `None`, or if the name index is past the end of the names of the source
abbrev pub scope_at : SourceScopesValue → ℕ → ℕ × ℕ → Option (List ℕ)
scope_at scopes id p =
    option_and_then (λ index. slice_get (names_of (item_at scopes.entries id)) index) (name_index scopes id p)

-- the scopes of the sources with these ids, in this order; `None` for an id without scopes
abbrev pub picked_scopes : SourceScopesValue → List ℕ → SourceScopesValue
picked_scopes scopes ids = record {
  entries = items_at scopes.entries ids;
  function_maps = items_at scopes.function_maps ids;
}

-- equal entries, and equal function maps
abbrev pub same_source_scopes : SourceScopesValue → SourceScopesValue → Bool
same_source_scopes =
    eq_of_both
    (on (λ s. s.entries) (pointwise same_entry))
    (on (λ s. s.function_maps) (pointwise (option_eq same_offsets)))

pub same_source_scopes_equiv : IsEquivalence same_source_scopes
same_source_scopes_equiv = search (comparing, rules) depth 24
