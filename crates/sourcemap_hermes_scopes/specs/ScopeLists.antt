-- The scopes of sources, as a JSON record has them under `x_facebook_sources`. The function names, the function maps
-- that scopes encode, and the equality of scopes.
use Rattle.std.specs.Prelude.{◌≡◌, ℕ, List, [], map, slice_get, Bool, Option, Some, None, option_map, option_and_then}
use Rattle.std.specs.Prelude.{Vec}
use Rattle.std.specs.Option.{option_eq, option_map_or}
use Rattle.std.specs.Ordering.{on, eq_of_both}
use Rattle.std.specs.Cmp.Lexicographic.{pointwise}
use Rattle.std.specs.declared.alloc.Global.{Global}
use Rattle.sourcemap_map_parts.specs.TextLists.{same_text}
use Rattle.sourcemap_records.specs.Jsontypes.{Scopes, scopes_view}
use Rattle.sourcemap_records.specs.declared.jsontypes.FacebookScopeMapping.{FacebookScopeMapping}
use Rattle.sourcemap_hermes_scopes.specs.Offsets.{StandsFor}
use Rattle.sourcemap_hermes_scopes.specs.declared.offsets.HermesScopeOffset.{HermesScopeOffset}

-- the entry of a source: a list of scopes, or `None`
abbrev pub ScopeEntry : Type 0
ScopeEntry = Option (List Scopes)

abbrev pub list_in : Vec FacebookScopeMapping Global → List Scopes
list_in list = map scopes_view list.items

abbrev pub entry_in : Option (Vec FacebookScopeMapping Global) → ScopeEntry
entry_in entry = option_map list_in entry

abbrev pub entries_in : Vec (Option (Vec FacebookScopeMapping Global)) Global → List ScopeEntry
entries_in entries = map entry_in entries.items

-- the first item of the list; `None` if there is no list or the list is empty. The function map and the function names
-- of a source come from this item only
abbrev pub first_scopes : ScopeEntry → Option Scopes
first_scopes entry = option_and_then (λ list. slice_get list 0) entry

-- the names of the functions of a source; empty if it has no scopes
abbrev pub names_of : ScopeEntry → List (List ℕ)
names_of entry = option_map_or (λ scopes. scopes.names) (first_scopes entry) []

-- the function map that scopes encode; `None` if there are no scopes or their mappings are invalid
abbrev pub ScopesStandFor : Option Scopes → Option (List HermesScopeOffset) → Type 0
ScopesStandFor None function_map = function_map ≡ None
ScopesStandFor (Some scopes) function_map = StandsFor scopes.mappings function_map

-- the function map that an entry encodes
abbrev pub EntryStandsFor : ScopeEntry → Option (List HermesScopeOffset) → Type 0
EntryStandsFor entry function_map = ScopesStandFor (first_scopes entry) function_map

-- the same names and the same mappings
abbrev pub same_scopes : Scopes → Scopes → Bool
same_scopes =
    eq_of_both
    (on (λ s. s.names) (pointwise same_text))
    (on (λ s. s.mappings) same_text)

-- both `None`, or equal lists of scopes
abbrev pub same_entry : ScopeEntry → ScopeEntry → Bool
same_entry = option_eq (pointwise same_scopes)
