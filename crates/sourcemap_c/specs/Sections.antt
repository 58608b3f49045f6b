-- Sections of an index map in a handle.
use Rattle.std.specs.Prelude.{◌≡◌, ◌≢◌, ℕ, List, is_some, option_and_then, slice_get, Option, Some, None}
use Rattle.sourcemap_index_model.specs.MapTree.{MapSection, MapTree, leaf, index, section_list}
use Rattle.sourcemap_c_handles.specs.declared.errors.Failure.{Failure}
use Rattle.sourcemap_c_handles.specs.declared.errors.Failure.TheVariants.{Absent, WrongKind}
use Rattle.sourcemap_c_handles.specs.declared.layout.SectionStart.{SectionStart}

-- the sections of an index map; `None` for other maps
abbrev pub sections_in : MapTree → Option (List MapSection)
sections_in (leaf _) = None
sections_in (index parts ss) = Some (section_list ss)

abbrev pub start_of : MapSection → SectionStart
start_of s =
    record { line = s.head.line; column = s.head.column; has_map = is_some s.map; has_url = is_some s.head.url }

abbrev pub url_of : MapSection → Option (List ℕ)
url_of s = s.head.url

-- the map of the section with this id; `None` if there is no such section, or it has no map
abbrev pub map_at : ℕ → List MapSection → Option MapTree
map_at id ss = option_and_then (λ s. s.map) (slice_get ss id)

-- the handle has the map of the section with this id
abbrev pub HoldsMapAt : ℕ → Option (List MapSection) → Option MapTree → Type 0
HoldsMapAt id (Some ss) held = (map_at id ss ≢ None) × (held ≡ map_at id ss)
HoldsMapAt id None held = ⊥

-- why there is no map: `Absent` if the section is missing or has no map, `WrongKind` if there is no index map
abbrev pub LacksMapAt : ℕ → Option (List MapSection) → Failure → Type 0
LacksMapAt id (Some ss) failure = (failure ≡ Absent) × (map_at id ss ≡ None)
LacksMapAt id None failure = failure ≡ WrongKind
