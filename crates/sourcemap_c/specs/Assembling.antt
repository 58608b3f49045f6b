-- Sections in a handle, and the index map that is made of them.
use Rattle.std.specs.Prelude.{◌≡◌, ◌⊎◌, ◌∷◌, ◌++◌, ◌==◌, ℕ, List, [], Bool, true, cond, if◌then◌else◌, map, option_map, Option, Some, None, Result, MatchResult}
use Rattle.std.specs.Option.{option_and_then}
use Rattle.sourcemap_errors.specs.declared.errors.Error.TheVariants.{OutOfMemory}
use Rattle.sourcemap_index.specs.Family.{section_value}
use Rattle.sourcemap_index.specs.Index.{index_made}
use Rattle.sourcemap_index.specs.Section.{section_made}
use Rattle.sourcemap_index_model.specs.MapTree.{MapSection, MapTree, index_tree}
use Rattle.sourcemap_c_handles.specs.declared.errors.Failure.{Failure}
use Rattle.sourcemap_c_handles.specs.declared.errors.Failure.TheVariants.{Library}
use Rattle.sourcemap_c_handles.specs.declared.held.Held.{Held}
use Rattle.sourcemap_c_handles.specs.declared.held.Held.TheVariants.{Sections}
use Rattle.sourcemap_c.specs.Replacing.{HasNoText}

-- the list of sections in a handle; `None` if the handle holds no such list
abbrev pub list_in : Option Held → Option (List MapSection)
list_in (Some (Sections sections)) = Some (map section_value sections.items)
list_in _ = None

-- The list of sections is unchanged. If `old` holds no list of sections, `new` is equal to `old`.
abbrev pub AreAsBefore : (old new : Option Held) → Type 0
AreAsBefore old new = (list_in new ≡ list_in old) × (list_in old ≡ None → new ≡ old)

-- an optional argument: `x` if the flag `given` is set, otherwise `None`
abbrev pub if_given : {X : Type 0} → (given : Bool) → X → Option X
if_given given x = cond given (Some x) None

-- The map of a new section. If `given` is false, the result is `Some None`: the section has no map. If `given` is true,
-- the result is the map that the handle holds, or `None` (an error) if the handle holds no map.
abbrev pub map_due : (given : Bool) → Option MapTree → Option (Option MapTree)
map_due given tree = cond given (option_map Some tree) (Some None)

-- the new section; `None` if `given` is true but the handle holds no map
abbrev pub section_due : (start : ℕ × ℕ) → (url : Option (List ℕ)) → (given : Bool) → Option MapTree → Option MapSection
section_due start url given tree = option_map (section_made start url) (map_due given tree)

-- the sections with the new one at the end; `None` if the list or the new section is missing
abbrev pub with_section : Option (List MapSection) → Option MapSection → Option (List MapSection)
with_section sections section = option_and_then (λ s. option_map (λ ss. ss ++ s ∷ []) sections) section

-- the line at which a module begins, from the value that C passes; `None` (no module) for 4294967295 (`SM_NONE`)
abbrev pub line_of : ℕ → Option ℕ
line_of offset = if offset == 4294967295 then None else Some offset

-- the index map with this file and these sections. `offsets` are the lines at which the modules begin, and `paths` are
-- the paths of the modules
abbrev pub index_of : (file : Option (List ℕ)) → (offsets : Option (List (Option ℕ)))
    → (paths : Option (List (List ℕ))) → List MapSection → MapTree
index_of file offsets paths ss = index_tree (index_made file ss offsets paths)

-- paths are given, and the failure is that one of them is not UTF-8
abbrev pub IsNoPathIf : (given : Bool) → (paths : List (List ℕ)) → Failure → Type 0
IsNoPathIf true paths (Library e) = HasNoText paths e
IsNoPathIf _ paths _ = ⊥

-- either `given` is true and the failure is that a path is not UTF-8, or `Due` allows the failure
abbrev pub OrNoPath : (given : Bool) → (paths : List (List ℕ)) → (Failure → Type 0) → Failure → Type 0
OrNoPath given paths Due failure = IsNoPathIf given paths failure ⊎ Due failure

-- After success the handle is empty. After out of memory it is unchanged or empty. After any other failure it is
-- unchanged.
abbrev pub Empties : {X : Type 0} → Result X Failure → (old new : Option Held) → Type 0
Empties result old new = MatchResult result (λ _. new ≡ None)
    (λ failure. (new ≡ old) ⊎ ((failure ≡ Library OutOfMemory) × (new ≡ None)))
