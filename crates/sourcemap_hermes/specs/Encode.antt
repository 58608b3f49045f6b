-- The record of a Hermes map, and the map that the record decodes to.
use Rattle.std.specs.Prelude.{◌≡◌, ℕ, List, Some, Result, Ok, Err}
use Rattle.serde_json.specs.Written.{compact_text}
use Rattle.sourcemap_errors.specs.declared.errors.Error.{Error}
use Rattle.sourcemap_records.specs.Jsontypes.{Fields, Tree, plain, indexed, flat, written, IsFine}
use Rattle.sourcemap_map_regular.specs.Encode.{ReadsBack, IsRecordOf as IsRecordOfRegular, Restores as RestoresRegular}
use Rattle.sourcemap_hermes_scopes.specs.ScopeLists.{ScopeEntry}
use Rattle.sourcemap_hermes.specs.Decode.{HermesDecodes}
use Rattle.sourcemap_hermes.specs.Map.{HermesValue, IsWellFormed}

-- sets the key `x_facebook_sources` of a record to `entries`. All other keys are unchanged
abbrev pub with_scopes : Fields → List ScopeEntry → Fields
with_scopes r entries = record r { x_facebook_sources = Some entries }

-- sets the key `x_facebook_sources` of a record to `entries`. All other keys and the sections are unchanged
abbrev pub scoped : Tree → List ScopeEntry → Tree
scoped (plain fields) entries = plain (with_scopes fields entries)
scoped (indexed fields sections) entries = indexed (with_scopes fields entries) sections

-- `t` is the record of `h`: the record of the regular map of `h`, with the key `x_facebook_sources` set to the entries
-- of `h.scopes`
abbrev pub IsRecordOf : HermesValue → Tree → Type 0
IsRecordOf h t = (r : Tree) × IsRecordOfRegular h.map r × (t ≡ scoped r h.scopes.entries)

-- `text` is the compact JSON text of the record of `h`
abbrev pub IsCompactTextOf : HermesValue → List ℕ → Type 0
IsCompactTextOf h text = (t : Tree) × IsRecordOf h t × (text ≡ compact_text (written t))

-- `back` has the same scopes as `h`. At every position, the regular map of `back` means the same as the regular map of
-- `h`. `KeepsParts` says which parts of the regular map of `h` are kept
abbrev pub Restores : (h back : HermesValue) → Type 0
Restores h back = RestoresRegular h.map back.map × (back.scopes ≡ h.scopes)

-- the result of encoding a map: its record. If the map is well-formed, the record decodes to a map that restores the
-- encoded map (`Restores`). This definition permits no error, but `IsAnswer` also permits `OutOfMemory`
abbrev pub RecordAnswer : HermesValue → Result Tree Error → Type 0
RecordAnswer h (Ok t) = IsRecordOf h t × IsFine t × (IsWellFormed h → ReadsBack (HermesDecodes (flat t)) (Restores h))
RecordAnswer h (Err _) = ⊥
