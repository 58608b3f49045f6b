-- The Hermes map that a record decodes to.
use Rattle.std.specs.Prelude.{◌≡◌, ◌⊎◌, List, Option, Some, None, Result, Ok, Err}
use Rattle.sourcemap_errors.specs.declared.errors.Error.{Error}
use Rattle.sourcemap_errors.specs.declared.errors.Error.TheVariants.{IncompatibleSourceMap}
use Rattle.sourcemap_records.specs.Jsontypes.{Fields, Tree, plain, indexed}
use Rattle.sourcemap_map_regular.specs.Decode.{RecordDecodes}
use Rattle.sourcemap_hermes_scopes.specs.ScopeLists.{ScopeEntry}
use Rattle.sourcemap_hermes_scopes.specs.SourceScopes.{AreOfEntries}
use Rattle.sourcemap_hermes.specs.Map.{HermesValue, AreFewScopes}

-- the result of decoding the record `r` with `entries` as the scopes of its sources. If there are more than 4294967295
-- entries, the result is the error `IncompatibleSourceMap`, even if the regular map cannot be decoded either. Otherwise
-- the errors are the errors of decoding the regular map. Without an error, the Hermes map has the decoded regular map,
-- `entries`, and the function maps that `entries` encode
abbrev pub EntriesDecode : Fields → List ScopeEntry → Result HermesValue Error → Type 0
EntriesDecode r entries (Ok h) =
    AreFewScopes entries × RecordDecodes r (Ok h.map) × (h.scopes.entries ≡ entries) × AreOfEntries h.scopes
EntriesDecode r entries (Err e) =
    ((¬ AreFewScopes entries) × (e ≡ IncompatibleSourceMap)) ⊎ (AreFewScopes entries × RecordDecodes r (Err e))

-- as `EntriesDecode`, but if the entries are missing (`None`), the result is the error `IncompatibleSourceMap`
abbrev pub DecodesWith : Fields → Option (List ScopeEntry) → Result HermesValue Error → Type 0
DecodesWith r None answer = answer ≡ Err IncompatibleSourceMap
DecodesWith r (Some entries) answer = EntriesDecode r entries answer

-- the Hermes map that a record with these keys decodes to, or the error of decoding
abbrev pub HermesDecodes : Fields → Result HermesValue Error → Type 0
HermesDecodes r answer = DecodesWith r r.x_facebook_sources answer

-- the result of decoding a record of any kind as a Hermes map; the record of an index map is an error
abbrev pub RecordDecodesAsHermes : Tree → Result HermesValue Error → Type 0
RecordDecodesAsHermes (plain fields) answer = HermesDecodes fields answer
RecordDecodesAsHermes (indexed _ _) answer = answer ≡ Err IncompatibleSourceMap
