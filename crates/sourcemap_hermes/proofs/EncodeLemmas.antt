-- A record of the regular map, with the scopes added, is a record of the Hermes map. If the Hermes map is well-formed,
-- the record with the scopes decodes to a map that restores the Hermes map (`Restores`).
use Rattle.std.proofs.Common.{◌≡◌, List, Result, Ok, sym, ap, subst, ◌∙◌, refl}
use Rattle.sourcemap_errors.specs.declared.errors.Error.{Error}
use Rattle.sourcemap_records.specs.Jsontypes.{Fields, Tree, plain, indexed, flat, AreInRange, IsFine}
use Rattle.sourcemap_map_regular.specs.Decode.{RecordDecodes}
use Rattle.sourcemap_map_regular.specs.Encode.{ReadsBack, RecordAnswer as RegularAnswer, Restores as RestoresRegular}
use Rattle.sourcemap_map_regular.proofs.WriteLemmas.{record_once}
use Rattle.sourcemap_hermes_scopes.specs.ScopeLists.{ScopeEntry}
use Rattle.sourcemap_hermes.specs.Decode.{HermesDecodes}
use Rattle.sourcemap_hermes.specs.Encode.{IsRecordOf, RecordAnswer, Restores, with_scopes, scoped}
use Rattle.sourcemap_hermes.specs.Map.{HermesValue, IsWellFormed}
use Rattle.sourcemap_hermes.proofs.DecodeLemmas.{record_alike}

range-scoped : (r : Fields) (entries : List ScopeEntry) → AreInRange r → AreInRange (with_scopes r entries)
range-scoped r entries h = record {
  version = h.version;
  ignore_list = h.ignore_list;
  x_facebook_offsets = h.x_facebook_offsets;
  debug_id = h.debug_id;
}

fine-scoped : (t : Tree) (entries : List ScopeEntry) → IsFine t → IsFine (scoped t entries)
fine-scoped (plain r) entries h = (range-scoped r entries h.0, h.1)
fine-scoped (indexed r sections) entries h = ((range-scoped r entries h.0.0, h.0.1), h.1)

flat-scoped : (t : Tree) (entries : List ScopeEntry) → flat (scoped t entries) ≡ with_scopes (flat t) entries
flat-scoped (plain r) entries = refl
flat-scoped (indexed r sections) entries = refl

-- for a well-formed map: if the record of the regular map reads back, so does the record with scopes added
back-scoped : (h : HermesValue) (r : Fields) → IsWellFormed h → ReadsBack (RecordDecodes r) (RestoresRegular h.map)
    → ReadsBack (HermesDecodes (with_scopes r h.scopes.entries)) (Restores h)
back-scoped h r well (back, decodes, restores) =
    let m : HermesValue = record { map = back; scopes = h.scopes } in (
      m,
      (
        well.few,
        record_alike (with_scopes r h.scopes.entries) r.x_facebook_sources (Ok back) decodes,
        refl,
        well.of_entries,
      ),
      (restores, refl),
    )

answer-scoped : (h : HermesValue) (t : Tree) → RegularAnswer h.map (Ok t)
    → RecordAnswer h (Ok (scoped t h.scopes.entries))
answer-scoped h t (is, fine, back) = (
  (t, is, refl),
  fine-scoped t h.scopes.entries fine,
  λ well. subst (λ r. ReadsBack (HermesDecodes r) (Restores h)) (sym (flat-scoped t h.scopes.entries))
      (back-scoped h (flat t) well (back well.map)),
)

pub scoped_answer : (h : HermesValue) (t s : Tree) (entries : List ScopeEntry) → s ≡ scoped t entries
    → entries ≡ h.scopes.entries
    → RegularAnswer h.map (Ok t) → RecordAnswer h (Ok s)
scoped_answer h t s entries is same k =
    subst (λ s. RecordAnswer h (Ok s)) (sym (is ∙ ap (scoped t) same)) (answer-scoped h t k)

abbrev answered_with : List ScopeEntry → Result (List ScopeEntry) Error
answered_with entries = Ok entries

pub copied : (entries copies : List ScopeEntry) → answered_with entries ≡ answered_with copies → copies ≡ entries
copied entries copies same = cc

-- a map is written as at most one record
pub scoped_once : (h : HermesValue) (a b : Tree) → IsRecordOf h a → IsRecordOf h b → a ≡ b
scoped_once h a b (r, is, same) (s, is', same') =
    same ∙ ap (λ t. scoped t h.scopes.entries) (record_once h.map r s is is') ∙ sym same'
