-- A record decodes to at most one result, and its scopes do not change the regular map.
use Rattle.std.proofs.Common.{◌≡◌, List, Option, Some, None, Result, Ok, Err, Vec, Global, option_map, sym, ap, subst}
use Rattle.std.proofs.Common.{◌∙◌, inl, inr}
use Rattle.sourcemap_errors.specs.Answer.{IsAnswer}
use Rattle.sourcemap_errors.specs.declared.errors.Error.{Error}
use Rattle.sourcemap_errors.proofs.AnswerLemmas.{UnlessMemory-weaker}
use Rattle.sourcemap_records.specs.Jsontypes.{Fields, Tree, plain, indexed, tree, flat, fields_view}
use Rattle.sourcemap_records.specs.declared.jsontypes.FacebookScopeMapping.{FacebookScopeMapping}
use Rattle.sourcemap_records.specs.declared.jsontypes.RawSourceMap.{RawSourceMap, out-RawSourceMap, roll-RawSourceMap}
use Rattle.sourcemap_records.proofs.JsontypesLemmas.{flat-tree, flat-roll}
use Rattle.sourcemap_map_regular.specs.Decode.{HasFewItems, RecordDecodes}
use Rattle.sourcemap_map_regular.specs.Map.{MapValue}
use Rattle.sourcemap_map_regular.proofs.DecodeLemmas.{RecordDecodes-same}
use Rattle.sourcemap_hermes_scopes.specs.ScopeLists.{ScopeEntry, entries_in}
use Rattle.sourcemap_hermes_scopes.proofs.SourceScopesLemmas.{function_maps_same}
use Rattle.sourcemap_hermes.specs.Map.{HermesValue, hermes_value}
use Rattle.sourcemap_hermes.specs.Decode.{HermesDecodes, DecodesWith, EntriesDecode, RecordDecodesAsHermes}
use Rattle.sourcemap_hermes.specs.declared.map.SourceMapHermes.{SourceMapHermes}

-- A record decodes to at most one result.

pub EntriesDecode-same : (r : Fields) (entries : List ScopeEntry) (a b : Result HermesValue Error)
    → EntriesDecode r entries a → EntriesDecode r entries b → a ≡ b
EntriesDecode-same r entries (Ok a) (Ok b) h k =
    let same = RecordDecodes-same r (Ok a.map) (Ok b.map) h.1 k.1 in
    let maps : a.map ≡ b.map = cc in
    let lists : a.scopes.entries ≡ b.scopes.entries = h.2 ∙ sym k.2 in
    let function_maps = function_maps_same a.scopes b.scopes lists h.3 k.3 in
    λ i. Ok (record { map = maps i; scopes = record { entries = lists i; function_maps = function_maps i } })
EntriesDecode-same r entries (Ok a) (Err e) h (inl k) = absurd (k.0 h.0)
EntriesDecode-same r entries (Ok a) (Err e) h (inr k) = let same = RecordDecodes-same r (Ok a.map) (Err e) h.1 k.1 in cc
EntriesDecode-same r entries (Err e) (Ok b) (inl h) k = absurd (h.0 k.0)
EntriesDecode-same r entries (Err e) (Ok b) (inr h) k = let same = RecordDecodes-same r (Err e) (Ok b.map) h.1 k.1 in cc
EntriesDecode-same r entries (Err e) (Err f) (inl h) (inl k) = ap Err (h.1 ∙ sym k.1)
EntriesDecode-same r entries (Err e) (Err f) (inl h) (inr k) = absurd (h.0 k.0)
EntriesDecode-same r entries (Err e) (Err f) (inr h) (inl k) = absurd (k.0 h.0)
EntriesDecode-same r entries (Err e) (Err f) (inr h) (inr k) = let same =
    RecordDecodes-same r (Err e) (Err f) h.1 k.1 in cc

with_same : (r : Fields) (scopes : Option (List ScopeEntry)) (a b : Result HermesValue Error) → DecodesWith r scopes a
    → DecodesWith r scopes b → a ≡ b
with_same r None a b h k = h ∙ sym k
with_same r (Some entries) a b h k = EntriesDecode-same r entries a b h k

pub HermesDecodes-same : (r : Fields) (a b : Result HermesValue Error) → HermesDecodes r a → HermesDecodes r b → a ≡ b
HermesDecodes-same r a b h k = with_same r r.x_facebook_sources a b h k

pub only_once : (t : Tree) (a b : Result HermesValue Error) → RecordDecodesAsHermes t a
    → RecordDecodesAsHermes t b → a ≡ b
only_once (plain r) a b h k = HermesDecodes-same r a b h k
only_once (indexed r sections) a b h k = h ∙ sym k

-- Records that differ only in scopes decode to the same regular map.

limits_alike : (r : Fields) (scopes : Option (List ScopeEntry)) → HasFewItems (record r { x_facebook_sources = scopes })
    → HasFewItems r
limits_alike r scopes h = record { sources = h.sources; names = h.names; contents = h.contents }

pub record_alike : (r : Fields) (scopes : Option (List ScopeEntry)) (answer : Result MapValue Error)
    → RecordDecodes (record r { x_facebook_sources = scopes }) answer → RecordDecodes r answer
record_alike r scopes (Ok m) h = (limits_alike r scopes h.0, h.1, h.2)
record_alike r scopes (Err e) (inl h) =
    inl ((λ fits. h.0 (limits_alike (record r { x_facebook_sources = scopes }) r.x_facebook_sources fits)), h.1)
record_alike r scopes (Err e) (inr h) = inr (limits_alike r scopes h.0, h.1)

entries_alike : (r : Fields) (scopes : Option (List ScopeEntry)) (entries : List ScopeEntry)
    (answer : Result HermesValue Error)
    → EntriesDecode (record r { x_facebook_sources = scopes }) entries answer → EntriesDecode r entries answer
entries_alike r scopes entries (Ok h) k = (k.0, record_alike r scopes (Ok h.map) k.1, k.2, k.3)
entries_alike r scopes entries (Err e) (inl k) = inl k
entries_alike r scopes entries (Err e) (inr k) = inr (k.0, record_alike r scopes (Err e) k.1)

-- A record whose scopes were moved out.

abbrev Lists : Type 0
Lists = Vec (Option (Vec FacebookScopeMapping Global)) Global

module _ (r : RawSourceMap) (left : Option Lists) (entries : Lists)
    (is : (out-RawSourceMap r).x_facebook_sources ≡ Some entries) where
  decoded : (answer : Result HermesValue Error)
      → EntriesDecode (flat (tree (roll-RawSourceMap (record (out-RawSourceMap r) { x_facebook_sources = left }))))
      (entries_in entries) answer
      → HermesDecodes (flat (tree r)) answer
  decoded answer h =
      let fields : Fields = fields_view (out-RawSourceMap r) in
      let gone = option_map entries_in left in
      let moved : EntriesDecode (record fields { x_facebook_sources = gone }) (entries_in entries) answer =
      subst (λ f. EntriesDecode f (entries_in entries) answer)
      (flat-roll (record (out-RawSourceMap r) { x_facebook_sources = left })) h in
      let here : DecodesWith fields (Some (entries_in entries)) answer =
      entries_alike fields gone (entries_in entries) answer moved in
      subst (λ f. HermesDecodes f answer) (sym (flat-tree r))
      (subst (λ scopes. DecodesWith fields (option_map entries_in scopes) answer) (sym is) here)

  pub answered : (result : Result SourceMapHermes Error)
      → IsAnswer hermes_value (EntriesDecode (flat (tree
      (roll-RawSourceMap (record (out-RawSourceMap r) { x_facebook_sources = left })))) (entries_in entries)) result
      → IsAnswer hermes_value (HermesDecodes (flat (tree r))) result
  answered (Ok h) k = decoded (Ok (hermes_value h)) k
  answered (Err e) k = UnlessMemory-weaker e (decoded (Err e)) k
