-- Scopes of sources. Entries determine the function maps. Entries and function maps selected by the same ids still
-- belong together. The equality tests decide equality.
use Rattle.std.proofs.Common.{◌≡◌, ◌≤◌, ℕ, zero, suc, List, [], ◌∷◌, length, map, nat_eq, slice_set, Option, Some, None}
use Rattle.std.proofs.Common.{Vec, sym, ap, ap₂, ◌∙◌, subst, refl}
use Rattle.std.specs.Bool.{Decides}
use Rattle.std.specs.Cmp.Lexicographic.{pointwise_decides}
use Rattle.std.specs.List.{AllZip, IsDistinct}
use Rattle.std.specs.declared.alloc.Global.{Global}
use Rattle.sourcemap_tokens.proofs.DecidesLemmas.{decides_both}
use Rattle.sourcemap_map_parts.proofs.TextListsLemmas.{options_decide, texts_decide, text_lists_decide}
use Rattle.sourcemap_records.specs.Jsontypes.{Scopes}
use Rattle.sourcemap_records.specs.declared.jsontypes.FacebookScopeMapping.{FacebookScopeMapping}
use Rattle.sourcemap_tokens.specs.Items.{item_at}
use Rattle.sourcemap_hermes_scopes.specs.Picks.{moved_items}
use Rattle.sourcemap_hermes_scopes.specs.ScopeLists.{ScopeEntry, EntryStandsFor, ScopesStandFor, entry_in, list_in}
use Rattle.sourcemap_hermes_scopes.specs.ScopeLists.{first_scopes, same_scopes}
use Rattle.sourcemap_hermes_scopes.specs.SourceScopes.{SourceScopesValue, AreFewScopes, AreOfEntries, picked_scopes}
use Rattle.sourcemap_hermes_scopes.specs.SourceScopes.{same_source_scopes}
use Rattle.sourcemap_hermes_scopes.specs.declared.offsets.HermesScopeOffset.{HermesScopeOffset}
use Rattle.sourcemap_hermes_scopes.proofs.FunctionMapLemmas.{offsets_decide}
use Rattle.sourcemap_hermes_scopes.proofs.PicksLemmas.{moved-distinct, moved-length, moved-map}
use Rattle.sourcemap_hermes_scopes.proofs.OffsetsAnswers.{StandsFor-same}

-- Equal lists of entries encode equal lists of function maps.

ScopesStandFor-same : (scopes : Option Scopes) (a b : Option (List HermesScopeOffset)) → ScopesStandFor scopes a
    → ScopesStandFor scopes b → a ≡ b
ScopesStandFor-same None a b h k = h ∙ sym k
ScopesStandFor-same (Some scopes) a b h k = StandsFor-same scopes.mappings a b h k

maps_same : (entries : List ScopeEntry) (a b : List (Option (List HermesScopeOffset))) → AllZip EntryStandsFor entries a
    → AllZip EntryStandsFor entries b → a ≡ b
maps_same [] [] [] h k = refl
maps_same [] [] (y ∷ b) h k = absurd k
maps_same [] (x ∷ a) b h k = absurd h
maps_same (entry ∷ entries) [] b h k = absurd h
maps_same (entry ∷ entries) (x ∷ a) [] h k = absurd k
maps_same (entry ∷ entries) (x ∷ a) (y ∷ b) h k =
    ap₂ ◌∷◌ (ScopesStandFor-same (first_scopes entry) x y h.0 k.0) (maps_same entries a b h.1 k.1)

pub function_maps_same : (a b : SourceScopesValue) → a.entries ≡ b.entries → AreOfEntries a → AreOfEntries b
    → a.function_maps ≡ b.function_maps
function_maps_same a b same h k = maps_same b.entries a.function_maps b.function_maps (subst
    (λ entries. AllZip EntryStandsFor entries a.function_maps) same h) k

-- Entries and function maps together.

map_at : (entries : List ScopeEntry) (maps : List (Option (List HermesScopeOffset))) (id : ℕ)
    → AllZip EntryStandsFor entries maps → EntryStandsFor (item_at entries id) (item_at maps id)
map_at [] [] id all = refl
map_at [] (x ∷ maps) id all = absurd all
map_at (entry ∷ entries) [] id all = absurd all
map_at (entry ∷ entries) (x ∷ maps) zero all = all.0
map_at (entry ∷ entries) (x ∷ maps) (suc id) all = map_at entries maps id all.1

-- entries and function maps that are selected by the same ids still belong together
pub picked_of_entries : (scopes : SourceScopesValue) (ids : List ℕ) → AreOfEntries scopes
    → AreOfEntries (picked_scopes scopes ids)
picked_of_entries scopes [] all = tt
picked_of_entries scopes (id ∷ ids) all =
    (map_at scopes.entries scopes.function_maps id all, picked_of_entries scopes ids all)

left_over : (entries : List ScopeEntry) (maps : List (Option (List HermesScopeOffset))) (id : ℕ)
    → AllZip EntryStandsFor entries maps
    → AllZip EntryStandsFor (slice_set entries id None) (slice_set maps id None)
left_over [] [] id all = tt
left_over [] (x ∷ maps) id all = absurd all
left_over (entry ∷ entries) [] id all = absurd all
left_over (entry ∷ entries) (x ∷ maps) zero all = (refl, all.1)
left_over (entry ∷ entries) (x ∷ maps) (suc id) all = (all.0, left_over entries maps id all.1)

all_moved : (entries : List ScopeEntry) (maps : List (Option (List HermesScopeOffset))) (ids : List ℕ)
    → AllZip EntryStandsFor entries maps
    → AllZip EntryStandsFor (moved_items entries ids) (moved_items maps ids)
all_moved entries maps [] all = tt
all_moved entries maps (id ∷ ids) all = (
  map_at entries maps id all,
  all_moved (slice_set entries id None) (slice_set maps id None) ids (left_over entries maps id all),
)

-- what holds for `kept` and `kept_maps`, the entries and the function maps moved out by the same `ids`
module _ (entries kept : List (Option (Vec FacebookScopeMapping Global)))
    (maps kept_maps : List (Option (List HermesScopeOffset))) (ids : List ℕ)
    (is_kept : kept ≡ moved_items entries ids) (are_kept : kept_maps ≡ moved_items maps ids) where
  seen : map entry_in kept ≡ moved_items (map entry_in entries) ids
  seen = ap (map entry_in) is_kept ∙ sym (moved-map list_in entries ids)

  pub stored_moved : AllZip EntryStandsFor (map entry_in entries) maps
      → AllZip EntryStandsFor (map entry_in kept) kept_maps
  stored_moved all =
      subst (λ es. AllZip EntryStandsFor es kept_maps) (sym seen)
      (subst (λ ms. AllZip EntryStandsFor (moved_items (map entry_in entries) ids) ms) (sym are_kept)
      (all_moved (map entry_in entries) maps ids all))

  pub stored_few : length ids ≤ 4294967295 → AreFewScopes (map entry_in kept)
  stored_few few =
      subst (λ (n : ℕ). n ≤ 4294967295) (sym (ap length seen ∙ moved-length (map entry_in entries) ids)) few

  pub stored_picked : (scopes : SourceScopesValue) → record {
    entries = map entry_in entries;
    function_maps = maps;
  } ≡ scopes → IsDistinct nat_eq ids
      → record { entries = map entry_in kept; function_maps = kept_maps } ≡ picked_scopes scopes ids
  stored_picked scopes is distinct =
      let made : List ScopeEntry → List (Option (List HermesScopeOffset)) → SourceScopesValue =
      λ es ms. record { entries = es; function_maps = ms } in
      ap₂ made (seen ∙ moved-distinct (map entry_in entries) ids distinct) (are_kept ∙ moved-distinct maps ids distinct)
      ∙ ap (λ s. picked_scopes s ids) is

-- Equality.

scopes_decide : (a b : Scopes) → Decides (same_scopes a b) (a ≡ b)
scopes_decide a b =
    let all = decides_both (text_lists_decide a.names b.names) (texts_decide a.mappings b.mappings) in (
      λ h. let p = all.0 h in λ i. record { names = p.0 i; mappings = p.1 i },
      λ h. all.1 (ap (λ (s : Scopes). s.names) h, ap (λ (s : Scopes). s.mappings) h),
    )

pub source_scopes_decide : (a b : SourceScopesValue) → Decides (same_source_scopes a b) (a ≡ b)
source_scopes_decide a b =
    let all =
    decides_both (pointwise_decides (options_decide (pointwise_decides scopes_decide)) a.entries b.entries)
    (pointwise_decides (options_decide offsets_decide) a.function_maps b.function_maps) in (
      λ h. let p = all.0 h in λ i. record { entries = p.0 i; function_maps = p.1 i },
      λ h. all.1 (ap (λ (s : SourceScopesValue). s.entries) h, ap (λ (s : SourceScopesValue). s.function_maps) h),
    )
