-- The map built from the tokens of a module, and from the ids of their sources and names, is `module_map`.
use Rattle.std.proofs.Common.{◌≡◌, ◌∙◌, refl, ap, ℕ, List, [], length, map, Some, None, string_bytes}
use Rattle.sourcemap_tokens.specs.Items.{item_at}
use Rattle.sourcemap_tokens.specs.declared.tokens.RawToken.{RawToken}
use Rattle.sourcemap_map_regular.specs.Lists.{AreListsOf}
use Rattle.sourcemap_map_regular.specs.Map.{MapValue}
use Rattle.sourcemap_map_regular.specs.declared.lists.MapLists.{MapLists}
use Rattle.sourcemap_bundle_split.specs.ModuleMap.{module_map, moved_by, names_in, sources_in, texts_at, tokens_in}
use Rattle.sourcemap_bundle_split.specs.ModuleMap.{used_ids}

module _ (flat : MapValue) (lists : MapLists) (name : List ℕ) (line : ℕ) (end : ℕ × ℕ) (own tokens : List RawToken)
    (sources names : List ℕ)
    (are : AreListsOf flat lists) (own_is : own ≡ tokens_in line end lists.tokens.now)
    (sources_are : sources ≡ used_ids (length flat.sources) (map (λ (t : RawToken). t.src_id) own))
    (names_are : names ≡ used_ids (length flat.names) (map (λ (t : RawToken). t.name_id) own))
    (tokens_are : tokens ≡ map (moved_by line sources names) own) where
  same_own : own ≡ tokens_in line end flat.tokens
  same_own = own_is ∙ ap (tokens_in line end) are.tokens

  same_sources : sources ≡ sources_in flat line end
  same_sources = sources_are ∙ ap (λ ts. used_ids (length flat.sources) (map (λ (t : RawToken). t.src_id) ts)) same_own

  same_names : names ≡ names_in flat line end
  same_names = names_are ∙ ap (λ ts. used_ids (length flat.names) (map (λ (t : RawToken). t.name_id) ts)) same_own

  abbrev map_with : List RawToken → List ℕ → List ℕ → MapValue
  map_with tokens sources names = record {
    file = Some name;
    root = None;
    tokens = tokens;
    names = texts_at (map string_bytes lists.names.now) names;
    sources = texts_at (map string_bytes lists.sources.now) sources;
    contents = map (item_at lists.contents.now) sources;
    ignored = [];
    debug_id = None;
  }

  pub map_made : map_with tokens sources names ≡ module_map flat name line end
  map_made =
      ap (λ ts. map_with ts sources names) tokens_are
      ∙ ap (λ ts. map_with (map (moved_by line sources names) ts) sources names) same_own
      ∙ ap (λ ids. map_with (map (moved_by line ids names) (tokens_in line end flat.tokens)) ids names) same_sources
      ∙ ap (λ ids. map_with (map (moved_by line (sources_in flat line end) ids) (tokens_in line end flat.tokens))
      (sources_in flat line end) ids) same_names
      ∙ (rw (are.names, are.sources, are.contents) refl)
