-- The map of a module is well-formed if the flat map is.
use Rattle.std.proofs.Common.{◌≡◌, ◌∙◌, refl, sym, ap, subst, ℕ, suc, ◌<◌, ◌≤◌, ◌&&◌, List, [], ◌∷◌, length, map, filter}
use Rattle.std.proofs.Common.{Bool, true, false, Option, Some, None, is_some, option_map, unwrap_or, slice_get, Result}
use Rattle.std.proofs.Common.{Ok, Err, IfOk, arith, inl, inr}
use Rattle.std.specs.List.{AllByRecursion}
use Rattle.std.specs.Str.{is_utf8}
use Rattle.std.proofs.lemmas.Bool.{cases_lt}
use Rattle.std.proofs.lemmas.List.{length-map}
use Rattle.std.proofs.lemmas.Option.{slice_get-map, slice_get_within}
use Rattle.sourcemap_errors.specs.declared.errors.Error.{Error}
use Rattle.sourcemap_tokens.specs.Tokens.{AllWithin, IsWithin, destination, no_id}
use Rattle.sourcemap_tokens.specs.declared.tokens.RawToken.{RawToken}
use Rattle.sourcemap_map_regular.specs.Map.{IsWellFormed, MapValue, meaning, resolved_sources}
use Rattle.sourcemap_index_model.specs.Flat.{flat as flat_of}
use Rattle.sourcemap_index_model.specs.MapTree.{IndexValue, MapTree, index_tree}
use Rattle.sourcemap_index_model.specs.WellFormed.{IsWellFormed as IsWellFormedTree}
use Rattle.sourcemap_bundles.specs.Modules.{ModuleValue}
use Rattle.sourcemap_bundle_split.specs.ModuleMap.{end_of, is_in, module_map, moved_by, names_in, number_of, sources_in}
use Rattle.sourcemap_bundle_split.specs.ModuleMap.{texts_at, tokens_in, used_ids}
use Rattle.sourcemap_bundle_split.specs.Split.{HasFewTexts, HaveWellFormedMaps, SplitValue, Splits, due_of, dues_in}
use Rattle.sourcemap_bundle_split.specs.Split.{file_name, parts_at, with_offsets}
use Rattle.sourcemap_bundle_split.proofs.NumberLemmas.{below-fold, few_used, met-fold, nothing_below, number_of-get}
use Rattle.sourcemap_bundle_split.proofs.TableLemmas.{number_past}

all-map_at : {X Y : Type 0} (P : X → Type 0) (Q : Y → Type 0) (f : X → Y) (xs : List X)
    → ((k : ℕ) (x : X) → slice_get xs k ≡ Some x → P x → Q (f x)) → AllByRecursion P xs → AllByRecursion Q (map f xs)
all-map_at P Q f [] step all = tt
all-map_at P Q f (x ∷ xs) step all =
    (step 0 x refl all.0, all-map_at P Q f xs (λ k y at. step (suc k) y at) all.1)

all-filter : {X : Type 0} (P : X → Type 0) (test : X → Bool) (xs : List X) → AllByRecursion P xs
    → AllByRecursion P (filter test xs)
all-filter P test [] all = tt
all-filter P test (x ∷ xs) all = by_cases (test x) refl (all-filter P test xs all.1)
  where
    by_cases : (b : Bool) → test x ≡ b → AllByRecursion P (filter test xs) → AllByRecursion P (filter test (x ∷ xs))
    by_cases true b rest = rw b (all.0, rest)
    by_cases false b rest = rw b rest

-- if the new id of a used id is past the used ids, the old id is `count` or more
source_past : (count : ℕ) (ids : List ℕ) (k id : ℕ) → slice_get ids k ≡ Some id
    → length (used_ids count ids) ≤ unwrap_or (number_of (used_ids count ids) id) no_id
    → (number_of (used_ids count ids) id ≡ None) × (count ≤ id)
source_past count ids k id at past = by_number (number_of (used_ids count ids) id) refl
  where
    by_number : (o : Option ℕ) → number_of (used_ids count ids) id ≡ o
        → (number_of (used_ids count ids) id ≡ None) × (count ≤ id)
    by_number (Some n) is =
        let there : slice_get (used_ids count ids) n ≡ Some id = number_of-get (used_ids count ids) id n is in
        let inside : n < length (used_ids count ids) = slice_get_within (used_ids count ids) n id there in
        let beyond : length (used_ids count ids) ≤ n = (rw is at past) in
        absurd (omega arith)
    by_number None is = elim (cases_lt id count) [
      | inl inside ↦
          let met = met-fold count ids [] k id at inside in
          absurd (let no : None ≡ Some met.0 = sym is ∙ met.1 in cc)
      | inr beyond ↦ (is, beyond)
    ]

-- an id that is `count` or more gets a new id past the used ids
name_past : (count : ℕ) (ids : List ℕ) (id : ℕ) → count ≤ 4294967295 → count ≤ id
    → length (used_ids count ids) ≤ unwrap_or (number_of (used_ids count ids) id) no_id
name_past count ids id few past =
    let none : number_of (used_ids count ids) id ≡ None =
    number_past count (used_ids count ids) id (below-fold count ids [] (nothing_below count)) past in
    let fits : length (used_ids count ids) ≤ no_id = omega (arith, few_used count ids) in
    rw none fits

module _ (flat : MapValue) (line : ℕ) (end : ℕ × ℕ) (few : length flat.names ≤ 4294967295) where
  abbrev own : List RawToken
  own = tokens_in line end flat.tokens

  moved_within : (k : ℕ) (t : RawToken) → slice_get own k ≡ Some t
      → IsWithin (length flat.sources) (length flat.names) t
      → IsWithin (length (sources_in flat line end)) (length (names_in flat line end))
      (moved_by line (sources_in flat line end) (names_in flat line end) t)
  moved_within k t at within past =
      let id_at : slice_get (map (λ (t : RawToken). t.src_id) own) k ≡ Some t.src_id =
      slice_get-map (λ (t : RawToken). t.src_id) own k ∙ ap (option_map (λ (t : RawToken). t.src_id)) at in
      let none = source_past (length flat.sources) (map (λ (t : RawToken). t.src_id) own) k t.src_id id_at past in
      let bare = within none.1 in (
        ap (λ n. unwrap_or n no_id) none.0,
        bare.1,
        bare.2,
        name_past (length flat.names) (map (λ (t : RawToken). t.name_id) own) t.name_id few bare.3,
      )

  pub module_well : (name : List ℕ) → IsWellFormed flat → IsWellFormed (module_map flat name line end)
  module_well name well =
      let sources = sources_in flat line end in
      let names = names_in flat line end in
      let tokens = map (moved_by line sources names) own in
      subst (λ n. AllWithin n (length (texts_at flat.names names)) tokens)
      (sym (length-map sources (λ id. unwrap_or (slice_get (resolved_sources flat) id) [])))
      (subst (λ n. AllWithin (length sources) n tokens)
      (sym (length-map names (λ id. unwrap_or (slice_get flat.names id) [])))
      (all-map_at (IsWithin (length flat.sources) (length flat.names)) (IsWithin (length sources) (length names))
      (moved_by line sources names) own moved_within
      (all-filter (IsWithin (length flat.sources) (length flat.names)) (λ t. is_in line end (destination t)) flat.tokens
      well)))

module _ (flat : MapValue) (few : length flat.names ≤ 4294967295) (well : IsWellFormed flat) where
  due_well : (found : Result (ModuleValue × ℕ) Error) → IfOk (due_of flat found) (λ parts. IsWellFormed parts.map)
  due_well (Ok found) = by_cases (is_some (meaning flat (found.1, 0)) && is_utf8 found.0.text) refl
    where
      by_cases : (b : Bool) → (is_some (meaning flat (found.1, 0)) && is_utf8 found.0.text) ≡ b
          → IfOk (parts_at flat found.1 found.0) (λ parts. IsWellFormed parts.map)
      by_cases true b = rw b
          (module_well flat found.1 (end_of found.1 found.0.text) few (file_name found.0.id) well)
      by_cases false b = rw b tt
  due_well (Err e) = tt

  dues_well : (all : List (Result (ModuleValue × ℕ) Error)) → HaveWellFormedMaps (map (due_of flat) all)
  dues_well [] = tt
  dues_well (found ∷ all) = (due_well found, dues_well all)

abbrev flat_in : MapValue → Result SplitValue Error → MapValue
flat_in other (Ok split) = split.flat
flat_in other (Err e) = other

flat_in-with_offsets : (flat : MapValue) (modules : List (Result ModuleValue Error)) (offsets : Option (List (Option ℕ)))
    → flat_in flat (with_offsets flat modules offsets) ≡ flat
flat_in-with_offsets flat modules None = refl
flat_in-with_offsets flat modules (Some offsets) = refl

pub split_well : ((t : MapTree) (m : MapValue) → IsWellFormedTree t → flat_of t ≡ Ok m → IsWellFormed m)
    → (i : IndexValue) (modules : List (Result ModuleValue Error)) (split : SplitValue)
    → Splits i modules (Ok split) → HasFewTexts split.flat → IsWellFormedTree (index_tree i)
    → HaveWellFormedMaps (dues_in split)
split_well flat_well i modules split (inl (flat, flat_is, is)) few well =
    let same : split.flat ≡ flat =
    ap (flat_in flat) is ∙ flat_in-with_offsets flat modules i.parts.x_facebook_offsets in
    dues_well split.flat few.names (subst IsWellFormed (sym same) (flat_well (index_tree i) flat well flat_is)) _
split_well flat_well i modules split (inr nothing) few well = absurd nothing
