-- A well-formed Hermes map stays well-formed when it is rewritten. Its tokens keep their scopes if no two
-- sources resolve to the same text.
use Rattle.std.proofs.Common.{◌≡◌, refl, sym, ap, subst, ◌∙◌, ℕ, zero, suc, ◌≤◌, List, [], ◌∷◌, length, map, Some, None}
use Rattle.std.proofs.Common.{Option, Ok, inl, inr, ◌⊎◌, arith, slice_get, option_map, option_and_then, IfSome}
use Rattle.std.specs.List.{AllByRecursion, AllZip}
use Rattle.std.proofs.lemmas.List.{length-map}
use Rattle.std.proofs.lemmas.Option.{slice_get-map, slice_get_past}
use Rattle.sourcemap_interning.specs.Interner.{id_of}
use Rattle.sourcemap_tokens.specs.declared.tokens.RawToken.{RawToken}
use Rattle.sourcemap_tokens.specs.Tokens.{destination, position_cmp, closest_token, IsWithin}
use Rattle.sourcemap_tokens.proofs.AllLemmas.{All-at, All-both}
use Rattle.sourcemap_interning.proofs.InternerLemmas.{slice_get-id_of}
use Rattle.sourcemap_tokens.proofs.SearchLemmas.{closest-change, index-closest}
use Rattle.sourcemap_map_parts.specs.Sources.{resolved}
use Rattle.sourcemap_map_rewrite.specs.FirstIds.{first_of}
use Rattle.sourcemap_map_rewrite.specs.Numbering.{texts_in_use}
use Rattle.sourcemap_map_rewrite.specs.declared.options.RewriteOptions.{RewriteOptions}
use Rattle.sourcemap_map_rewrite.proofs.FirstIdsLemmas.{first_names}
use Rattle.sourcemap_map_rewrite.proofs.NumberingLemmas.{IsListedIfAny}
use Rattle.sourcemap_map_regular.specs.Map.{MapValue, IsWellFormed as IsWellFormedRegular, resolved_sources, source_of}
use Rattle.sourcemap_map_regular.specs.Map.{lookup, column_after, distance}
use Rattle.sourcemap_map_regular.specs.Rewrite.{Removal, removal_of, used_sources, number_in, first_ids, renumbered}
use Rattle.sourcemap_map_regular.specs.Rewrite.{rewritten as map_rewritten}
use Rattle.sourcemap_map_regular.specs.Token.{TokenValue, token_at}
use Rattle.sourcemap_map_regular.proofs.RewriteLemmas.{sources_used, few_used_sources, but_contents}
use Rattle.sourcemap_map_regular.proofs.RewriteMeaning.{IsKept, all_tokens_kept}
use Rattle.sourcemap_tokens.specs.Items.{item_at}
use Rattle.sourcemap_hermes_scopes.specs.Picks.{items_at}
use Rattle.sourcemap_hermes_scopes.specs.ScopeLists.{EntryStandsFor, names_of}
use Rattle.sourcemap_hermes_scopes.specs.SourceScopes.{IsInOrderAt, scope_at}
use Rattle.sourcemap_hermes_scopes.specs.FunctionMap.{AreOffsetsInOrder, closest_offset}
use Rattle.sourcemap_hermes_scopes.proofs.SourceScopesLemmas.{picked_of_entries}
use Rattle.sourcemap_hermes.specs.Map.{HermesValue, IsWellFormed, token_scope, function_name}
use Rattle.sourcemap_hermes.specs.Rewrite.{rewritten, Rewrites, HasDistinctSources, scope_at_distance, IsInOrderOf}
use Rattle.sourcemap_hermes.specs.Rewrite.{KeepsScopes}

-- Items selected by id.

select-at : {X : Type 0} (items : List (Option X)) (ids : List ℕ) (index id : ℕ) → slice_get ids index ≡ Some id
    → item_at (items_at items ids) index ≡ item_at items id
select-at items ids index id at =
    ap (option_and_then (λ item. item)) (slice_get-map (item_at items) ids index ∙ ap (option_map (item_at items)) at)

select-none : {X : Type 0} (items : List (Option X)) (ids : List ℕ) (index : ℕ) → slice_get ids index ≡ None
    → item_at (items_at items ids) index ≡ None
select-none items ids index at =
    ap (option_and_then (λ item. item)) (slice_get-map (item_at items) ids index ∙ ap (option_map (item_at items)) at)

past : {X : Type 0} (items : List (Option X)) (id : ℕ) → length items ≤ id → item_at items id ≡ None
past items id few = ap (option_and_then (λ item. item)) (slice_get_past items id few)

as_many : {X Y : Type 0} (R : X → Y → Type 0) (xs : List X) (ys : List Y) → AllZip R xs ys → length xs ≡ length ys
as_many R [] [] all = refl
as_many R [] (y ∷ ys) all = absurd all
as_many R (x ∷ xs) [] all = absurd all
as_many R (x ∷ xs) (y ∷ ys) all = ap suc (as_many R xs ys all.1)

at_index : {X : Type 0} (P : X → Type 0) (xs : List X) (i : ℕ) → AllByRecursion P xs → IfSome (slice_get xs i) P
at_index P [] i all = tt
at_index P (x ∷ xs) zero all = all.0
at_index P (x ∷ xs) (suc i) all = at_index P xs i all.1

unnamed : {X Y : Type 0} (f : X → Y) (xs : List X) (i : ℕ) → option_map f (slice_get xs i) ≡ None → length xs ≤ i
unnamed f [] i h = omega arith
unnamed f (x ∷ xs) zero h = cc
unnamed f (x ∷ xs) (suc i) h = let rest = unnamed f xs i h in omega arith

module _ (removal : Removal) (h : HermesValue) (few : length h.map.sources ≤ 4294967295) where
  pub few_ids : length (first_ids h.map) ≤ 4294967295
  few_ids =
      let many : length (first_ids h.map) ≡ length (used_sources h.map) =
      length-map (texts_in_use (resolved_sources h.map) (map (λ t. t.src_id) h.map.tokens))
      (first_of (resolved_sources h.map) (map (λ t. t.src_id) h.map.tokens))
      ∙ ap length (sources_used h.map removal) in
      let some = few_used_sources h.map removal few in
      omega (arith, many, some)

  pub well_rewritten : IsWellFormed h → IsWellFormedRegular (map_rewritten removal h.map)
      → IsWellFormed (rewritten removal h)
  well_rewritten well map_well = record {
    map = map_well;
    few = let many = length-map (first_ids h.map) (item_at h.scopes.entries) in let some = few_ids in
        omega (arith, many, some);
    of_entries = picked_of_entries h.scopes (first_ids h.map) well.of_entries;
  }

  module _ (well : IsWellFormed h) (distinct : HasDistinctSources h) where
    -- a property of each token of the map: its source and its name, if any, are used (`IsKept`). If the token has no
    -- source, its source id is 4294967295, and its name id names nothing (`IsWithin`)
    abbrev IsOwn : RawToken → Type 0
    IsOwn t = IsKept h.map t × IsWithin (length h.map.sources) (length h.map.names) t

    all_own : AllByRecursion IsOwn h.map.tokens
    all_own = All-both (IsKept h.map) (IsWithin (length h.map.sources)
        (length h.map.names)) h.map.tokens (all_tokens_kept h.map) well.map

    -- one of two cases holds. In the first case, the source with the new id `index` had the old id `id`. In the second
    -- case, no source has the new id `index`, and there are no scopes for the old id `id`
    abbrev StandsFor : ℕ → ℕ → Type 0
    StandsFor index id =
        (slice_get (first_ids h.map) index ≡ Some id)
        ⊎ ((slice_get (first_ids h.map) index ≡ None) × (item_at h.scopes.entries id ≡ None)
        × (item_at h.scopes.function_maps id ≡ None))

    stands-for : (t : RawToken) → IsOwn t → StandsFor (renumbered removal h.map t).src_id t.src_id
    stands-for t (kept, within) = by_case (source_of h.map t.src_id) refl kept.0
      where
        many_maps : length h.scopes.entries ≡ length h.scopes.function_maps
        many_maps = as_many EntryStandsFor h.scopes.entries h.scopes.function_maps well.of_entries

        by_case : (o : Option (List ℕ)) → source_of h.map t.src_id ≡ o
            → IsListedIfAny (used_sources h.map) (source_of h.map t.src_id)
            → StandsFor (number_in (used_sources h.map) (source_of h.map t.src_id)) t.src_id
        by_case None e has =
            let out : length h.map.sources ≤ t.src_id = unnamed (resolved h.map.root) h.map.sources t.src_id
            (sym (slice_get-map (resolved h.map.root) h.map.sources t.src_id) ∙ e) in
            let none : t.src_id ≡ 4294967295 = (within out).0 in
            inr (
              ap (λ o. slice_get (first_ids h.map) (number_in (used_sources h.map) o)) e
                  ∙ slice_get_past (first_ids h.map) 4294967295 few_ids,
              past h.scopes.entries t.src_id (omega (arith, none, well.few)),
              past h.scopes.function_maps t.src_id (omega (arith, none, well.few, many_maps)),
            )
        by_case (Some text) e has =
            let numbered : (n : ℕ) × (id_of text (used_sources h.map) ≡ Some n) =
            subst (IsListedIfAny (used_sources h.map)) e has in
            let number : number_in (used_sources h.map) (source_of h.map t.src_id) ≡ numbered.0 =
            ap (number_in (used_sources h.map)) e ∙ rw numbered.1 refl in
            let ids : List ℕ = map (λ t. t.src_id) h.map.tokens in
            let at : slice_get (texts_in_use (resolved_sources h.map) ids) numbered.0 ≡ Some text =
            ap (λ kept. slice_get kept numbered.0) (sources_used h.map removal)
            ∙ slice_get-id_of text (used_sources h.map) numbered.0 numbered.1 in
            let first : ℕ = first_of (resolved_sources h.map) ids text in
            let here : id_of text (resolved_sources h.map) ≡ Some first =
            distinct text first (first_names (resolved_sources h.map) ids numbered.0 text at) in
            let own : id_of text (resolved_sources h.map) ≡ Some t.src_id = distinct text t.src_id e in
            inl (ap (slice_get (first_ids h.map)) number
            ∙ slice_get-map (first_of (resolved_sources h.map) ids)
            (texts_in_use (resolved_sources h.map) ids) numbered.0
            ∙ ap (option_map (first_of (resolved_sources h.map) ids)) at
            ∙ sym here ∙ own)

    same_item : {X : Type 0} (items : List (Option X)) (index id : ℕ) → (slice_get (first_ids h.map) index ≡ Some id)
        ⊎ ((slice_get (first_ids h.map) index ≡ None) × (item_at items id ≡ None))
        → item_at (items_at items (first_ids h.map)) index ≡ item_at items id
    same_item items index id (inl at) = select-at items (first_ids h.map) index id at
    same_item items index id (inr (at, none)) = select-none items (first_ids h.map) index at ∙ sym none

    same_scope : (t : RawToken) → IsOwn t → (p : ℕ × ℕ)
        → scope_at (rewritten removal h).scopes (renumbered removal h.map t).src_id p ≡ scope_at h.scopes t.src_id p
    same_scope t own p = scope_by (stands-for t own)
      where
        scope_by : StandsFor (renumbered removal h.map t).src_id t.src_id
            → scope_at (rewritten removal h).scopes (renumbered removal h.map t).src_id p ≡ scope_at h.scopes t.src_id p
        scope_by stands =
            let entry = same_item h.scopes.entries (renumbered removal h.map t).src_id t.src_id (elim stands [
              | inl at ↦ inl at
              | inr none ↦ inr (none.0, none.1)
            ]) in
            let functions = same_item h.scopes.function_maps (renumbered removal h.map t).src_id t.src_id (elim stands [
              | inl at ↦ inl at
              | inr none ↦ inr (none.0, none.2)
            ]) in
            λ i. option_and_then (λ index. slice_get (names_of (entry i)) index)
            (option_and_then (λ offsets. option_map (λ o. o.name_index) (closest_offset offsets p)) (functions i))

    still_in_order : (t : RawToken) → IsOwn t → IsInOrderAt h.scopes t.src_id
        → IsInOrderAt (rewritten removal h).scopes (renumbered removal h.map t).src_id
    still_in_order t own =
        let stands = stands-for t own in
        subst (λ functions. IfSome functions AreOffsetsInOrder)
        (sym (same_item h.scopes.function_maps (renumbered removal h.map t).src_id t.src_id (elim stands [
          | inl at ↦ inl at
          | inr none ↦ inr (none.0, none.2)
        ])))

    -- Tokens by index.

    -- the token at this index, as getters return it
    abbrev indexed : MapValue → ℕ → RawToken → TokenValue
    indexed m index raw = record { map_of = m; raw = raw; index = index; extra_columns = 0 }

    abbrev scope_of_raw : HermesValue → ℕ → ℕ → Option RawToken → Option (List ℕ)
    scope_of_raw g index extra_columns o = option_and_then (λ (t : TokenValue). token_scope g.scopes
        (record t { extra_columns = extra_columns })) (option_map (indexed g.map index) o)

    scopes_kept : (index extra_columns : ℕ)
        → scope_at_distance (rewritten removal h) index extra_columns ≡ scope_at_distance h index extra_columns
    scopes_kept index extra_columns =
        ap (scope_of_raw (rewritten removal h) index extra_columns)
        (slice_get-map (renumbered removal h.map) h.map.tokens index)
        ∙ by_case (slice_get h.map.tokens index) (at_index IsOwn h.map.tokens index all_own)
      where
        by_case : (o : Option RawToken) → IfSome o IsOwn
            → scope_of_raw (rewritten removal h) index extra_columns (option_map (renumbered removal h.map) o)
            ≡ scope_of_raw h index extra_columns o
        by_case None own = refl
        by_case (Some t) own = same_scope t own (t.src_line, column_after t.src_col extra_columns)

    stays_in_order : (index : ℕ) → IsInOrderOf h (token_at h.map index)
        → IsInOrderOf (rewritten removal h) (token_at (rewritten removal h).map index)
    stays_in_order index =
        subst (λ o. IsInOrderOf h (token_at h.map index)
        → IsInOrderOf (rewritten removal h) (option_map (indexed (rewritten removal h).map index) o))
        (sym (slice_get-map (renumbered removal h.map) h.map.tokens index))
        (by_case (slice_get h.map.tokens index) (at_index IsOwn h.map.tokens index all_own))
      where
        by_case : (o : Option RawToken) → IfSome o IsOwn
            → IsInOrderOf h (option_map (indexed h.map index) o)
            → IsInOrderOf (rewritten removal h)
            (option_map (indexed (rewritten removal h).map index) (option_map (renumbered removal h.map) o))
        by_case None own up = tt
        by_case (Some t) own up = still_in_order t own up

    -- Tokens by position.

    closest_own : (p : ℕ × ℕ) → IfSome (closest_token h.map.tokens p) (λ found. IsOwn found.1)
    closest_own p = by_case (closest_token h.map.tokens p) (index-closest destination position_cmp h.map.tokens p)
      where
        by_case : (o : Option (ℕ × RawToken)) → IfSome o (λ found. slice_get h.map.tokens found.0 ≡ Some found.1)
            → IfSome o (λ found. IsOwn found.1)
        by_case None at = tt
        by_case (Some found) at = All-at IsOwn h.map.tokens found.0 found.1 at all_own

    -- the index and the token that a lookup finds in the old map; the token gets its new ids (`renumbered`)
    abbrev renumbered_found : Option (ℕ × RawToken) → Option (ℕ × RawToken)
    renumbered_found found = option_map (λ (e : ℕ × RawToken). (e.0, renumbered removal h.map e.1)) found

    found_again : (p : ℕ × ℕ)
        → closest_token (rewritten removal h).map.tokens p ≡ renumbered_found (closest_token h.map.tokens p)
    found_again p =
        closest-change destination destination position_cmp (renumbered removal h.map) (λ t. refl) h.map.tokens p

    -- a token that was found, as lookups return it
    abbrev answered : MapValue → ℕ × ℕ → ℕ × RawToken → TokenValue
    answered m p found = record { map_of = m; raw = found.1; index = found.0; extra_columns = distance found.1 p }

    names_kept : (offset : ℕ) → function_name (rewritten removal h) offset ≡ function_name h offset
    names_kept offset =
        let p : ℕ × ℕ = (0, offset) in
        ap (λ found. option_and_then (token_scope (rewritten removal h).scopes)
        (option_map (answered (rewritten removal h).map p) found)) (found_again p)
        ∙ by_case p (closest_token h.map.tokens p) (closest_own p)
      where
        by_case : (p : ℕ × ℕ) (o : Option (ℕ × RawToken)) → IfSome o (λ found. IsOwn found.1)
            → option_and_then (token_scope (rewritten removal h).scopes)
            (option_map (answered (rewritten removal h).map p) (renumbered_found o))
            ≡ option_and_then (token_scope h.scopes) (option_map (answered h.map p) o)
        by_case p None own = refl
        by_case p (Some found) own =
            same_scope found.1 own (found.1.src_line, column_after found.1.src_col (distance found.1 p))

    stays_in_order_at : (p : ℕ × ℕ) → IsInOrderOf h (lookup h.map p)
        → IsInOrderOf (rewritten removal h) (lookup (rewritten removal h).map p)
    stays_in_order_at p =
        subst (λ found. IsInOrderOf h (lookup h.map p) → IsInOrderOf (rewritten removal h) (option_map
        (answered (rewritten removal h).map p) found)) (sym (found_again p))
        (by_case (closest_token h.map.tokens p) (closest_own p))
      where
        by_case : (o : Option (ℕ × RawToken)) → IfSome o (λ found. IsOwn found.1)
            → IsInOrderOf h (option_map (answered h.map p) o)
            → IsInOrderOf (rewritten removal h) (option_map (answered (rewritten removal h).map p) (renumbered_found o))
        by_case None own up = tt
        by_case (Some found) own up = still_in_order found.1 own up

    pub keeps-scopes : KeepsScopes h (rewritten removal h)
    keeps-scopes = record {
      scopes = scopes_kept;
      names = names_kept;
      in_order = stays_in_order;
      in_order_at = stays_in_order_at;
    }

-- With contents loaded.

-- scopes of tokens do not depend on contents
module _ (old new : HermesValue) (contents : List (Option (List ℕ))) where
  abbrev other : HermesValue
  other = record new { map = record new.map { contents = contents } }

  same_scope_after : (index extra_columns : ℕ)
      → scope_at_distance new index extra_columns ≡ scope_at_distance other index extra_columns
  same_scope_after index extra_columns = by_case (slice_get new.map.tokens index)
    where
      by_case : (o : Option RawToken)
          → option_and_then (λ (t : TokenValue). token_scope new.scopes (record t { extra_columns = extra_columns }))
          (option_map (λ raw. record { map_of = new.map; raw = raw; index = index; extra_columns = 0 }) o)
          ≡ option_and_then (λ (t : TokenValue). token_scope new.scopes (record t { extra_columns = extra_columns }))
          (option_map (λ raw. record { map_of = other.map; raw = raw; index = index; extra_columns = 0 }) o)
      by_case None = refl
      by_case (Some t) = refl

  same_name : (offset : ℕ) → function_name new offset ≡ function_name other offset
  same_name offset = by_case (closest_token new.map.tokens (0, offset))
    where
      by_case : (o : Option (ℕ × RawToken))
          → option_and_then (token_scope new.scopes) (option_map (λ found. record {
            map_of = new.map;
            raw = found.1;
            index = found.0;
            extra_columns = distance found.1 (0, offset);
          }) o)
          ≡ option_and_then (token_scope new.scopes) (option_map (λ found. record {
            map_of = other.map;
            raw = found.1;
            index = found.0;
            extra_columns = distance found.1 (0, offset);
          }) o)
      by_case None = refl
      by_case (Some found) = refl

  in_order_too : (index : ℕ) → IsInOrderOf other (token_at other.map index) → IsInOrderOf new (token_at new.map index)
  in_order_too index = by_case (slice_get new.map.tokens index)
    where
      by_case : (o : Option RawToken) → IsInOrderOf other (option_map
          (λ raw. record { map_of = other.map; raw = raw; index = index; extra_columns = 0 }) o)
          → IsInOrderOf new
          (option_map (λ raw. record { map_of = new.map; raw = raw; index = index; extra_columns = 0 }) o)
      by_case None is = tt
      by_case (Some t) is = is

  in_order_at_too : (p : ℕ × ℕ) → IsInOrderOf other (lookup other.map p) → IsInOrderOf new (lookup new.map p)
  in_order_at_too p = by_case (closest_token new.map.tokens p)
    where
      by_case : (o : Option (ℕ × RawToken))
          → IsInOrderOf other (option_map (λ found. record {
            map_of = other.map;
            raw = found.1;
            index = found.0;
            extra_columns = distance found.1 p;
          }) o)
          → IsInOrderOf new (option_map
          (λ found. record { map_of = new.map; raw = found.1; index = found.0; extra_columns = distance found.1 p }) o)
      by_case None is = tt
      by_case (Some found) is = is

  scopes_whatever : KeepsScopes old other → KeepsScopes old new
  scopes_whatever keeps = record {
    scopes = λ index extra_columns. same_scope_after index extra_columns ∙ keeps.scopes index extra_columns;
    names = λ offset. same_name offset ∙ keeps.names offset;
    in_order = λ index is. in_order_too index (keeps.in_order index is);
    in_order_at = λ p is. in_order_at_too p (keeps.in_order_at p is);
  }

module _ (options : RewriteOptions) (h new : HermesValue) (few : length h.map.sources ≤ 4294967295)
    (is : Rewrites options h (Ok new)) where
  others : record new { map = record new.map { contents = (map_rewritten (removal_of options) h.map).contents } }
      ≡ rewritten (removal_of options) h
  others = λ i. record { map = but_contents options h.map new.map is.0 i; scopes = is.1 i }

  pub answer_well_formed : IsWellFormed h → IsWellFormedRegular new.map → IsWellFormed new
  answer_well_formed well map_well =
      let due : IsWellFormed (rewritten (removal_of options) h) =
      well_rewritten (removal_of options) h few well
      (subst IsWellFormedRegular (but_contents options h.map new.map is.0) map_well) in
      let back : IsWellFormed (record new {
        map = record new.map {
          contents =
              (map_rewritten (removal_of options) h.map).contents;
        };
      }) = subst IsWellFormed (sym others) due in
      record { map = map_well; few = back.few; of_entries = back.of_entries }

  pub answer_keeps_scopes : IsWellFormed h → HasDistinctSources h → KeepsScopes h new
  answer_keeps_scopes well distinct =
      scopes_whatever h new (map_rewritten (removal_of options) h.map).contents
      (subst (KeepsScopes h) (sym others) (keeps-scopes (removal_of options) h few well distinct))
