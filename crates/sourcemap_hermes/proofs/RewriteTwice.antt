-- If a Hermes map has at most 4294967295 sources and at most 4294967295 names, rewriting the map twice with default
-- options gives the same map as rewriting the map once.
use Rattle.std.proofs.Common.{◌≡◌, refl, sym, ap, subst, ◌∙◌, ℕ, ◌+◌, suc, ◌≤◌, List, [], ◌∷◌, ◌++◌, append_assoc}
use Rattle.std.proofs.Common.{length, map, Some, None, Option, arith, slice_get}
use Rattle.std.proofs.lemmas.List.{length-map}
use Rattle.sourcemap_interning.specs.Interner.{id_of}
use Rattle.sourcemap_texts.specs.Prefixes.{without_prefix}
use Rattle.sourcemap_map_parts.proofs.SourcesLemmas.{map-resolved_against_nothing}
use Rattle.sourcemap_map_rewrite.specs.FirstIds.{first_of}
use Rattle.sourcemap_map_rewrite.specs.Numbering.{texts_in_use}
use Rattle.sourcemap_map_rewrite.proofs.FirstIdsLemmas.{first_names}
use Rattle.sourcemap_map_rewrite.proofs.NumberingLemmas.{distinct-texts_in_use}
use Rattle.sourcemap_map_regular.specs.Map.{MapValue, resolved_sources}
use Rattle.sourcemap_map_regular.specs.Rewrite.{no_removal, used_sources, first_ids, rewritten as map_rewritten}
use Rattle.sourcemap_map_regular.proofs.RewriteLemmas.{sources_used}
use Rattle.sourcemap_map_regular.proofs.RewriteTwice.{rewritten-twice}
use Rattle.sourcemap_tokens.specs.Items.{item_at}
use Rattle.sourcemap_hermes_scopes.specs.Picks.{items_at}
use Rattle.sourcemap_hermes.specs.Map.{HermesValue}
use Rattle.sourcemap_hermes.specs.Rewrite.{rewritten}

-- Selecting each item of a list by its index, in order, gives the same list.

at_end : {X : Type 0} (pre ys : List (Option X)) (y : Option X) → item_at (pre ++ y ∷ ys) (length pre) ≡ y
at_end [] ys None = refl
at_end [] ys (Some y) = refl
at_end (x ∷ pre) ys y = at_end pre ys y

length_more : {X : Type 0} (pre : List X) (y : X) → length (pre ++ y ∷ []) ≡ length pre + 1
length_more [] y = refl
length_more (x ∷ pre) y = let more = length_more pre y in omega (arith, more)

one_less : (m n : ℕ) → suc m ≡ suc n → m ≡ n
one_less m n e = cc

select-own : {X : Type 0} (pre ys : List (Option X)) (texts : List (List ℕ)) (index : List ℕ → ℕ)
    → length texts ≡ length ys
    → ((k : ℕ) (text : List ℕ) → slice_get texts k ≡ Some text → index text ≡ length pre + k)
    → map (item_at (pre ++ ys)) (map index texts) ≡ ys
select-own pre [] [] index many own = refl
select-own pre [] (text ∷ texts) index many own = cc
select-own pre (y ∷ ys) [] index many own = cc
select-own pre (y ∷ ys) (text ∷ texts) index many own =
    let here : index text ≡ length pre = let first = own 0 text refl in omega (arith, first) in
    let longer = length_more pre y in
    let rest = select-own (pre ++ y ∷ []) ys texts index (one_less (length texts) (length ys) many)
    (λ k t at. let next = own (suc k) t at in omega (arith, next, longer)) in
    let whole = append_assoc pre (y ∷ []) ys in
    (λ i. item_at (pre ++ y ∷ ys) (here i) ∷ map (item_at (sym whole i)) (map index texts))
    ∙ (λ i. at_end pre ys y i ∷ rest i)

cut_nothing : (texts : List (List ℕ)) → map (without_prefix []) texts ≡ texts
cut_nothing [] = refl
cut_nothing (text ∷ texts) = ap (λ rest. text ∷ rest) (cut_nothing texts)

module _ (m : MapValue) (few_sources : length m.sources ≤ 4294967295) (few_names : length m.names ≤ 4294967295) where
  new : MapValue
  new = map_rewritten no_removal m

  ids : List ℕ
  ids = map (λ t. t.src_id) new.tokens

  same_used : used_sources new ≡ used_sources m
  unfolding new
  same_used =
      sym (cut_nothing (used_sources (map_rewritten no_removal m)))
      ∙ ap (λ (n : MapValue). n.sources) (rewritten-twice m few_sources few_names) ∙ cut_nothing (used_sources m)

  kept_new : texts_in_use (resolved_sources new) ids ≡ used_sources m
  unfolding new ids
  kept_new = sources_used (map_rewritten no_removal m) no_removal ∙ same_used

  resolved_new : resolved_sources new ≡ texts_in_use (resolved_sources new) ids
  unfolding new ids
  resolved_new = map-resolved_against_nothing [] (map_rewritten no_removal m).sources refl
      ∙ cut_nothing (used_sources m) ∙ sym kept_new

  own_index : (k : ℕ) (text : List ℕ) → slice_get (texts_in_use (resolved_sources new) ids) k ≡ Some text
      → first_of (resolved_sources new) ids text ≡ k
  own_index k text at =
      let named = subst (λ texts. slice_get texts (first_of (resolved_sources new) ids text)
      ≡ Some text) resolved_new (first_names (resolved_sources new) ids k text at) in
      one (distinct-texts_in_use (resolved_sources new) ids text (first_of (resolved_sources new) ids text) named)
      (distinct-texts_in_use (resolved_sources new) ids text k at)
    where
      one : {i j : ℕ} → id_of text (texts_in_use (resolved_sources new) ids) ≡ Some i
          → id_of text (texts_in_use (resolved_sources new) ids) ≡ Some j → i ≡ j
      one e f = cc

  select-again : {X : Type 0} (items : List (Option X))
      → items_at (items_at items (first_ids m)) (first_ids (map_rewritten no_removal m)) ≡ items_at items (first_ids m)
  unfolding new ids
  select-again items =
      select-own [] (items_at items (first_ids m)) (texts_in_use (resolved_sources new) ids)
      (first_of (resolved_sources new) ids) as_many
      (λ k text at. let own = own_index k text at in omega (arith, own))
    where
      as_many : length (texts_in_use (resolved_sources new) ids) ≡ length (items_at items (first_ids m))
      as_many =
          ap length (kept_new ∙ sym (sources_used m no_removal))
          ∙ sym (length-map (texts_in_use (resolved_sources m) (map (λ t. t.src_id) m.tokens))
          (first_of (resolved_sources m) (map (λ t. t.src_id) m.tokens)))
          ∙ sym (length-map (first_ids m) (item_at items))

pub hermes-twice : (h : HermesValue) → length h.map.sources ≤ 4294967295 → length h.map.names ≤ 4294967295
    → rewritten no_removal (rewritten no_removal h) ≡ rewritten no_removal h
hermes-twice h few_sources few_names = λ i. record {
  map = rewritten-twice h.map few_sources few_names i;
  scopes = record {
    entries = select-again h.map few_sources few_names h.scopes.entries i;
    function_maps = select-again h.map few_sources few_names h.scopes.function_maps i;
  };
}
