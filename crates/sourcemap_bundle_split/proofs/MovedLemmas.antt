-- Source ids and name ids get numbers token by token. A later token changes no number of an earlier token.
use Rattle.std.proofs.Common.{◌≡◌, ◌∙◌, refl, sym, ap, subst, ℕ, zero, suc, ◌+◌, ◌<◌, ◌≤◌, List, [], ◌∷◌, ◌++◌, length}
use Rattle.std.proofs.Common.{get_or, take, map, fold, Option, Some, None, option_map, slice_get, arith, inl, inr, ◌⊎◌}
use Rattle.std.proofs.lemmas.List.{map-append, take_more}
use Rattle.std.proofs.lemmas.List.Sums.{fold-append}
use Rattle.std.proofs.lemmas.Option.{slice_get-map}
use Rattle.std.proofs.lemmas.Bool.{cases_lt}
use Rattle.sourcemap_tokens.specs.Tokens.{no_id}
use Rattle.sourcemap_tokens.specs.declared.tokens.RawToken.{RawToken}
use Rattle.sourcemap_bundle_split.specs.ModuleMap.{moved_by, number_of, used_ids, with_id}
use Rattle.sourcemap_bundle_split.proofs.NumberLemmas.{below-fold, below-with, met-fold, nothing_below, number_of-stays}
use Rattle.sourcemap_bundle_split.proofs.TableLemmas.{number_past}

pub used-more : (count : ℕ) (ids : List ℕ) (id : ℕ)
    → used_ids count (ids ++ id ∷ []) ≡ with_id count (used_ids count ids) id
used-more count ids id = fold-append (with_id count) [] ids (id ∷ [])

-- let `i` be an index of `tokens`. For the used ids of the first `i` tokens and the id of the token at `i`, `with_id`
-- returns the used ids of the first `i + 1` tokens
pub used-step : (count : ℕ) (of : RawToken → ℕ) (tokens : List RawToken) (i : ℕ) (d : RawToken) → i < length tokens
    → used_ids count (map of (take (i + 1) tokens))
    ≡ with_id count (used_ids count (map of (take i tokens))) (of (get_or tokens i d))
used-step count of tokens i d inside =
    ap (λ ts. used_ids count (map of ts)) (take_more tokens i d inside)
    ∙ ap (used_ids count) (map-append of (take i tokens) (get_or tokens i d ∷ []))
    ∙ used-more count (map of (take i tokens)) (of (get_or tokens i d))

-- if `id` is in `ids`, applying `with_id` to `used_ids count ids` and `new` does not change the result of `number_of`
-- for `id`
same_number : (count : ℕ) (ids : List ℕ) (k id new : ℕ) → slice_get ids k ≡ Some id
    → number_of (with_id count (used_ids count ids) new) id ≡ number_of (used_ids count ids) id
same_number count ids k id new at =
    elim (cases_lt id count) [
      | inl inside ↦
          let met = met-fold count ids [] k id at inside in
          number_of-stays count (used_ids count ids) new id met.0 met.1 ∙ sym met.1
      | inr past ↦
          let below = below-fold count ids [] (nothing_below count) in
          number_past count (with_id count (used_ids count ids) new) id
          (below-with count (used_ids count ids) new below) past
          ∙ sym (number_past count (used_ids count ids) id below past)
    ]

map_same : {X Y : Type 0} (f g : X → Y) (xs : List X) → ((k : ℕ) (x : X) → slice_get xs k ≡ Some x → f x ≡ g x)
    → map f xs ≡ map g xs
map_same f g [] same = refl
map_same f g (x ∷ xs) same = rw (same 0 x refl, map_same f g xs (λ k y at. same (suc k) y at)) refl

module _ (line sources names : ℕ) (done : List RawToken) (t : RawToken) where
  abbrev source_ids : List RawToken → List ℕ
  source_ids ts = used_ids sources (map (λ (t : RawToken). t.src_id) ts)

  abbrev name_ids : List RawToken → List ℕ
  name_ids ts = used_ids names (map (λ (t : RawToken). t.name_id) ts)

  same_moved : (k : ℕ) (x : RawToken) → slice_get done k ≡ Some x
      → moved_by line (with_id sources (source_ids done) t.src_id) (with_id names (name_ids done) t.name_id) x
      ≡ moved_by line (source_ids done) (name_ids done) x
  same_moved k x at =
      let source = same_number sources (map (λ (t : RawToken). t.src_id) done) k x.src_id t.src_id
      (slice_get-map (λ (t : RawToken). t.src_id) done k ∙ ap (option_map (λ (t : RawToken). t.src_id)) at) in
      let name = same_number names (map (λ (t : RawToken). t.name_id) done) k x.name_id t.name_id
      (slice_get-map (λ (t : RawToken). t.name_id) done k ∙ ap (option_map (λ (t : RawToken). t.name_id)) at) in
      rw (source, name) refl

  -- applying `with_id` to the used ids of `done` and the ids of the next token `t` does not change the source numbers
  -- and name numbers of the tokens in `done`
  pub moved-more : map (moved_by line (with_id sources (source_ids done) t.src_id)
      (with_id names (name_ids done) t.name_id)) (done ++ t ∷ [])
      ≡ map (moved_by line (source_ids done) (name_ids done)) done
      ++ moved_by line (with_id sources (source_ids done) t.src_id) (with_id names (name_ids done) t.name_id) t ∷ []
  moved-more =
      map-append (moved_by line (with_id sources (source_ids done) t.src_id)
      (with_id names (name_ids done) t.name_id)) done (t ∷ [])
      ∙ ap (λ xs. xs ++ moved_by line (with_id sources (source_ids done) t.src_id)
      (with_id names (name_ids done) t.name_id) t ∷ [])
      (map_same (moved_by line (with_id sources (source_ids done) t.src_id) (with_id names (name_ids done) t.name_id))
      (moved_by line (source_ids done) (name_ids done)) done same_moved)

pub moved-step : (line sources names : ℕ) (tokens : List RawToken) (i : ℕ) (d : RawToken) → i < length tokens
    → map (moved_by line
    (with_id sources (used_ids sources (map (λ (t : RawToken). t.src_id) (take i tokens))) (get_or tokens i d).src_id)
    (with_id names (used_ids names (map (λ (t : RawToken). t.name_id) (take i tokens))) (get_or tokens i d).name_id))
    (take (i + 1) tokens)
    ≡ map (moved_by line (used_ids sources (map (λ (t : RawToken). t.src_id) (take i tokens)))
    (used_ids names (map (λ (t : RawToken). t.name_id) (take i tokens)))) (take i tokens)
    ++ moved_by line
    (with_id sources (used_ids sources (map (λ (t : RawToken). t.src_id) (take i tokens))) (get_or tokens i d).src_id)
    (with_id names (used_ids names (map (λ (t : RawToken). t.name_id) (take i tokens))) (get_or tokens i d).name_id)
    (get_or tokens i d) ∷ []
moved-step line sources names tokens i d inside =
    ap (map (moved_by line
    (with_id sources (used_ids sources (map (λ (t : RawToken). t.src_id) (take i tokens))) (get_or tokens i d).src_id)
    (with_id names (used_ids names (map (λ (t : RawToken). t.name_id) (take i tokens))) (get_or tokens i d).name_id)))
    (take_more tokens i d inside)
    ∙ moved-more line sources names (take i tokens) (get_or tokens i d)
