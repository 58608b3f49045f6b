-- Tokens get new numbers one after another.
use Rattle.std.proofs.Common.{◌≡◌, refl, sym, ap, subst, ◌∙◌, ℕ, ◌+◌, ◌<◌, ◌≤◌, List, [], ◌∷◌, ◌++◌, length, map, take}
use Rattle.std.proofs.Common.{drop, get_or, Option, arith, slice_get, slice_set, append_assoc}
use Rattle.std.specs.List.{AllByRecursion}
use Rattle.std.specs.Option.{option_or}
use Rattle.std.specs.Ordering.{is_lt}
use Rattle.std.proofs.lemmas.List.{get_or-map, map_push, drop_more, take_more, take_all, drop_all, set_at, get_or_at}
use Rattle.std.proofs.lemmas.List.{length-map, length-take-le, append-nil}
use Rattle.sourcemap_tokens.proofs.AllLemmas.{All-unmapped}
use Rattle.sourcemap_tokens.specs.declared.tokens.RawToken.{RawToken}
use Rattle.sourcemap_tokens.specs.Tokens.{AreInOrder, destination, position_cmp}
use Rattle.sourcemap_map_rewrite.specs.Numbering.{with_text_if, first_some, texts_in_use, seen_texts}
use Rattle.sourcemap_map_rewrite.specs.Numbering.{NumbersMore, AreSeen, numbered_by, numbered_with}
use Rattle.sourcemap_map_rewrite.specs.declared.numbering.NewNumbers.{NewNumbers}
use Rattle.sourcemap_map_rewrite.proofs.NumberingLemmas.{IsListedIfAny, texts_in_use-push, used-kept}
use Rattle.sourcemap_map_rewrite.proofs.NumberingLemmas.{first_some-push, number_in-with_text_if}

module _ (S N : List (List ℕ)) where
  pub AreSeen-none : (s n : NewNumbers) → s.order.items ≡ [] → n.order.items ≡ [] → AreSeen S N [] s n
  AreSeen-none s n none nothing = record {
    kept_sources = ap (texts_in_use S) none;
    kept_names = ap (texts_in_use N) nothing;
    first = λ f past. ap (first_some f) none;
  }

  pub AreSeen-push : (ts : List RawToken) (t : RawToken) (s n s' n' : NewNumbers) → AreSeen S N ts s n
      → NumbersMore S t.src_id s s' → NumbersMore N t.name_id n n' → AreSeen S N (ts ++ t ∷ []) s' n'
  AreSeen-push ts t s n s' n' seen more_s more_n = record {
    kept_sources = more_s.kept ∙ ap (λ kept. with_text_if kept (slice_get S t.src_id)) seen.kept_sources
        ∙ sym (ap (texts_in_use S) (map_push (λ (u : RawToken). u.src_id) ts t)
        ∙ texts_in_use-push S (map (λ u. u.src_id) ts) t.src_id);
    kept_names = more_n.kept ∙ ap (λ kept. with_text_if kept (slice_get N t.name_id)) seen.kept_names
        ∙ sym (ap (texts_in_use N) (map_push (λ (u : RawToken). u.name_id) ts t)
        ∙ texts_in_use-push N (map (λ u. u.name_id) ts) t.name_id);
    first = λ f none. more_s.seen f (none t.src_id) ∙ ap (λ o. option_or o (f t.src_id)) (seen.first f none)
        ∙ sym (ap (first_some f) (map_push (λ (u : RawToken). u.src_id) ts t)
        ∙ first_some-push f (map (λ u. u.src_id) ts) t.src_id);
  }

  -- earlier tokens keep their numbers
  numbered-kept : (ks kn : List (List ℕ)) (os on : Option (List ℕ)) (ts : List RawToken)
      → AllByRecursion (λ t. IsListedIfAny ks (slice_get S t.src_id)) ts
      → AllByRecursion (λ t. IsListedIfAny kn (slice_get N t.name_id)) ts
      → map (numbered_by S N (with_text_if ks os) (with_text_if kn on)) ts ≡ map (numbered_by S N ks kn) ts
  numbered-kept ks kn os on [] hs hn = refl
  numbered-kept ks kn os on (t ∷ ts) hs hn =
      let one : numbered_by S N (with_text_if ks os) (with_text_if kn on) t ≡ numbered_by S N ks kn t =
      λ i. record t {
        src_id = number_in-with_text_if ks os (slice_get S t.src_id) hs.0 i;
        name_id = number_in-with_text_if kn on (slice_get N t.name_id) hn.0 i;
      } in
      λ i. one i ∷ numbered-kept ks kn os on ts hs.1 hn.1 i

  all_have_numbers : (texts : List (List ℕ)) (id : RawToken → ℕ) (ts : List RawToken) (kept : List (List ℕ))
      → kept ≡ texts_in_use texts (map id ts) → AllByRecursion (λ t. IsListedIfAny kept (slice_get texts (id t))) ts
  all_have_numbers texts id ts kept e =
      subst (λ k. AllByRecursion (λ t. IsListedIfAny k (slice_get texts (id t))) ts) (sym e)
      (All-unmapped (λ x. IsListedIfAny (texts_in_use texts (map id ts)) (slice_get texts x)) id ts
      (All-unmapped (IsListedIfAny (texts_in_use texts (map id ts))) (slice_get texts) (map id ts)
      (used-kept (map (slice_get texts) (map id ts)))))

  numbered-push : (ts : List RawToken) (t : RawToken) (s n s' n' : NewNumbers) → AreSeen S N ts s n
      → NumbersMore S t.src_id s s' → NumbersMore N t.name_id n n'
      → map (numbered_with S N s' n') (ts ++ t ∷ []) ≡ map (numbered_with S N s n) ts ++ numbered_with S N s' n' t ∷ []
  numbered-push ts t s n s' n' seen more_s more_n =
      let same : map (numbered_with S N s' n') ts ≡ map (numbered_with S N s n) ts =
      (λ i. map (numbered_by S N (more_s.kept i) (more_n.kept i)) ts)
      ∙ numbered-kept (seen_texts S s) (seen_texts N n) (slice_get S t.src_id) (slice_get N t.name_id) ts
      (all_have_numbers S (λ t. t.src_id) ts (seen_texts S s) seen.kept_sources)
      (all_have_numbers N (λ t. t.name_id) ts (seen_texts N n) seen.kept_names) in
      map_push (numbered_with S N s' n') ts t ∙ ap (λ us. us ++ numbered_with S N s' n' t ∷ []) same

  -- the loop over mutable tokens
  module _ (old now : List RawToken) (i : ℕ) (d : RawToken) (s n : NewNumbers) (within : i < length old)
      (seen : AreSeen S N (take i old) s n)
      (so_far : now ≡ map (numbered_with S N s n) (take i old) ++ drop i old) where
    front : List RawToken
    front = map (numbered_with S N s n) (take i old)

    length-front : length front ≡ i
    unfolding front
    length-front = length-map (take i old) (numbered_with S N s n) ∙ length-take-le i old (omega arith)

    opened : now ≡ front ++ get_or old i d ∷ drop (i + 1) old
    unfolding front
    opened = so_far ∙ ap (λ xs. map (numbered_with S N s n) (take i old) ++ xs) (drop_more old i d within)

    pub at-index : get_or now i d ≡ get_or old i d
    at-index = ap (λ xs. get_or xs i d) opened ∙ get_or_at front (get_or old i d) (drop (i + 1) old) d i length-front

    module _ (s' n' : NewNumbers) (more_s : NumbersMore S (get_or now i d).src_id s s')
        (more_n : NumbersMore N (get_or now i d).name_id n n') where
      t : RawToken
      t = get_or old i d

      more_s' : NumbersMore S t.src_id s s'
      unfolding t
      more_s' = subst (λ (u : RawToken). NumbersMore S u.src_id s s') at-index more_s

      more_n' : NumbersMore N t.name_id n n'
      unfolding t
      more_n' = subst (λ (u : RawToken). NumbersMore N u.name_id n n') at-index more_n

      pub seen-more : AreSeen S N (take (i + 1) old) s' n'
      unfolding t
      seen-more =
          rw (take_more old i d within) (AreSeen-push (take i old) (get_or old i d) s n s' n' seen more_s' more_n')

      pub tokens-more : (x : RawToken) → x ≡ numbered_with S N s' n' (get_or now i d)
          → slice_set now i x ≡ map (numbered_with S N s' n') (take (i + 1) old) ++ drop (i + 1) old
      unfolding t front
      tokens-more x e =
          let x' : x ≡ numbered_with S N s' n' (get_or old i d) = e ∙ ap (numbered_with S N s' n') at-index in
          let mapped : map (numbered_with S N s' n') (take (i + 1) old)
          ≡ front ++ numbered_with S N s' n' (get_or old i d) ∷ [] =
          ap (map (numbered_with S N s' n')) (take_more old i d within)
          ∙ numbered-push (take i old) (get_or old i d) s n s' n' seen more_s' more_n' in
          ap (λ xs. slice_set xs i x) opened ∙ set_at front (get_or old i d) (drop (i + 1) old) x i length-front
          ∙ ap (λ y. front ++ y ∷ drop (i + 1) old) x'
          ∙ sym (append_assoc front (numbered_with S N s' n' (get_or old i d) ∷ []) (drop (i + 1) old))
          ∙ ap (λ xs. xs ++ drop (i + 1) old) (sym mapped)

  pub seen-all : (old : List RawToken) (i : ℕ) (s n : NewNumbers) → length old ≤ i → AreSeen S N (take i old) s n
      → AreSeen S N old s n
  seen-all old i s n past seen = subst (λ ts. AreSeen S N ts s n) (take_all i old past) seen

  pub tokens-all : (old now : List RawToken) (i : ℕ) (s n : NewNumbers) → length old ≤ i
      → now ≡ map (numbered_with S N s n) (take i old) ++ drop i old → now ≡ map (numbered_with S N s n) old
  tokens-all old now i s n past e =
      e ∙ ap (λ ts. map (numbered_with S N s n) ts ++ drop i old) (take_all i old past)
      ∙ ap (λ ts. map (numbered_with S N s n) old ++ ts) (drop_all i old past)
      ∙ append-nil (map (numbered_with S N s n) old)

-- Order.

pub AreInOrder-map : (g : RawToken → RawToken) → ((t : RawToken) → destination (g t) ≡ destination t)
    → (ts : List RawToken) → AreInOrder ts → AreInOrder (map g ts)
AreInOrder-map g same ts up k d at below =
    let many : length (map g ts) ≡ length ts = length-map ts g in
    let here : get_or (map g ts) k d ≡ g (get_or ts k d) = get_or-map g ts k d d (omega arith) in
    let next : get_or (map g ts) (k + 1) d ≡ g (get_or ts (k + 1) d) = get_or-map g ts (k + 1) d d (omega arith) in
    (λ i. is_lt (position_cmp ((ap destination next ∙ same (get_or ts (k + 1) d)) i)
    ((ap destination here ∙ same (get_or ts k d)) i)))
    ∙ up k d at (omega arith)
