-- Let a map have at most 4294967295 sources and at most 4294967295 names. Rewriting the map twice with the default
-- options gives the same map as rewriting it once with these options.
use Rattle.std.proofs.Common.{◌≡◌, refl, sym, ap, ◌∙◌, ℕ, ◌≤◌, List, [], ◌∷◌, length, map, Bool, true, false, cond}
use Rattle.std.proofs.Common.{Some, None, Option, inl, inr, ◌⊎◌, option_map, option_and_then}
use Rattle.std.specs.List.{AllByRecursion}
use Rattle.std.specs.Option.{option_or}
use Rattle.std.specs.Str.{bytes_eq}
use Rattle.std.proofs.lemmas.Option.{slice_get-map}
use Rattle.std.proofs.lemmas.Slice.Eq.{bytes_eq-Decides}
use Rattle.sourcemap_tokens.specs.declared.tokens.RawToken.{RawToken}
use Rattle.sourcemap_texts.specs.Prefixes.{without_prefix}
use Rattle.sourcemap_map_regular.specs.Map.{MapValue, source_of, name_of, contents_of}
use Rattle.sourcemap_map_rewrite.specs.Numbering.{first_some}
use Rattle.sourcemap_map_regular.specs.Rewrite.{no_removal, present, kept_once, number_in, used_sources, used_names}
use Rattle.sourcemap_map_regular.specs.Rewrite.{contents_if, contents_for, renumbered, rewritten}
use Rattle.sourcemap_map_rewrite.proofs.NumberingLemmas.{slice_get-number_in}
use Rattle.sourcemap_map_rewrite.proofs.RewrittenLemmas.{first_present, first_some-map}
use Rattle.sourcemap_map_regular.proofs.RewriteLemmas.{map-map, few_used_sources}
use Rattle.sourcemap_map_regular.proofs.RewriteMeaning.{IsKept, all_tokens_kept, cut-nothing, new_source, new_name}

map-same : {X Y : Type 0} (P : X → Type 0) (f g : X → Y) → ((x : X) → P x → f x ≡ g x) → (xs : List X)
    → AllByRecursion P xs → map f xs ≡ map g xs
map-same P f g same [] all = refl
map-same P f g same (x ∷ xs) all = λ i. same x all.0 i ∷ map-same P f g same xs all.1 i

first_some-same_on : {X : Type 0} (P : X → Type 0) (f g : X → Option (List ℕ)) → ((x : X) → P x → f x ≡ g x)
    → (xs : List X) → AllByRecursion P xs → first_some f xs ≡ first_some g xs
first_some-same_on P f g same [] all = refl
first_some-same_on P f g same (x ∷ xs) all = λ i. option_or (same x all.0 i) (first_some-same_on P f g same xs all.1 i)

-- Let `own x` be `None` for each item `x` that fails `test`, and let `o` be the first result of `own` in a list
-- (`first_some`). Let another function return `o` for each item that passes `test`, and `None` for each item that fails
-- `test`. The first result of this function in the list is also `o`.
module _ {X : Type 0} (test : X → Bool) (own : X → Option (List ℕ))
    (none : (x : X) → test x ≡ false → own x ≡ None) where
  nothing : (xs : List X) → first_some {Y = List ℕ} (λ x. cond (test x) None None) xs ≡ None
  nothing [] = refl
  nothing (x ∷ xs) = by_case (test x) (nothing xs)
    where
      by_case : (b : Bool) → first_some {Y = List ℕ} (λ x. cond (test x) None None) xs ≡ None
          → option_or (cond b None None) (first_some {Y = List ℕ} (λ x. cond (test x) None None) xs) ≡ None
      by_case true rest = rest
      by_case false rest = rest

  something : (given : List ℕ) (xs : List X)
      → (first_some own xs ≡ None) ⊎ (first_some (λ x. cond (test x) (Some given) None) xs ≡ Some given)
  something given [] = inl refl
  something given (x ∷ xs) = by_case (test x) refl (something given xs)
    where
      by_case : (b : Bool) → test x ≡ b
          → (first_some own xs ≡ None) ⊎ (first_some (λ x. cond (test x) (Some given) None) xs ≡ Some given)
          → (option_or (own x) (first_some own xs) ≡ None) ⊎ (option_or (cond (test x) (Some given) None) (first_some
          (λ x. cond (test x) (Some given) None) xs) ≡ Some given)
      by_case true e h = inr (rw e refl)
      by_case false e (inl h) = inl (rw (none x e) h)
      by_case false e (inr h) = inr (rw e h)

  given-again : (xs : List X) → first_some (λ x. cond (test x) (first_some own xs) None) xs ≡ first_some own xs
  given-again xs = by_case (first_some own xs) refl
    where
      by_case : (o : Option (List ℕ)) → first_some own xs ≡ o → first_some (λ x. cond (test x) o None) xs ≡ o
      by_case None e = nothing xs
      by_case (Some given) e = elim (something given xs) [ inl h ↦ cc | inr h ↦ h ]

module _ (m : MapValue) (few_sources : length m.sources ≤ 4294967295) (few_names : length m.names ≤ 4294967295) where
  same_source : (t : RawToken) → IsKept m t
      → source_of (rewritten no_removal m) (renumbered no_removal m t).src_id ≡ source_of m t.src_id
  same_source t kept =
      new_source m no_removal few_sources few_names t.src_id kept.0 ∙ cut-nothing (source_of m t.src_id)

  same_name : (t : RawToken) → IsKept m t
      → name_of (rewritten no_removal m) (renumbered no_removal m t).name_id ≡ name_of m t.name_id
  same_name t kept = new_name m no_removal few_sources few_names t.name_id kept.1

  same_sources : used_sources (rewritten no_removal m) ≡ used_sources m
  same_sources = ap (λ os. kept_once (present os))
      (map-map (λ (t : RawToken). source_of (rewritten no_removal m) t.src_id) (renumbered no_removal m) m.tokens
      ∙ map-same (IsKept m) (λ t. source_of (rewritten no_removal m) (renumbered no_removal m t).src_id)
      (λ t. source_of m t.src_id) same_source m.tokens (all_tokens_kept m))

  same_names : used_names (rewritten no_removal m) ≡ used_names m
  same_names = ap (λ os. kept_once (present os))
      (map-map (λ (t : RawToken). name_of (rewritten no_removal m) t.name_id) (renumbered no_removal m) m.tokens
      ∙ map-same (IsKept m) (λ t. name_of (rewritten no_removal m) (renumbered no_removal m t).name_id)
      (λ t. name_of m t.name_id) same_name m.tokens (all_tokens_kept m))

  same_tokens : map (renumbered no_removal (rewritten no_removal m)) (map (renumbered no_removal m) m.tokens)
      ≡ map (renumbered no_removal m) m.tokens
  same_tokens =
      map-map (renumbered no_removal (rewritten no_removal m)) (renumbered no_removal m) m.tokens
      ∙ map-same (IsKept m) (λ t. renumbered no_removal (rewritten no_removal m) (renumbered no_removal m t))
      (renumbered no_removal m)
      (λ t kept i. record t {
        src_id = number_in (same_sources i) (same_source t kept i);
        name_id = number_in (same_names i) (same_name t kept i);
      }) m.tokens (all_tokens_kept m)

  -- whether the token's source is this text
  abbrev is_from : List ℕ → RawToken → Bool
  is_from text t = elim (source_of m t.src_id) as (λ o. Bool) [ None ↦ false | Some source ↦ bytes_eq source text ]

  none_own : (text : List ℕ) (t : RawToken) → is_from text t ≡ false → contents_if m text t ≡ None
  none_own text t = by_case (source_of m t.src_id)
    where
      by_case : (o : Option (List ℕ))
          → (elim o as (λ o. Bool) [ None ↦ false | Some source ↦ bytes_eq source text ]) ≡ false
          → option_and_then (λ source. cond (bytes_eq source text) (contents_of m t.src_id) None) o ≡ None
      by_case None e = refl
      by_case (Some source) e = rw e refl

  -- in the rewritten map, a token whose source is `text` has the contents that `m` has for `text`. Any other token has
  -- no contents for `text`
  contents_now : (text : List ℕ) (t : RawToken) → IsKept m t → contents_if (rewritten no_removal m) text
      (renumbered no_removal m t) ≡ cond (is_from text t) (contents_for m text) None
  contents_now text t kept =
      ap (option_and_then (λ source. cond (bytes_eq source text)
      (contents_of (rewritten no_removal m) (renumbered no_removal m t).src_id) None)) (same_source t kept)
      ∙ by_case (source_of m t.src_id) refl
    where
      stored : (source : List ℕ) → source_of m t.src_id ≡ Some source
          → contents_of (rewritten no_removal m) (renumbered no_removal m t).src_id ≡ contents_for m source
      stored source e =
          ap (option_and_then (λ o. o))
          (slice_get-map (contents_for m) (used_sources m) (renumbered no_removal m t).src_id
          ∙ ap (option_map (contents_for m)) (slice_get-number_in (used_sources m) (source_of m t.src_id)
          (few_used_sources m no_removal few_sources) kept.0 ∙ e))

      chosen : (source : List ℕ) → contents_of (rewritten no_removal m) (renumbered no_removal m t).src_id
          ≡ contents_for m source → (b : Bool) → bytes_eq source text ≡ b
          → cond b (contents_of (rewritten no_removal m) (renumbered no_removal m t).src_id) None
          ≡ cond b (contents_for m text) None
      chosen source e true same = e ∙ ap (contents_for m) ((bytes_eq-Decides source text).0 same)
      chosen source e false same = refl

      by_case : (o : Option (List ℕ)) → source_of m t.src_id ≡ o
          → option_and_then (λ source. cond (bytes_eq source text)
          (contents_of (rewritten no_removal m) (renumbered no_removal m t).src_id) None) o
          ≡ cond (elim o as (λ o. Bool) [
            | None ↦ false
            | Some source ↦ bytes_eq source text
          ]) (contents_for m text) None
      by_case None e = refl
      by_case (Some source) e = chosen source (stored source e) (bytes_eq source text) refl

  same_contents : (text : List ℕ) → contents_for (rewritten no_removal m) text ≡ contents_for m text
  same_contents text =
      first_present (contents_if (rewritten no_removal m) text) (map (renumbered no_removal m) m.tokens)
      ∙ first_some-map (contents_if (rewritten no_removal m) text) (renumbered no_removal m) m.tokens
      ∙ first_some-same_on (IsKept m) (λ t. contents_if (rewritten no_removal m) text (renumbered no_removal m t))
      (λ t. cond (is_from text t) (contents_for m text) None) (contents_now text) m.tokens (all_tokens_kept m)
      ∙ ap (λ o. first_some (λ t. cond (is_from text t) o None) m.tokens) (first_present (contents_if m text) m.tokens)
      ∙ given-again (is_from text) (contents_if m text) (none_own text) m.tokens
      ∙ sym (first_present (contents_if m text) m.tokens)

  pub rewritten-twice : rewritten no_removal (rewritten no_removal m) ≡ rewritten no_removal m
  rewritten-twice = λ i. record {
    file = m.file;
    root = None;
    tokens = same_tokens i;
    names = same_names i;
    sources = map (without_prefix []) (same_sources i);
    contents = map (λ text. same_contents text i) (same_sources i);
    ignored = [];
    debug_id = m.debug_id;
  }
