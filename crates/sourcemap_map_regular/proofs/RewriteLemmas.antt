-- The parts of a rewritten map equal the parts of `rewritten`, but loading may change the contents.
use Rattle.std.proofs.Common.{◌≡◌, refl, sym, ap, subst, ◌∙◌, ℕ, ◌≤◌, List, [], ◌∷◌, length, map, Bool, true, false}
use Rattle.std.proofs.Common.{cond, MatchBool, Ok, Some, None, Option, arith, slice_get}
use Rattle.std.proofs.lemmas.List.{length-map}
use Rattle.sourcemap_tokens.specs.declared.tokens.RawToken.{RawToken}
use Rattle.sourcemap_map_parts.specs.Sources.{resolved}
use Rattle.sourcemap_texts.specs.Texts.{texts_of}
use Rattle.sourcemap_texts.specs.Prefixes.{without_prefix}
use Rattle.sourcemap_map_rewrite.specs.Numbering.{texts_in_use, numbered_by}
use Rattle.sourcemap_map_rewrite.specs.Rewritten.{AreRewritten}
use Rattle.sourcemap_map_rewrite.specs.declared.rewritten.RewrittenParts.{RewrittenParts}
use Rattle.sourcemap_map_rewrite.proofs.NumberingLemmas.{kept_once-few}
use Rattle.sourcemap_map_regular.specs.Map.{MapValue, resolved_sources, source_of}
use Rattle.sourcemap_map_rewrite.specs.declared.options.RewriteOptions.{RewriteOptions}
use Rattle.sourcemap_map_regular.specs.Rewrite.{Removal, removal_of, present, kept_once, number_in, used_sources}
use Rattle.sourcemap_map_regular.specs.Rewrite.{used_names, kept_names, contents_for, contents_before, cuts, renumbered}
use Rattle.sourcemap_map_regular.specs.Rewrite.{rewritten, AreLoaded, IsLoaded, Rewrites, SameButContents}

-- The parts.

pub map-map : {X Y Z : Type 0} (f : Y → Z) (g : X → Y) (xs : List X) → map f (map g xs) ≡ map (λ x. f (g x)) xs
map-map f g [] = refl
map-map f g (x ∷ xs) = ap (λ rest. f (g x) ∷ rest) (map-map f g xs)

present-nothing : (ids : List ℕ) → present (map (slice_get []) ids) ≡ []
present-nothing [] = refl
present-nothing (id ∷ ids) = present-nothing ids

texts_in_use-if : (w : Bool) (names : List (List ℕ)) (ids : List ℕ)
    → texts_in_use (cond w names []) ids ≡ cond w (texts_in_use names ids) []
texts_in_use-if true names ids = refl
texts_in_use-if false names ids = ap kept_once (present-nothing ids)

number_in-if : (w : Bool) (kept names : List (List ℕ)) (id : ℕ)
    → number_in (cond w kept []) (slice_get (cond w names []) id) ≡ number_in (cond w kept []) (slice_get names id)
number_in-if true kept names id = refl
number_in-if false kept names id = by_case (slice_get names id)
  where
    by_case : (o : Option (List ℕ)) → 4294967295 ≡ number_in [] o
    by_case None = refl
    by_case (Some t) = refl

module _ (m : MapValue) (removal : Removal) where
  pub sources_used : texts_in_use (resolved_sources m) (map (λ t. t.src_id) m.tokens) ≡ used_sources m
  sources_used =
      ap (λ os. kept_once (present os)) (map-map (slice_get (resolved_sources m)) (λ (t : RawToken). t.src_id) m.tokens)

  pub names_used : texts_in_use m.names (map (λ t. t.name_id) m.tokens) ≡ used_names m
  names_used = ap (λ os. kept_once (present os)) (map-map (slice_get m.names) (λ (t : RawToken). t.name_id) m.tokens)

  names_kept : texts_in_use (cond removal.with_names m.names []) (map (λ t. t.name_id) m.tokens) ≡ kept_names removal m
  names_kept = texts_in_use-if removal.with_names m.names (map (λ t. t.name_id) m.tokens)
      ∙ ap (λ kept. cond removal.with_names kept []) names_used

  pub few_used_sources : length m.sources ≤ 4294967295 → length (used_sources m) ≤ 4294967295
  few_used_sources few =
      let some = kept_once-few (resolved_sources m) (map (λ t. t.src_id) m.tokens) in
      let many : length (resolved_sources m) ≡ length m.sources = length-map m.sources (resolved m.root) in
      subst (λ kept. length kept ≤ 4294967295) sources_used (omega (arith, some, many))

  pub few_used_names : length m.names ≤ 4294967295 → length (used_names m) ≤ 4294967295
  few_used_names few =
      let some = kept_once-few m.names (map (λ t. t.name_id) m.tokens) in
      subst (λ kept. length kept ≤ 4294967295) names_used (omega (arith, some))

  same_numbers : (t : RawToken) → numbered_by (resolved_sources m) (cond removal.with_names m.names [])
      (texts_in_use (resolved_sources m) (map (λ t. t.src_id) m.tokens)) (texts_in_use
      (cond removal.with_names m.names []) (map (λ t. t.name_id) m.tokens)) t ≡ renumbered removal m t
  same_numbers t = λ i. record t {
    src_id = number_in (sources_used i) (source_of m t.src_id);
    name_id = (ap (λ kept. number_in kept (slice_get (cond removal.with_names m.names []) t.name_id)) names_kept
        ∙ number_in-if removal.with_names (used_names m) m.names t.name_id) i;
  }

module _ (m : MapValue) (options : RewriteOptions) where
  module _ (p : RewrittenParts) (S N paths : List (List ℕ)) (same_sources : S ≡ resolved_sources m)
      (same_names : N ≡ cond options.with_names m.names [])
      (same_paths : paths ≡ m.sources) (are : AreRewritten S N paths m.contents options m.tokens p) where
    due : AreRewritten (resolved_sources m) (cond options.with_names m.names []) m.sources m.contents options m.tokens p
    due = subst (λ xs. AreRewritten (resolved_sources m)
        (cond options.with_names m.names []) xs m.contents options m.tokens p) same_paths
        (subst (λ xs. AreRewritten (resolved_sources m) xs paths m.contents options m.tokens p) same_names
        (subst (λ xs. AreRewritten xs N paths m.contents options m.tokens p) same_sources are))

    pub tokens-rewritten : p.tokens ≡ (rewritten (removal_of options) m).tokens
    tokens-rewritten = due.tokens_are ∙ (λ i. map (λ t. same_numbers m (removal_of options) t i) m.tokens)

    pub names-rewritten : texts_of p.names ≡ (rewritten (removal_of options) m).names
    names-rewritten = due.names_are ∙ names_kept m (removal_of options)

    pub sources-rewritten : texts_of p.sources ≡ (rewritten (removal_of options) m).sources
    sources-rewritten =
        due.sources_are ∙ ap (map (without_prefix (cuts (removal_of options) m))) (sources_used m (removal_of options))

    contents-due : MatchBool options.load_local_source_contents
        (AreLoaded options (used_sources m) (contents_before (removal_of options) m) p.contents.items)
        (p.contents.items ≡ (rewritten (removal_of options) m).contents)
    contents-due = subst (λ used. MatchBool options.load_local_source_contents
        (AreLoaded options used
        (map (λ text. cond options.with_source_contents (contents_for m text) None) used) p.contents.items)
        (p.contents.items ≡ cond options.with_source_contents (map (contents_for m) used) []))
        (sources_used m (removal_of options)) due.contents_are

    -- if `new` has the contents of `p` and otherwise equals `rewritten`, `new` is a possible result of `rewrite`
    pub is-rewritten : (new : MapValue) → new.contents ≡ p.contents.items
        → SameButContents new (rewritten (removal_of options) m)
        → Rewrites options m (Ok new)
    is-rewritten new same_contents others =
        by_case options.load_local_source_contents
        (subst (λ contents. MatchBool options.load_local_source_contents
        (AreLoaded options (used_sources m) (contents_before (removal_of options) m) contents)
        (contents ≡ (rewritten (removal_of options) m).contents)) (sym same_contents) contents-due)
      where
        by_case : (b : Bool)
            → MatchBool b (AreLoaded options (used_sources m) (contents_before (removal_of options) m) new.contents)
            (new.contents ≡ (rewritten (removal_of options) m).contents)
            → MatchBool b (IsLoaded options m new) (new ≡ rewritten (removal_of options) m)
        by_case true loaded = record { others = others; contents = loaded }
        by_case false same = (λ i. record new { contents = same i }) ∙ others

-- the result differs from `rewritten` at most in contents
pub but_contents : (options : RewriteOptions) (m new : MapValue) → Rewrites options m (Ok new)
    → SameButContents new (rewritten (removal_of options) m)
but_contents options m new = by_case options.load_local_source_contents
  where
    by_case : (b : Bool) → MatchBool b (IsLoaded options m new) (new ≡ rewritten (removal_of options) m)
        → SameButContents new (rewritten (removal_of options) m)
    by_case true is = is.others
    by_case false is = (λ i. record new { contents = ap (λ (n : MapValue). n.contents) (sym is) i }) ∙ is
