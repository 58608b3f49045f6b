-- The meaning of a rewritten map.
use Rattle.std.proofs.Common.{Ok, ◌≡◌, refl, sym, ap, subst, ◌∙◌, ℕ, zero, suc, ◌≤◌, List, [], ◌∷◌, length, map, Bool}
use Rattle.std.proofs.Common.{true, false, cond, Some, None, Option, arith, slice_get, option_map, find}
use Rattle.std.specs.List.{AllByRecursion}
use Rattle.std.specs.Option.{option_or}
use Rattle.std.specs.Ordering.{is_lt, is_eq}
use Rattle.std.proofs.lemmas.List.{length-map}
use Rattle.std.proofs.lemmas.Option.{slice_get-map, slice_get_past, slice_get_within}
use Rattle.sourcemap_interning.specs.Interner.{id_of}
use Rattle.sourcemap_tokens.specs.declared.tokens.RawToken.{RawToken}
use Rattle.sourcemap_tokens.specs.Search.{closest_item, find_last}
use Rattle.sourcemap_tokens.specs.Tokens.{destination, position_cmp, IsWithin}
use Rattle.sourcemap_tokens.proofs.AllLemmas.{All-both, All-map, All-unmapped, All-weaker}
use Rattle.sourcemap_interning.proofs.InternerLemmas.{slice_get-id_of}
use Rattle.sourcemap_tokens.proofs.SearchLemmas.{closest_item-change}
use Rattle.sourcemap_texts.specs.Prefixes.{without_prefix}
use Rattle.sourcemap_map_regular.specs.Map.{MapValue, Meaning, IsWellFormed, resolved_sources, source_of, name_of}
use Rattle.sourcemap_map_regular.specs.Map.{meaning, meaning_of, MeansTheSame, distance, column_after}
use Rattle.sourcemap_map_parts.specs.Sources.{resolved}
use Rattle.sourcemap_map_rewrite.specs.declared.options.RewriteOptions.{RewriteOptions}
use Rattle.sourcemap_map_regular.specs.Rewrite.{Removal, removal_of, number_in, used_sources, used_names, kept_names}
use Rattle.sourcemap_map_regular.specs.Rewrite.{cuts, renumbered, rewritten, without_removed, all_prefixes}
use Rattle.sourcemap_map_regular.specs.Rewrite.{LeavesMeaning, MeansLess, Rewrites, SameButContents, TokensMeanLess}
use Rattle.sourcemap_map_parts.proofs.SourcesLemmas.{map-resolved_against_nothing}
use Rattle.sourcemap_map_rewrite.proofs.NumberingLemmas.{IsListedIfAny, used-kept, slice_get-number_in}
use Rattle.sourcemap_map_regular.proofs.MapLemmas.{of_item, meaning-item}
use Rattle.sourcemap_map_regular.proofs.RewriteLemmas.{few_used_sources, few_used_names, but_contents}

-- the token's source, if any, is among the used sources, and the token's name, if any, is among the used names
abbrev pub IsKept : MapValue → RawToken → Type 0
IsKept m t = IsListedIfAny (used_sources m) (source_of m t.src_id) × IsListedIfAny (used_names m) (name_of m t.name_id)

pub all_tokens_kept : (m : MapValue) → AllByRecursion (IsKept m) m.tokens
all_tokens_kept m =
    All-both (λ t. IsListedIfAny (used_sources m) (source_of m t.src_id))
    (λ t. IsListedIfAny (used_names m) (name_of m t.name_id)) m.tokens
    (All-unmapped (IsListedIfAny (used_sources m)) (λ (t : RawToken). source_of m t.src_id) m.tokens
    (used-kept (map (λ t. source_of m t.src_id) m.tokens)))
    (All-unmapped (IsListedIfAny (used_names m)) (λ (t : RawToken). name_of m t.name_id) m.tokens
    (used-kept (map (λ t. name_of m t.name_id) m.tokens)))

number-of : (kept : List (List ℕ)) (o : Option (List ℕ)) (text : List ℕ) (n : ℕ) → o ≡ Some text
    → id_of text kept ≡ Some n → number_in kept o ≡ n
number-of kept o text n e at_number = rw (e, at_number) refl

-- the generated position and the meaning of a token
abbrev token_meaning : MapValue → RawToken → (ℕ × ℕ) × Meaning
token_meaning n t = (destination t, meaning_of n t 0)

abbrev reduced_meaning : Removal → MapValue → (ℕ × ℕ) × Meaning → (ℕ × ℕ) × Meaning
reduced_meaning removal m entry = (entry.0, without_removed removal m entry.1)

module _ (m : MapValue) (removal : Removal) (few_sources : length m.sources ≤ 4294967295)
    (few_names : length m.names ≤ 4294967295) where
  few_used : length (used_sources m) ≤ 4294967295
  few_used = few_used_sources m removal few_sources

  new_sources : resolved_sources (rewritten removal m) ≡ map (without_prefix (cuts removal m)) (used_sources m)
  new_sources = map-resolved_against_nothing [] (map (without_prefix (cuts removal m)) (used_sources m)) refl

  pub new_source : (id : ℕ) → IsListedIfAny (used_sources m) (source_of m id)
      → source_of (rewritten removal m) (number_in (used_sources m) (source_of m id))
      ≡ option_map (without_prefix (cuts removal m)) (source_of m id)
  new_source id kept =
      ap (λ xs. slice_get xs (number_in (used_sources m) (source_of m id))) new_sources
      ∙ slice_get-map (without_prefix (cuts removal m)) (used_sources m) (number_in (used_sources m) (source_of m id))
      ∙ ap (option_map (without_prefix (cuts removal m)))
      (slice_get-number_in (used_sources m) (source_of m id) few_used kept)

  pub new_name : (id : ℕ) → IsListedIfAny (used_names m) (name_of m id)
      → name_of (rewritten removal m) (number_in (kept_names removal m) (name_of m id))
      ≡ cond removal.with_names (name_of m id) None
  new_name id kept = by_case removal.with_names
    where
      by_case : (w : Bool) → slice_get (cond w (used_names m) []) (number_in (cond w (used_names m) []) (name_of m id))
          ≡ cond w (name_of m id) None
      by_case true = slice_get-number_in (used_names m) (name_of m id) (few_used_names m removal few_names) kept
      by_case false = refl

  pub meaning_reduced : (extra_columns : ℕ) (t : RawToken) → IsKept m t → meaning_of (rewritten removal m)
      (renumbered removal m t) extra_columns ≡ without_removed removal m (meaning_of m t extra_columns)
  meaning_reduced extra_columns t kept = λ i. record {
    source = new_source t.src_id kept.0 i;
    line = t.src_line;
    column = column_after t.src_col extra_columns;
    name = new_name t.name_id kept.1 i;
    is_range = t.is_range;
  }

  -- Meaning.

  -- `P` is true of the token, if there is one
  abbrev IfSomeToken : (RawToken → Type 0) → Option RawToken → Type 0
  IfSomeToken P None = Unit {0}
  IfSomeToken P (Some t) = P t

  if_some_or : (P : RawToken → Type 0) (a b : Option RawToken) → IfSomeToken P a → IfSomeToken P b
      → IfSomeToken P (option_or a b)
  if_some_or P None b h k = k
  if_some_or P (Some t) b h k = h

  if_some_if : (P : RawToken → Type 0) (b : Bool) (t : RawToken) (o : Option RawToken) → P t → IfSomeToken P o
      → IfSomeToken P (cond b (Some t) o)
  if_some_if P true t o h k = h
  if_some_if P false t o h k = k

  if_some-find : (P : RawToken → Type 0) (test : RawToken → Bool) (ts : List RawToken) → AllByRecursion P ts
      → IfSomeToken P (find test ts)
  if_some-find P test [] all = tt
  if_some-find P test (t ∷ ts) all = if_some_if P (test t) t (find test ts) all.0 (if_some-find P test ts all.1)

  if_some-find_last : (P : RawToken → Type 0) (test : RawToken → Bool) (ts : List RawToken) → AllByRecursion P ts
      → IfSomeToken P (find_last test ts)
  if_some-find_last P test [] all = tt
  if_some-find_last P test (t ∷ ts) all = if_some_or P (find_last test ts) (cond (test t)
      (Some t) None) (if_some-find_last P test ts all.1) (if_some_if P (test t) t None all.0 tt)

  if_some-closest : (p : ℕ × ℕ) → IfSomeToken (IsKept m) (closest_item destination position_cmp m.tokens p)
  if_some-closest p =
      if_some_or (IsKept m) (find (λ t. is_eq (position_cmp (destination t) p)) m.tokens)
      (find_last (λ t. is_lt (position_cmp (destination t) p)) m.tokens)
      (if_some-find (IsKept m) (λ t. is_eq (position_cmp (destination t) p)) m.tokens (all_tokens_kept m))
      (if_some-find_last (IsKept m) (λ t. is_lt (position_cmp (destination t) p)) m.tokens (all_tokens_kept m))

  pub means_less : MeansLess removal m (rewritten removal m)
  unfolding of_item
  means_less p =
      meaning-item (rewritten removal m) p
      ∙ ap (of_item (rewritten removal m) p)
      (closest_item-change destination destination position_cmp (renumbered removal m) (λ t. refl) m.tokens p)
      ∙ each (closest_item destination position_cmp m.tokens p) (if_some-closest p)
      ∙ ap (option_map (without_removed removal m)) (sym (meaning-item m p))
    where
      each : (o : Option RawToken) → IfSomeToken (IsKept m) o
          → option_map (λ t. meaning_of (rewritten removal m) t (distance t p)) (option_map (renumbered removal m) o)
          ≡ option_map (without_removed removal m) (option_map (λ t. meaning_of m t (distance t p)) o)
      each None kept = refl
      each (Some t) kept = ap Some (meaning_reduced (distance t p) t kept)

  -- Token by token.

  pub all_reduced : TokensMeanLess removal m (rewritten removal m)
  all_reduced = each m.tokens (all_tokens_kept m)
    where
      each : (ts : List RawToken) → AllByRecursion (IsKept m) ts
          → map (token_meaning (rewritten removal m)) (map (renumbered removal m) ts)
          ≡ map (reduced_meaning removal m) (map (token_meaning m) ts)
      each [] kept = refl
      each (t ∷ ts) kept =
          let here : token_meaning (rewritten removal m) (renumbered removal m t)
          ≡ reduced_meaning removal m (token_meaning m t) = λ i. (destination t, meaning_reduced 0 t kept.0 i) in
          λ i. here i ∷ each ts kept.1 i

  -- Bounds.

  within-rewritten : (t : RawToken) → IsKept m t × IsWithin (length m.sources) (length m.names) t
      → IsWithin (length (rewritten removal m).sources) (length (rewritten removal m).names) (renumbered removal m t)
  within-rewritten t (kept, within) past = by_case (source_of m t.src_id) refl
    where
      many : length (map (without_prefix (cuts removal m)) (used_sources m)) ≡ length (used_sources m)
      many = length-map (used_sources m) (without_prefix (cuts removal m))

      few_kept : (w : Bool) → length (cond w (used_names m) []) ≤ 4294967295
      few_kept true = few_used_names m removal few_names
      few_kept false = omega arith

      by_case : (o : Option (List ℕ)) → source_of m t.src_id ≡ o
          → (number_in (used_sources m) (source_of m t.src_id) ≡ 4294967295) × (t.src_line ≡ 4294967295)
          × (t.src_col ≡ 4294967295)
          × (length (kept_names removal m) ≤ number_in (kept_names removal m) (name_of m t.name_id))
      by_case None e =
          let out : length m.sources ≤ t.src_id =
          unnamed m.sources t.src_id (sym (slice_get-map (resolved m.root) m.sources t.src_id) ∙ e) in
          let bare = within out in
          let none : name_of m t.name_id ≡ None = slice_get_past m.names t.name_id bare.3 in
          (ap (number_in (used_sources m)) e, bare.1, bare.2, rw none (few_kept removal.with_names))
        where
          unnamed : (xs : List (List ℕ)) (i : ℕ) → option_map (resolved m.root) (slice_get xs i) ≡ None → length xs ≤ i
          unnamed [] i h = omega arith
          unnamed (x ∷ xs) zero h = cc
          unnamed (x ∷ xs) (suc i) h = let rest = unnamed xs i h in omega arith
      by_case (Some text) e =
          let here = subst (IsListedIfAny (used_sources m)) e kept.0 in
          let numbered : number_in (used_sources m) (source_of m t.src_id) ≡ here.0 =
          number-of (used_sources m) (source_of m t.src_id) text here.0 e here.1 in
          let below =
          slice_get_within (used_sources m) here.0 text (slice_get-id_of text (used_sources m) here.0 here.1) in
          absurd (omega (arith, many, numbered, below, past))

  pub well_rewritten : IsWellFormed m → IsWellFormed (rewritten removal m)
  well_rewritten well =
      All-map (IsWithin (length (rewritten removal m).sources) (length (rewritten removal m).names))
      (renumbered removal m) m.tokens
      (All-weaker (λ t. IsKept m t × IsWithin (length m.sources) (length m.names) t) _ within-rewritten m.tokens
      (All-both (IsKept m) (IsWithin (length m.sources) (length m.names)) m.tokens (all_tokens_kept m) well))

-- Options that leave every meaning unchanged.

pub cut-nothing : (text : Option (List ℕ)) → option_map (without_prefix []) text ≡ text
cut-nothing None = refl
cut-nothing (Some text) = refl

nothing-taken : (removal : Removal) (m : MapValue) → LeavesMeaning removal → (o : Option Meaning)
    → option_map (without_removed removal m) o ≡ o
nothing-taken removal m (names, prefixes) None = refl
nothing-taken removal m (names, prefixes) (Some says) = ap Some (λ i. record {
  source = (ap (λ ps. option_map (without_prefix (all_prefixes ps m.sources)) says.source) prefixes
      ∙ cut-nothing says.source) i;
  line = says.line;
  column = says.column;
  name = cond (names i) says.name None;
  is_range = says.is_range;
})

pub means_the_same : (m new : MapValue) (removal : Removal) → LeavesMeaning removal → MeansLess removal m new
    → MeansTheSame new m
means_the_same m new removal leaves less p = less p ∙ nothing-taken removal m leaves (meaning m p)

-- With contents loaded.

-- contents do not affect the meaning
with_contents : (m : MapValue) (contents : List (Option (List ℕ))) (p : ℕ × ℕ)
    → meaning (record m { contents = contents }) p ≡ meaning m p
unfolding of_item
with_contents m contents p = meaning-item (record m { contents = contents }) p ∙ sym (meaning-item m p)

module _ (options : RewriteOptions) (m new : MapValue) (few_sources : length m.sources ≤ 4294967295)
    (few_names : length m.names ≤ 4294967295)
    (is : Rewrites options m (Ok new)) where
  others : SameButContents new (rewritten (removal_of options) m)
  others = but_contents options m new is

  pub result_means_less : MeansLess (removal_of options) m new
  result_means_less p =
      sym (with_contents new (rewritten (removal_of options) m).contents p)
      ∙ ap (λ n. meaning n p) others ∙ means_less m (removal_of options) few_sources few_names p

  pub result_reduced : TokensMeanLess (removal_of options) m new
  result_reduced = subst (TokensMeanLess (removal_of options) m) (sym others) (all_reduced m
      (removal_of options) few_sources few_names)

  pub result_well_formed : IsWellFormed m → IsWellFormed new
  result_well_formed well =
      subst IsWellFormed (sym others) (well_rewritten m (removal_of options) few_sources few_names well)
