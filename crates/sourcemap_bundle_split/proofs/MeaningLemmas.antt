-- The map of a module and the flat map give a position in the module's text the same meaning. This holds if the flat
-- map's closest token is in the module's text too, and the flat map has at most 4294967295 sources and at most
-- 4294967295 names.
use Rattle.std.proofs.Common.{◌≡◌, ◌∙◌, refl, sym, ap, subst, ℕ, ◌+◌, ◌-◌, ◌<◌, ◌≤◌, ◌==◌, ◌&&◌, List, [], ◌∷◌, length}
use Rattle.std.proofs.Common.{map, filter, Bool, true, false, cond, not, Option, Some, None, option_map}
use Rattle.std.proofs.Common.{unwrap_or, slice_get, arith}
use Rattle.std.specs.List.{AllByRecursion}
use Rattle.std.specs.Ordering.{is_lt, is_eq, nat_cmp, ordering_then}
use Rattle.std.specs.declared.cmp.Ordering.{Ordering}
use Rattle.std.specs.declared.cmp.Ordering.TheVariants.{Less, Equal, Greater}
use Rattle.std.proofs.lemmas.List.{length-map}
use Rattle.std.proofs.lemmas.Bool.Decides.{nat_tests}
use Rattle.std.proofs.lemmas.Option.{slice_get-map}
use Rattle.sourcemap_tokens.specs.Search.{closest_item}
use Rattle.sourcemap_tokens.specs.Tokens.{destination, position_cmp, no_id}
use Rattle.sourcemap_tokens.specs.declared.tokens.RawToken.{RawToken}
use Rattle.sourcemap_map_parts.specs.Sources.{resolved}
use Rattle.sourcemap_map_parts.proofs.SourcesLemmas.{map-resolved_against_nothing}
use Rattle.sourcemap_map_regular.specs.Map.{MapValue, Meaning, column_after, meaning, meaning_of, distance}
use Rattle.sourcemap_map_regular.specs.Map.{resolved_sources, source_of, name_of}
use Rattle.sourcemap_map_regular.proofs.MapLemmas.{of_item, meaning-item}
use Rattle.sourcemap_bundle_split.specs.ModuleMap.{is_in, lowered_to, module_map, moved_by, names_in, number_of}
use Rattle.sourcemap_bundle_split.specs.ModuleMap.{sources_in, texts_at, tokens_in, used_ids}
use Rattle.sourcemap_bundle_split.proofs.ClosestLemmas.{closest-among, closest-filter, closest-map, KeepsOrder}
use Rattle.sourcemap_bundle_split.proofs.LoweredLemmas.{cmp-relative_position, in-later, same-relative_position}
use Rattle.sourcemap_bundle_split.proofs.NumberLemmas.{text_by_number}
use Rattle.sourcemap_line_index.proofs.LineIndexLemmas.{eq_from_is_eq}

orders : (line : ℕ) (end p : ℕ × ℕ) (sources names : List ℕ) (tokens : List RawToken) → line ≤ p.0
    → AllByRecursion (KeepsOrder (moved_by line sources names) destination destination position_cmp p
    (lowered_to line p)) (tokens_in line end tokens)
orders line end p sources names [] later = tt
orders line end p sources names (t ∷ tokens) later =
    by_cases (is_in line end (destination t)) refl (orders line end p sources names tokens later)
  where
    by_cases : (b : Bool) → is_in line end (destination t) ≡ b
        → AllByRecursion (KeepsOrder (moved_by line sources names) destination destination position_cmp p
        (lowered_to line p)) (tokens_in line end tokens)
        → AllByRecursion (KeepsOrder (moved_by line sources names) destination destination position_cmp p
        (lowered_to line p)) (tokens_in line end (t ∷ tokens))
    by_cases true b rest = rw b (
      ap (λ o. ordering_then o (nat_cmp t.dst_col p.1))
          (cmp-relative_position t.dst_line p.0 line (in-later line end (destination t) b) later),
      rest,
    )
    by_cases false b rest = rw b rest

distance-relative_position : (line : ℕ) (p : ℕ × ℕ) (sources names : List ℕ) (t : RawToken) → line ≤ t.dst_line
    → line ≤ p.0
    → distance (moved_by line sources names t) (lowered_to line p) ≡ distance t p
distance-relative_position line p sources names t from later =
    rw (same-relative_position t.dst_line p.0 line from later) refl

is_eq-then : (o u : Ordering) → is_eq (ordering_then o u) ≡ true → (is_eq o ≡ true) × (is_eq u ≡ true)
is_eq-then Less u e = cc
is_eq-then Equal u e = (refl, e)
is_eq-then Greater u e = cc

-- a position that compares equal to one in a range is in the range
at-in : (line : ℕ) (end p q : ℕ × ℕ) → is_in line end p ≡ true → is_eq (position_cmp q p) ≡ true
    → is_in line end q ≡ true
at-in line end p q inside same =
    let both = is_eq-then (nat_cmp q.0 p.0) (nat_cmp q.1 p.1) same in
    let lines : q.0 ≡ p.0 = eq_from_is_eq q.0 p.0 both.0 in
    let columns : q.1 ≡ p.1 = eq_from_is_eq q.1 p.1 both.1 in
    rw (lines, columns) inside

module _ (flat : MapValue) (name : List ℕ) (line : ℕ) (end p : ℕ × ℕ) (t : RawToken)
    (few_sources : length flat.sources ≤ 4294967295) (few_names : length flat.names ≤ 4294967295)
    (inside : is_in line end p ≡ true) (closest : closest_item destination position_cmp flat.tokens p ≡ Some t)
    (within : is_in line end (destination t) ≡ true) where
  abbrev new : MapValue
  new = module_map flat name line end

  abbrev tokens : List RawToken
  tokens = tokens_in line end flat.tokens

  abbrev moved : RawToken → RawToken
  moved = moved_by line (sources_in flat line end) (names_in flat line end)

  later : line ≤ p.0
  later = in-later line end p inside

  kept : closest_item destination position_cmp tokens p ≡ Some t
  kept = closest-filter destination position_cmp p (λ t. is_in line end (destination t)) flat.tokens t
      (λ x e. at-in line end p (destination x) inside e) closest within

  found : closest_item destination position_cmp new.tokens (lowered_to line p) ≡ Some (moved t)
  found = closest-map moved destination destination position_cmp p (lowered_to line p) tokens
      (orders line end p (sources_in flat line end) (names_in flat line end) flat.tokens later)
      ∙ ap (option_map moved) kept

  found_at : (k : ℕ) × (slice_get tokens k ≡ Some t)
  found_at = closest-among destination position_cmp p tokens t kept

  source_id : slice_get (map (λ (t : RawToken). t.src_id) tokens) found_at.0 ≡ Some t.src_id
  source_id = slice_get-map (λ (t : RawToken). t.src_id) tokens found_at.0
      ∙ ap (option_map (λ (t : RawToken). t.src_id)) found_at.1

  name_id : slice_get (map (λ (t : RawToken). t.name_id) tokens) found_at.0 ≡ Some t.name_id
  name_id = slice_get-map (λ (t : RawToken). t.name_id) tokens found_at.0
      ∙ ap (option_map (λ (t : RawToken). t.name_id)) found_at.1

  few_resolved : length (resolved_sources flat) ≤ 4294967295
  few_resolved = omega (arith, length-map flat.sources (resolved flat.root))

  source_text : slice_get new.sources (moved t).src_id ≡ source_of flat t.src_id
  source_text =
      subst (λ n. slice_get (texts_at (resolved_sources flat) (used_ids n (map (λ (t : RawToken). t.src_id) tokens)))
      (unwrap_or (number_of (used_ids n (map (λ (t : RawToken). t.src_id) tokens)) t.src_id) no_id)
      ≡ source_of flat t.src_id)
      (length-map flat.sources (resolved flat.root))
      (text_by_number (resolved_sources flat)
      (map (λ (t : RawToken). t.src_id) tokens) found_at.0 t.src_id few_resolved source_id)

  source_same : source_of new (moved t).src_id ≡ source_of flat t.src_id
  source_same =
      ap (λ texts. slice_get texts (moved t).src_id) (map-resolved_against_nothing [] new.sources refl) ∙ source_text

  name_same : name_of new (moved t).name_id ≡ name_of flat t.name_id
  name_same =
      text_by_number flat.names (map (λ (t : RawToken). t.name_id) tokens) found_at.0 t.name_id few_names name_id

  distance_same : distance (moved t) (lowered_to line p) ≡ distance t p
  distance_same = distance-relative_position line p (sources_in flat line end) (names_in flat line end) t
      (in-later line end (destination t) within) later

  abbrev meaning_by : Option (List ℕ) → Option (List ℕ) → ℕ → Meaning
  meaning_by source name distance = record {
    source = source;
    line = t.src_line;
    column = column_after t.src_col distance;
    name = name;
    is_range = t.is_range;
  }

  says_same : meaning_of new (moved t) (distance (moved t) (lowered_to line p)) ≡ meaning_of flat t (distance t p)
  says_same =
      ap
      (λ source. meaning_by source (name_of new (moved t).name_id) (distance (moved t) (lowered_to line p))) source_same
      ∙ ap (λ name. meaning_by (source_of flat t.src_id) name (distance (moved t) (lowered_to line p))) name_same
      ∙ ap (meaning_by (source_of flat t.src_id) (name_of flat t.name_id)) distance_same

  -- let the flat map have at most 4294967295 sources and at most 4294967295 names. If `p` and its closest token are in
  -- the module's text, `lowered_to line p` has the meaning in the module's map that `p` has in the flat map
  pub module_meaning : meaning new (lowered_to line p) ≡ meaning flat p
  unfolding of_item
  module_meaning =
      meaning-item new (lowered_to line p) ∙ ap (of_item new (lowered_to line p)) found ∙ ap Some says_same
      ∙ sym (meaning-item flat p ∙ ap (of_item flat p) closest)
