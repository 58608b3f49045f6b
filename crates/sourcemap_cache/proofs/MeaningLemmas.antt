-- The parts that a map is compiled to mean what the map means.
use Rattle.std.proofs.Common.{◌≡◌, refl, sym, ap, subst, ◌∙◌, ℕ, zero, suc, ◌+◌, ◌-◌, List, [], ◌∷◌, drop, fold, map}
use Rattle.std.proofs.Common.{◌==◌, if◌then◌else◌, false, unwrap_or, zero-add}
use Rattle.std.proofs.Common.{get_or, slice_get, Some, None, Option, option_map, option_and_then, IfSome, arith}
use Rattle.std.specs.List.{enumerate_from}
use Rattle.std.proofs.lemmas.Bool.Decides.{nat_tests}
use Rattle.std.proofs.lemmas.Option.{get_or_from_slice_get, slice_get-map}
use Rattle.sourcemap_compiled.specs.Lookup.{CompiledMeaning}
use Rattle.sourcemap_compiled_write.specs.Meaning.{parts_meaning, scope_in}
use Rattle.sourcemap_compose.specs.Moved.{distance}
use Rattle.sourcemap_hermes.specs.Map.{HermesValue, token_scope}
use Rattle.sourcemap_interning.specs.Interner.{id_of, with_text}
use Rattle.sourcemap_interning.proofs.InternerLemmas.{slice_get-id_of}
use Rattle.sourcemap_map_regular.specs.Map.{MapValue, TokenValue, meaning, meaning_of, resolved_sources}
use Rattle.sourcemap_map_regular.specs.Token.{tokens_from}
use Rattle.sourcemap_map_rewrite.specs.Kept.{present}
use Rattle.sourcemap_tokens.specs.Items.{item_at}
use Rattle.sourcemap_tokens.specs.Tokens.{closest_token, destination, position_cmp}
use Rattle.sourcemap_tokens.specs.declared.tokens.RawToken.{RawToken}
use Rattle.sourcemap_tokens.proofs.SearchLemmas.{index-closest}
use Rattle.sourcemap_index_model.specs.MapTree.{hermes, leaf}
use Rattle.sourcemap_cache.specs.Compile.{hermes_parts, parts_with}
use Rattle.sourcemap_cache.specs.Meaning.{closest_scope, compiled, without_scope}
use Rattle.sourcemap_cache.specs.Scopes.{scope_names, scope_number, scope_numbers, token_scopes, with_scope}
use Rattle.sourcemap_cache.specs.declared.parts.WithContents.{WithContents}
use Rattle.sourcemap_cache.proofs.ScopesLemmas.{id_of-added, id_of-more, names_after}

-- Texts by id.

present_item : (text : Option (List ℕ)) → option_and_then (λ item. item) (option_map Some text) ≡ text
present_item None = refl
present_item (Some text) = refl

item_at-present : (texts : List (List ℕ)) (id : ℕ) → item_at (map Some texts) id ≡ slice_get texts id
item_at-present texts id =
    ap (option_and_then (λ item. item)) (slice_get-map Some texts id) ∙ present_item (slice_get texts id)

-- Meanings without scopes.

module _ (choice : WithContents) (m : MapValue) (scopes : List ℕ) (names : List (List ℕ)) (p : ℕ × ℕ) where
  -- the meaning that a token of the parts gives to the position
  abbrev pub said : ℕ × RawToken → CompiledMeaning
  said found =
      compiled (scope_in (parts_with choice m scopes names) found.0) (meaning_of m found.1 (distance found.1 p))

  pub parts_say : parts_meaning (parts_with choice m scopes names) p ≡ option_map said (closest_token m.tokens p)
  parts_say = by_case (closest_token m.tokens p) refl
    where
      by_case : (o : Option (ℕ × RawToken)) → closest_token m.tokens p ≡ o
          → parts_meaning (parts_with choice m scopes names) p ≡ option_map said (closest_token m.tokens p)
      by_case None e = rw e refl
      by_case (Some found) e =
          rw (e, item_at-present (resolved_sources m) found.1.src_id, item_at-present m.names found.1.name_id) refl

  pub parts_mean : option_map without_scope (parts_meaning (parts_with choice m scopes names) p)
      ≡ option_map (compiled None) (meaning m p)
  parts_mean = ap (option_map without_scope) parts_say ∙ by_case (closest_token m.tokens p) refl
    where
      by_case : (o : Option (ℕ × RawToken)) → closest_token m.tokens p ≡ o
          → option_map without_scope (option_map said (closest_token m.tokens p))
          ≡ option_map (compiled None) (meaning m p)
      by_case None e = rw e refl
      by_case (Some found) e = rw e refl

-- Scopes.

slice_get-enumerate_from : {X : Type 0} (start : ℕ) (xs : List X) (i : ℕ) (x : X) → slice_get xs i ≡ Some x
    → slice_get (enumerate_from start xs) i ≡ Some (start + i, x)
slice_get-enumerate_from start [] i x e = cc
slice_get-enumerate_from start (y ∷ ys) zero x e =
    let here : start + 0 ≡ start = omega arith in
    rw here (ap (option_map (λ item. (start, item))) e)
slice_get-enumerate_from start (y ∷ ys) (suc i) x e =
    let there : start + 1 + i ≡ start + suc i = omega arith in
    subst (λ n. slice_get (enumerate_from (start + 1) ys) i ≡ Some (n, x)) there
    (slice_get-enumerate_from (start + 1) ys i x e)

-- a scope of a token is one of the names
named : (names : List (List ℕ)) (scopes : List (Option (List ℕ))) (i : ℕ) (name : List ℕ)
    → slice_get scopes i ≡ Some (Some name)
    → (id : ℕ) × (id_of name (fold with_text names (present scopes)) ≡ Some id)
named names [] i name e = cc
named names (scope ∷ scopes) zero name e =
    let same : scope ≡ Some name = cc in
    let added = id_of-added names name in
    (added.0, rw same (id_of-more (with_text names name) (present scopes) name added.0 added.1))
named names (scope ∷ scopes) (suc i) name e =
    let later = named (with_scope names scope) scopes i name e in
    (later.0, rw (names_after names scope scopes) later.1)

by_number : (number id : ℕ) (names : List (List ℕ)) → number ≡ id + 1
    → (if number == 0 then None else item_at (map Some names) (number - 1)) ≡ slice_get names id
by_number number id names e =
    let some : (number == 0) ≡ false = grind (arith, nat_tests) in
    let back : number - 1 ≡ id = omega arith in
    rw (some, back) (item_at-present names id)

module _ (choice : WithContents) (h : HermesValue) (i : ℕ) (t : RawToken) (own : slice_get h.map.tokens i ≡ Some t) where
  abbrev token : TokenValue
  token = record { map_of = h.map; raw = t; index = i; extra_columns = 0 }

  scope_at : slice_get (token_scopes h) i ≡ Some (token_scope h.scopes token)
  scope_at =
      let entry : slice_get (enumerate_from 0 h.map.tokens) i ≡ Some (i, t) =
      subst (λ n. slice_get (enumerate_from 0 h.map.tokens) i ≡ Some (n, t)) (zero-add i)
      (slice_get-enumerate_from 0 h.map.tokens i t own) in
      let same : slice_get (tokens_from h.map 0) i ≡ Some token =
      slice_get-map (λ entry. record { map_of = h.map; raw = entry.1; index = entry.0; extra_columns = 0 })
      (enumerate_from 0 (drop 0 h.map.tokens)) i
      ∙ ap (option_map (λ entry. record { map_of = h.map; raw = entry.1; index = entry.0; extra_columns = 0 })) entry in
      slice_get-map (token_scope h.scopes) (tokens_from h.map 0) i ∙ ap (option_map (token_scope h.scopes)) same

  number_at : get_or (scope_numbers h) i 0 ≡ scope_number (scope_names h) (token_scope h.scopes token)
  number_at =
      get_or_from_slice_get (scope_numbers h) i (scope_number (scope_names h) (token_scope h.scopes token)) 0
      (slice_get-map (scope_number (scope_names h)) (token_scopes h) i
      ∙ ap (option_map (scope_number (scope_names h))) scope_at)

  -- the number of the token's scope gives the name back
  pub scope_of_token : scope_in (hermes_parts choice h) i ≡ token_scope h.scopes token
  scope_of_token = by_case (token_scope h.scopes token) refl
    where
      by_case : (scope : Option (List ℕ)) → token_scope h.scopes token ≡ scope
          → scope_in (hermes_parts choice h) i ≡ token_scope h.scopes token
      by_case None e = rw (number_at, e) refl
      by_case (Some name) e =
          let at : slice_get (token_scopes h) i ≡ Some (Some name) = scope_at ∙ ap Some e in
          let found = named [] (token_scopes h) i name at in
          let number : get_or (scope_numbers h) i 0 ≡ found.0 + 1 =
          number_at ∙ ap (scope_number (scope_names h)) e
          ∙ ap (λ id. unwrap_or (option_map (λ n. n + 1) id) 0) found.1 in
          by_number (get_or (scope_numbers h) i 0) found.0 (scope_names h) number
          ∙ slice_get-id_of name (scope_names h) found.0 found.1 ∙ sym e

pub hermes_mean : (choice : WithContents) (h : HermesValue) (p : ℕ × ℕ) → parts_meaning (hermes_parts choice h) p
    ≡ option_map (compiled (closest_scope (leaf (hermes h)) p)) (meaning h.map p)
hermes_mean choice h p =
    parts_say choice h.map (scope_numbers h) (scope_names h) p
    ∙ by_case (closest_token h.map.tokens p) refl (index-closest destination position_cmp h.map.tokens p)
  where
    by_case : (o : Option (ℕ × RawToken)) → closest_token h.map.tokens p ≡ o
        → IfSome (closest_token h.map.tokens p) (λ e. slice_get h.map.tokens e.0 ≡ Some e.1)
        → option_map (said choice h.map (scope_numbers h) (scope_names h) p) (closest_token h.map.tokens p)
        ≡ option_map (compiled (closest_scope (leaf (hermes h)) p)) (meaning h.map p)
    by_case None e own = rw e refl
    by_case (Some found) e own =
        let at : slice_get h.map.tokens found.0 ≡ Some found.1 = rw e at own in
        let scope = scope_of_token choice h found.0 found.1 at in
        rw (e, scope) refl
