-- Names of scopes keep their numbers as names are added.
use Rattle.std.proofs.Common.{◌≡◌, refl, sym, ap, ◌∙◌, ℕ, suc, ◌+◌, ◌<◌, ◌≤◌, List, [], ◌∷◌, ◌++◌, fold, length}
use Rattle.std.proofs.Common.{Some, None, Option, arith, append_assoc, drop, map, subst}
use Rattle.std.specs.List.{enumerate_from}
use Rattle.std.proofs.lemmas.List.{length_push, length-map}
use Rattle.std.proofs.lemmas.List.FromFn.{length-enumerate_from}
use Rattle.std.proofs.lemmas.Option.{slice_get_within}
use Rattle.sourcemap_interning.specs.Interner.{id_of, with_text}
use Rattle.sourcemap_interning.proofs.InternerLemmas.{id_of-last, slice_get-id_of}
use Rattle.sourcemap_map_rewrite.specs.Kept.{present}
use Rattle.sourcemap_map_rewrite.proofs.NumberingLemmas.{id_of-with_text}
use Rattle.sourcemap_hermes.specs.Map.{HermesValue, token_scope}
use Rattle.sourcemap_map_regular.specs.Map.{MapValue}
use Rattle.sourcemap_map_regular.specs.Token.{TokenValue, tokens_from}
use Rattle.sourcemap_cache.specs.Scopes.{scope_names, scope_number, scope_numbers, with_scope}

pub id_of-more : (names more : List (List ℕ)) (text : List ℕ) (n : ℕ) → id_of text names ≡ Some n
    → id_of text (fold with_text names more) ≡ Some n
id_of-more names [] text n e = e
id_of-more names (next ∷ more) text n e =
    id_of-more (with_text names next) more text n (id_of-with_text names next text n e)

-- a name has a number once it is added
pub id_of-added : (names : List (List ℕ)) (text : List ℕ) → (n : ℕ) × (id_of text (with_text names text) ≡ Some n)
id_of-added names text = by_case (id_of text names) refl
  where
    by_case : (o : Option ℕ) → id_of text names ≡ o → (n : ℕ) × (id_of text (with_text names text) ≡ Some n)
    by_case None e = (length names, rw e (id_of-last names text (length names) refl e))
    by_case (Some n) e = (n, rw e e)

-- the number of a scope is final
pub scope_number-more : (names : List (List ℕ)) (scope : Option (List ℕ)) (more : List (List ℕ))
    → scope_number (fold with_text (with_scope names scope) more) scope ≡ scope_number (with_scope names scope) scope
scope_number-more names None more = refl
scope_number-more names (Some text) more =
    let added = id_of-added names text in
    let later = id_of-more (with_text names text) more text added.0 added.1 in
    rw (later, added.1) refl

pub names_after : (names : List (List ℕ)) (scope : Option (List ℕ)) (rest : List (Option (List ℕ)))
    → fold with_text names (present (scope ∷ rest)) ≡ fold with_text (with_scope names scope) (present rest)
names_after names None rest = refl
names_after names (Some text) rest = refl

pub length-with_scope : (names : List (List ℕ)) (scope : Option (List ℕ))
    → length (with_scope names scope) ≤ suc (length names)
length-with_scope names None = omega arith
length-with_scope names (Some text) = by_case (id_of text names) refl
  where
    by_case : (o : Option ℕ) → id_of text names ≡ o → length (with_text names text) ≤ suc (length names)
    by_case None e = rw (e, length_push names text) (omega arith)
    by_case (Some n) e = rw e (omega arith)

-- the number of a name that was added has 32 bits
pub number_fits : (old new : List (List ℕ)) (text : List ℕ) (id : ℕ) → length old < 4294967295
    → new ≡ with_text old text → id_of text new ≡ Some id → id + 1 < 4294967296
number_fits old new text id few is at =
    let within = slice_get_within new id text (slice_get-id_of text new id at) in
    let one : length (with_text old text) ≤ suc (length old) = length-with_scope old (Some text) in
    let same : length new ≡ length (with_text old text) = ap length is in
    omega (arith, within, one, same)

pub length-tokens_from : (m : MapValue) → length (tokens_from m 0) ≡ length m.tokens
length-tokens_from m =
    length-map (enumerate_from 0 (drop 0 m.tokens))
    (λ entry. record { map_of = m; raw = entry.1; index = entry.0; extra_columns = 0 })
    ∙ length-enumerate_from 0 (drop 0 m.tokens)

-- one more token: its scope, the names with this scope, and its number
module _ (h : HermesValue) (names next : List (List ℕ)) (left rest : List TokenValue) (token : TokenValue)
    (scope : Option (List ℕ)) (first : left ≡ token ∷ rest) (of_token : scope ≡ token_scope h.scopes token)
    (added : next ≡ with_scope names scope)
    (before : fold with_text names (present (map (token_scope h.scopes) left)) ≡ scope_names h) where
  pub names_step : fold with_text next (present (map (token_scope h.scopes) rest)) ≡ scope_names h
  names_step =
      ap (λ ns. fold with_text ns (present (map (token_scope h.scopes) rest)))
      (added ∙ ap (with_scope names) of_token)
      ∙ sym (names_after names (token_scope h.scopes token) (map (token_scope h.scopes) rest))
      ∙ subst (λ l. fold with_text names (present (map (token_scope h.scopes) l)) ≡ scope_names h) first before

  final_number : scope_number next scope ≡ scope_number (scope_names h) (token_scope h.scopes token)
  final_number =
      ap (λ ns. scope_number ns scope) added
      ∙ sym (scope_number-more names scope (present (map (token_scope h.scopes) rest)))
      ∙ ap (λ ns. scope_number (fold with_text ns (present (map (token_scope h.scopes) rest))) scope) (sym added)
      ∙ ap (λ ns. scope_number ns scope) names_step
      ∙ ap (scope_number (scope_names h)) of_token

  pub numbers_step : (numbers pushed : List ℕ) (number : ℕ) → pushed ≡ numbers ++ number ∷ []
      → number ≡ scope_number next scope
      → numbers ++ map (scope_number (scope_names h)) (map (token_scope h.scopes) left) ≡ scope_numbers h
      → pushed ++ map (scope_number (scope_names h)) (map (token_scope h.scopes) rest) ≡ scope_numbers h
  numbers_step numbers pushed number push is earlier =
      let later = map (scope_number (scope_names h)) (map (token_scope h.scopes) rest) in
      ap (λ ns. ns ++ later) push
      ∙ append_assoc numbers (number ∷ []) later
      ∙ ap (λ n. numbers ++ n ∷ later) (is ∙ final_number)
      ∙ subst (λ l. numbers ++ map (scope_number (scope_names h)) (map (token_scope h.scopes) l) ≡ scope_numbers h)
      first earlier
