-- How a walk along tokens finds the first token with a given identifier whose next token has the identifier `function`.
use Rattle.std.proofs.Common.{◌≡◌, refl, sym, ap, ◌∙◌, ℕ, zero, suc, ◌-◌, ◌<◌, ◌⊎◌, List, [], ◌∷◌, take, drop, true}
use Rattle.std.proofs.Common.{false, cond, Some, None, Option, option_map, arith, inl, inr, codes, is_some, true≢false}
use Rattle.std.proofs.lemmas.Bool.{cases_Bool}
use Rattle.std.proofs.lemmas.Option.{none-some}
use Rattle.std.specs.Option.{MatchOption, option_and_then}
use Rattle.sourcemap_source_views.specs.Identifiers.{is_text, token_at_start}
use Rattle.sourcemap_source_views.specs.Walk.{function_token}
use Rattle.sourcemap_source_views.specs.Walks.{tokens_from}

-- the result of `function_token` for the items that are left and the token right before them. The second argument is
-- this token if its identifier is `name`, otherwise `None`
abbrev pub found_after : {S : Type 0} → List ℕ → Option S → List (S × Option (List ℕ)) → Option S
found_after name None items = function_token name items
found_after name (Some token) [] = None
found_after name (Some token) (next ∷ items) =
    cond (is_text (codes "function") next.1) (Some token) (function_token name (next ∷ items))

-- `function_token` from `item` on equals `found_after` on the items after `item`. If the identifier of `item` is
-- `name`, `found_after` gets the token of `item`, and otherwise `None`
passed_called : {S : Type 0} (name : List ℕ) (item : S × Option (List ℕ)) (items : List (S × Option (List ℕ)))
    → is_text name item.1 ≡ true
    → function_token name (item ∷ items) ≡ found_after name (Some item.0) items
passed_called name item [] e = refl
passed_called name item (next ∷ items) e = rw e refl

passed_other : {S : Type 0} (name : List ℕ) (item : S × Option (List ℕ)) (items : List (S × Option (List ℕ)))
    → is_text name item.1 ≡ false
    → function_token name (item ∷ items) ≡ found_after name None items
passed_other name item [] e = refl
passed_other name item (next ∷ items) e = rw e refl

pub function_token-passed : {S : Type 0} (name : List ℕ) (item : S × Option (List ℕ))
    (items : List (S × Option (List ℕ)))
    → function_token name (item ∷ items) ≡ found_after name (cond (is_text name item.1) (Some item.0) None) items
function_token-passed name item items =
    elim (cases_Bool (is_text name item.1)) [
      | inl e ↦ rw e (passed_called name item items e)
      | inr e ↦ rw e (passed_other name item items e)
    ]

pub take-next : {X : Type 0} (n : ℕ) (x : X) (xs : List X) → 0 < n → take n (x ∷ xs) ≡ x ∷ take (n - 1) xs
take-next zero x xs l = absurd (omega arith)
take-next (suc n) x xs l = let e : n ≡ suc n - 1 = omega arith in ap (λ m. x ∷ take m xs) e

pub found_after-none : {S : Type 0} (name : List ℕ) (called : Option S) → found_after name called [] ≡ None
found_after-none name None = refl
found_after-none name (Some token) = refl

pub take-none : {X : Type 0} (n : ℕ) → take {A = X} n [] ≡ []
take-none zero = refl
take-none (suc n) = refl

not_fired : {S : Type 0} (name : List ℕ) (called : Option S) (item : S × Option (List ℕ))
    (items : List (S × Option (List ℕ))) → (called ≡ None) ⊎ (is_text (codes "function") item.1 ≡ false)
    → found_after name called (item ∷ items) ≡ function_token name (item ∷ items)
not_fired name None item items other = refl
not_fired name (Some token) item items (inl none) = absurd (none-some token (sym none))
not_fired name (Some token) item items (inr e) = rw e refl

-- if `called` is `None` or the identifier of `item` is not `function`, moving past `item` keeps the result `due`
pub found_after-passed : {S : Type 0} (name : List ℕ) (called : Option S) (item : S × Option (List ℕ))
    (left next : List (S × Option (List ℕ))) (n : ℕ) (due : Option S)
    → 0 < n → left ≡ item ∷ next
    → (called ≡ None) ⊎ (is_text (codes "function") item.1 ≡ false)
    → found_after name called (take n left) ≡ due
    → found_after name (cond (is_text name item.1) (Some item.0) None) (take (n - 1) next) ≡ due
found_after-passed name called item left next n due l e other was =
    let items_left : take n left ≡ item ∷ take (n - 1) next = ap (take n) e ∙ take-next n item next l in
    sym (function_token-passed name item (take (n - 1) next))
    ∙ sym (not_fired name called item (take (n - 1) next) other)
    ∙ ap (found_after name called) (sym items_left) ∙ was

pub none_seen : {T S : Type 0} (seen : T → S) (token : Option T) → is_some token ≡ false → option_map seen token ≡ None
none_seen seen None e = refl
none_seen seen (Some token) e = absurd (true≢false e)

pub some_seen : {T S : Type 0} (seen : T → S) (token : Option T) → is_some token ≡ true
    → is_some (option_map seen token) ≡ true
some_seen seen None e = absurd (true≢false (sym e))
some_seen seen (Some token) e = refl

-- let `due` be the result of `found_after` for `called` and the first `n` items of `left`, with `n` above 0. If
-- `called` is not `None`, and the identifier of the first item is `function`, then `due` is `called`
pub found_after-fired : {S : Type 0} (name : List ℕ) (called : Option S) (item : S × Option (List ℕ))
    (left next : List (S × Option (List ℕ))) (n : ℕ) (due : Option S)
    → 0 < n → left ≡ item ∷ next → is_some called ≡ true → is_text (codes "function") item.1 ≡ true
    → found_after name called (take n left) ≡ due → called ≡ due
found_after-fired name None item left next n due l e some fired was = absurd (true≢false (sym some))
found_after-fired name (Some token) item left next n due l e some fired was =
    let items_left : take n left ≡ item ∷ take (n - 1) next = ap (take n) e ∙ take-next n item next l in
    let here : found_after name (Some token) (item ∷ take (n - 1) next) ≡ Some token = rw fired refl in
    sym here ∙ sym (ap (found_after name (Some token)) items_left) ∙ was

-- writes the contract of `WalkedToken::previous` as one equation with `tokens_from`
pub tokens_before : {T S : Type 0} (seen : T → S) (before : T → List S) (token : Option T) (tokens : List S)
    → MatchOption token (tokens ≡ []) (λ t. tokens ≡ seen t ∷ before t) → tokens ≡ tokens_from seen before token
tokens_before seen before None tokens e = e
tokens_before seen before (Some token) tokens e = e

-- the identifier at a cursor stays the same if the line and the offset are first put into a pair, as in `identifier_at`
pub identifier_at_cursor : {X : Type 0} (line : X → List ℕ) (reached : X → Option ℕ) (cursor : Option X)
    → option_and_then (λ s. option_and_then (λ at. token_at_start (drop at (line s))) (reached s)) cursor
    ≡ option_and_then (λ (found : List ℕ × ℕ). token_at_start (drop found.1 found.0))
    (option_and_then (λ s. option_map (λ at. (line s, at)) (reached s)) cursor)
identifier_at_cursor line reached None = refl
identifier_at_cursor line reached (Some s) = at (reached s)
  where
    at : (o : Option ℕ) → option_and_then (λ n. token_at_start (drop n (line s))) o ≡ option_and_then
        (λ (found : List ℕ × ℕ). token_at_start (drop found.1 found.0)) (option_map (λ n. (line s, n)) o)
    at None = refl
    at (Some n) = refl
