-- What a lookup finds, and what many lookups write, one after another.
use Rattle.std.proofs.Common.{◌≡◌, ◌≢◌, ◌≤◌, ◌<◌, ◌+◌, ◌∙◌, ℕ, zero, suc, List, [], ◌∷◌, Option, Some, None, IfSome, MatchOption, option_map, ap, arith, get_or, length, refl, slice_get, slice_set, subst, sym, inl, inr}
use Rattle.std.proofs.lemmas.Bool.{cases_eq}
use Rattle.std.proofs.lemmas.Option.{slice_get-get_or}
use Rattle.sourcemap_compiled.specs.Lookup.{IsInOrder, IsNextTo, StartsAfter, answer_by, lookup}
use Rattle.sourcemap_compiled.specs.Numbers.{position_number}
use Rattle.sourcemap_compiled.specs.Stored.{token_value}
use Rattle.sourcemap_compiled.specs.declared.token.CompiledToken.{CompiledToken}
use Rattle.sourcemap_c_handles.specs.declared.layout.Found.{Found}
use Rattle.sourcemap_c_handles.specs.declared.layout.Position.{Position}
use Rattle.sourcemap_c_compiled.specs.Lookups.{AreAnswered, IsAnswer, IsAnswerTo, IsFound}

pub one_found : (bytes : List ℕ) (p : ℕ × ℕ) (token : CompiledToken)
    → (IsInOrder bytes → Some (token_value token) ≡ lookup bytes p)
    → token_value token ≡ answer_by bytes p token.index → IsNextTo bytes (position_number p) token.index
    → IsFound bytes p (Some (token_value token))
one_found bytes p token closest own next = record { closest = closest; near = (own, next) }

pub is_found : (bytes : List ℕ) (p : ℕ × ℕ) (token : Option CompiledToken)
    → (IsInOrder bytes → option_map token_value token ≡ lookup bytes p)
    → IfSome token (λ t. token_value t ≡ answer_by bytes p t.index)
    → MatchOption token (StartsAfter bytes (position_number p)) (λ t. IsNextTo bytes (position_number p) t.index)
    → IsFound bytes p (option_map token_value token)
is_found bytes p None closest own next = record { closest = closest; near = next }
is_found bytes p (Some token) closest own next = one_found bytes p token closest own next

-- the item that was set, and the others
pub set_here : {X : Type 0} (xs : List X) (i : ℕ) (x : X) → i < length xs → slice_get (slice_set xs i x) i ≡ Some x
set_here [] i x less = absurd (omega arith)
set_here (y ∷ xs) zero x less = refl
set_here (y ∷ xs) (suc i) x less = set_here xs i x (omega arith)

pub set_other : {X : Type 0} (xs : List X) (i k : ℕ) (x : X) → k ≢ i → slice_get (slice_set xs i x) k ≡ slice_get xs k
set_other [] i k x other = refl
set_other (y ∷ xs) zero zero x other = absurd (other refl)
set_other (y ∷ xs) zero (suc k) x other = refl
set_other (y ∷ xs) (suc i) zero x other = refl
set_other (y ∷ xs) (suc i) (suc k) x other = set_other xs i k x (λ same. other (ap suc same))

-- one answer more
pub answered_more : (bytes : List ℕ) (positions : List Position) (found : List Found) (i : ℕ) (spare : Position)
    (one : Found) → i < length positions → i < length found → IsAnswer bytes (get_or positions i spare) one
    → AreAnswered bytes positions found i → AreAnswered bytes positions (slice_set found i one) (i + 1)
answered_more bytes positions found i spare one inside less answer before k below = elim (cases_eq k i) [
  | inl here ↦
      subst (λ j. IsAnswerTo bytes (slice_get positions j) (slice_get (slice_set found i one) j)) (sym here)
      (subst (λ o. IsAnswerTo bytes o (slice_get (slice_set found i one) i)) (sym (slice_get-get_or positions i spare inside))
      (subst (λ o. IsAnswerTo bytes (Some (get_or positions i spare)) o) (sym (set_here found i one less)) answer))
  | inr other ↦
      subst (λ o. IsAnswerTo bytes (slice_get positions k) o) (sym (set_other found i k one other))
      (before k (omega arith))
]

-- the items from `n` on are as they were
pub kept_more : (old found : List Found) (i : ℕ) (one : Found)
    → ((k : ℕ) → i ≤ k → slice_get found k ≡ slice_get old k)
    → (k : ℕ) → i + 1 ≤ k → slice_get (slice_set found i one) k ≡ slice_get old k
kept_more old found i one kept k from =
    set_other found i k one (λ same. absurd (omega arith)) ∙ kept k (omega arith)
