-- The round trip: the contracts of writing and reading imply that reading restores a map, unless memory runs out.
use Rattle.std.proofs.Common.{◌≡◌, Result, Ok, Err, MatchResult, refl, subst}
use Rattle.sourcemap_errors.specs.declared.errors.Error.{Error}
use Rattle.sourcemap_errors.specs.declared.errors.Error.TheVariants.{OutOfMemory}
use Rattle.sourcemap_errors.specs.Answer.{UnlessMemory, Gives, IsAnswer}
use Rattle.sourcemap_errors.proofs.AnswerLemmas.{UnlessMemory-weaker}
use Rattle.sourcemap_map_regular.specs.Encode.{ReadsBack}
use Rattle.sourcemap_index.specs.Decode.{AreSame}

pub memory_alone : (e : Error) (P : Type 0) → ¬ P → UnlessMemory e P → e ≡ OutOfMemory
memory_alone OutOfMemory P never h = refl
memory_alone _ P never h = absurd (never h)

module _ {X Y : Type 0} (view : X → Y) where
  pub same_gives : (r : Result X Error) (back : Y) → Gives view r (Ok back) → IsAnswer view (AreSame (Ok back)) r
  same_gives (Ok x) back gave = cc
  same_gives (Err e) back gave = UnlessMemory-weaker e (λ wrong. cc) gave

  -- let `Answers` allow a value that satisfies `IsRestored`. Let `r`, mapped by `view`, equal each value that `Answers`
  -- allows, or let `r` be the error `OutOfMemory`. Then `r`, mapped by `view`, satisfies `IsRestored`, or `r` is the
  -- error `OutOfMemory`
  pub restored : (Answers : Result Y Error → Type 0) (IsRestored : Y → Type 0) (r : Result X Error)
      → ReadsBack Answers IsRestored
      → ((back : Y) → Answers (Ok back) → IsAnswer view (AreSame (Ok back)) r)
      → MatchResult r (λ x. IsRestored (view x)) (λ e. UnlessMemory e ⊥)
  restored Answers IsRestored (Ok x) back only = subst IsRestored (only back.0 back.1) back.2
  restored Answers IsRestored (Err e) back only = only back.0 back.1

-- `UnlessMemory e ⊥` means that `e` is `OutOfMemory`
pub but_for_memory : {X : Type 0} (P : X → Type 0) (r : Result X Error) → MatchResult r P (λ e. UnlessMemory e ⊥)
    → MatchResult r P (λ e. e ≡ OutOfMemory)
but_for_memory P (Ok x) h = h
but_for_memory P (Err e) h = memory_alone e ⊥ (λ never. never) h

-- let the value in `r` satisfy `P`, or let `r` be the error `OutOfMemory`. Then the value in `r` satisfies `P`, or `r`
-- is the error `OutOfMemory`, or `r` is an error that satisfies `Q`
pub but_for : {X : Type 0} (P : X → Type 0) (Q : Error → Type 0) (r : Result X Error)
    → MatchResult r P (λ e. UnlessMemory e ⊥)
    → MatchResult r P (λ e. UnlessMemory e (Q e))
but_for P Q (Ok x) h = h
but_for P Q (Err e) h = UnlessMemory-weaker e (λ never. absurd never) h
