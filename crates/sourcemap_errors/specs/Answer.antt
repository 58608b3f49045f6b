-- What a call may return. Each definition also allows the error `OutOfMemory`.
use Rattle.std.specs.Prelude.{◌≡◌, Result, Ok, Err, MatchResult}
use Rattle.sourcemap_errors.specs.declared.errors.Error.{Error}
use Rattle.sourcemap_errors.specs.declared.errors.Error.TheVariants.{OutOfMemory}

-- true for the error `OutOfMemory`; `P` for any other error
abbrev pub UnlessMemory : Error → Type 0 → Type 0
UnlessMemory OutOfMemory P = Unit {0}
UnlessMemory _ P = P

-- the result, mapped by `view`, is `due`, unless memory ran out
abbrev pub Gives : {X Y : Type 0} → (X → Y) → Result X Error → Result Y Error → Type 0
Gives view (Ok x) due = due ≡ Ok (view x)
Gives view (Err e) due = UnlessMemory e (due ≡ Err e)

-- for `Ok x`, `Answers` holds for `Ok (view x)`; for `Err e`, `Answers` holds for `Err e`, or `e` is `OutOfMemory`
abbrev pub IsAnswer : {X Y : Type 0} → (X → Y) → (Result Y Error → Type 0) → Result X Error → Type 0
IsAnswer view Answers (Ok x) = Answers (Ok (view x))
IsAnswer view Answers (Err e) = UnlessMemory e (Answers (Err e))

-- on success the new value is `due`; otherwise memory ran out and the value is unchanged
abbrev pub Changes : {T X : Type 0} → Result T Error → (old new due : X) → Type 0
Changes result old new due = MatchResult result (λ _. new ≡ due) (λ e. (new ≡ old) × (e ≡ OutOfMemory))
