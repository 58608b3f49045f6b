-- Consequences of `Gives view result (Ok due)`: `view` maps a returned value to `due`; the only error is `OutOfMemory`.
use Rattle.std.specs.Prelude.{◌≡◌, Result, Ok, Err, IfErr, IfOk}
use Rattle.std.proofs.Common.{ap, refl, sym}
use Rattle.sourcemap_errors.specs.Answer.{UnlessMemory, Gives}
use Rattle.sourcemap_errors.specs.declared.errors.Error.{Error}
use Rattle.sourcemap_errors.specs.declared.errors.Error.TheVariants.{OutOfMemory}

abbrev value_in : {Y : Type 0} → Y → Result Y Error → Y
value_in other (Ok y) = y
value_in other (Err _) = other

pub Gives-given : {X Y : Type 0} (view : X → Y) (due : Y) (result : Result X Error) → Gives view result (Ok due)
    → IfOk result (λ x. view x ≡ due)
Gives-given view due (Ok x) h = sym (ap (value_in due) h)
Gives-given view due (Err e) h = tt

only_memory : (e : Error) (Y : Type 0) (due : Y) → UnlessMemory e (Ok due ≡ Err e) → e ≡ OutOfMemory
only_memory OutOfMemory Y due h = refl
only_memory _ Y due h = absurd (let no = h in cc)

pub Gives-memory : {X Y : Type 0} (view : X → Y) (due : Y) (result : Result X Error) → Gives view result (Ok due)
    → IfErr result (λ e. e ≡ OutOfMemory)
Gives-memory view due (Ok x) h = tt
Gives-memory {Y = Y} view due (Err e) h = only_memory e Y due h
