-- Errors that are passed on.
use Rattle.std.proofs.Common.{◌≡◌, refl, Result, Ok, Err, IfErr, IsOkUnless}
use Rattle.std.proofs.lemmas.Result.{IfErr-weaker}
use Rattle.sourcemap.specs.Answer.{Gives, UnlessMemory}
use Rattle.sourcemap.specs.Encoder.{RecordAnswer}
use Rattle.sourcemap.specs.Types.{MapValue}
use Rattle.sourcemap.specs.declared.errors.Error.{Error}
use Rattle.sourcemap.specs.declared.errors.Error.TheVariants.{OutOfMemory}

pub unless_memory : (e : Error) (P Q : Type 0) → (P → Q) → UnlessMemory e P → UnlessMemory e Q
unless_memory OutOfMemory P Q f h = tt
unless_memory _ P Q f h = f h

pub never_due : {Y : Type 0} (due : Y) (e : Error) (Q : Type 0) → Ok due ≡ Err e → Q
never_due due e Q wrong = absurd (cc)

pub due_refused : {Y : Type 0} (due : Y) (e : Error) (Q : Type 0) → UnlessMemory e (Ok due ≡ Err e) → UnlessMemory e Q
due_refused due e Q h = unless_memory e (Ok due ≡ Err e) Q (never_due due e Q) h

pub never_refused : {X Y : Type 0} (view : X → Y) (due : Y) (r : Result X Error) (Q : Error → Type 0)
    → Gives view r (Ok due) → IfErr r (λ e. UnlessMemory e (Q e))
never_refused view due (Ok x) Q gave = tt
never_refused view due (Err e) Q gave = due_refused due e (Q e) gave

-- the only error of encoding a regular map as bytes is out of memory
pub unwritten : (m : MapValue) (e : Error) (P : Type 0) → UnlessMemory e (RecordAnswer m (Err e)) → UnlessMemory e P
unwritten m e P h = unless_memory e ⊥ P (λ never. absurd never) h

-- if every error but `OutOfMemory` is excluded, `e` is `OutOfMemory`
pub memory_alone : (e : Error) → UnlessMemory e ⊥ → e ≡ OutOfMemory
memory_alone OutOfMemory h = refl
memory_alone _ h = absurd h

-- if the only error of a call is out of memory, any claim about its other errors holds
pub memory_refused : {X : Type 0} (Q : Error → Type 0) (r : Result X Error) → IsOkUnless r OutOfMemory
    → IfErr r (λ e. UnlessMemory e (Q e))
memory_refused Q r h = IfErr-weaker r (λ e. e ≡ OutOfMemory) (λ e. UnlessMemory e (Q e)) (λ e is. rw is tt) h
