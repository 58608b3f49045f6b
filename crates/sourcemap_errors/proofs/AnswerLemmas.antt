-- Facts about what a call may return, where the error `OutOfMemory` is always allowed.
use Rattle.std.proofs.Common.{◌≡◌, Result, Ok, Err}
use Rattle.sourcemap_errors.specs.Answer.{UnlessMemory, Gives, IsAnswer}
use Rattle.sourcemap_errors.specs.declared.errors.Error.{Error}
use Rattle.sourcemap_errors.specs.declared.errors.Error.TheVariants.{OutOfMemory}

pub UnlessMemory-weaker : (e : Error) {P Q : Type 0} → (P → Q) → UnlessMemory e P → UnlessMemory e Q
UnlessMemory-weaker OutOfMemory f h = tt
UnlessMemory-weaker _ f h = f h

pub UnlessMemory-from : (e : Error) {P : Type 0} → P → UnlessMemory e P
UnlessMemory-from OutOfMemory h = tt
UnlessMemory-from _ h = h

-- let `answer` be the only result that `Answers` allows. If `IsAnswer view Answers result` holds, then `result` is the
-- error `OutOfMemory`, or mapping `result` by `view` gives `answer` (`Gives`)
pub Gives-only : {X Y : Type 0} (view : X → Y) (Answers : Result Y Error → Type 0)
    → ((a b : Result Y Error) → Answers a → Answers b → a ≡ b)
    → (result : Result X Error) → IsAnswer view Answers result
    → (answer : Result Y Error) → Answers answer → Gives view result answer
Gives-only view Answers same (Ok x) returned answer due = same answer (Ok (view x)) due returned
Gives-only view Answers same (Err e) returned answer due =
    UnlessMemory-weaker e (λ h. same answer (Err e) due h) returned
