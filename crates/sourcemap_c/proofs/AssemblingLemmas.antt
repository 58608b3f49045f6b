-- What a handle holds after a call that empties it.
use Rattle.std.proofs.Common.{◌≡◌, ◌≢◌, ◌⊎◌, ℕ, Option, None, Result, Ok, Err, inl, inr, subst}
use Rattle.sourcemap_errors.specs.declared.errors.Error.TheVariants.{OutOfMemory}
use Rattle.sourcemap_c_handles.specs.Errors.{Finishes, Reports}
use Rattle.sourcemap_c_handles.specs.declared.errors.ErrorReport.{ErrorReport}
use Rattle.sourcemap_c_handles.specs.declared.errors.Failure.{Failure}
use Rattle.sourcemap_c_handles.specs.declared.errors.Failure.TheVariants.{Library}
use Rattle.sourcemap_c_handles.specs.declared.held.Held.{Held}
use Rattle.sourcemap_c_handles.proofs.ErrorsLemmas.{reports_positive}
use Rattle.sourcemap_c.specs.Assembling.{Empties}

code_of_memory : (code : ℕ) (old new : ErrorReport) → Reports (Library OutOfMemory) code old new → code ≡ 20
code_of_memory code old new (inl own) = own.0
code_of_memory code old new (inr other) = other.0

memory_code : (failure : Failure) (code : ℕ) (old new : ErrorReport) → failure ≡ Library OutOfMemory → Reports failure code old new → code ≡ 20
memory_code failure code old new is reports =
    let P : Failure → Type 0 = λ f. Reports f code old new in
    code_of_memory code old new (subst P is reports)

pub emptied : {T : Type 0} (result : Result T Failure) (code : ℕ) (old new : ErrorReport) (before after : Option Held)
    → Finishes result code old new → Empties result before after → code ≡ 0 → after ≡ None
emptied (Ok _) code old new before after is empties zero = empties
emptied (Err failure) code old new before after is empties zero = absurd (reports_positive failure code old new is zero)

pub refused : {T : Type 0} (result : Result T Failure) (code : ℕ) (old new : ErrorReport) (before after : Option Held)
    → Finishes result code old new → Empties result before after → code ≢ 0 → (after ≡ before) ⊎ ((code ≡ 20) × (after ≡ None))
refused (Ok _) code old new before after is empties positive = absurd (positive is.0)
refused (Err failure) code old new before after is (inl kept) positive = inl kept
refused (Err failure) code old new before after is (inr lost) positive = inr (memory_code failure code old new lost.0 is, lost.1)
