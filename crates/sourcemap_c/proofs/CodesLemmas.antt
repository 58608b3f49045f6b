-- `UnlessMemory` and `Does` still hold when their conditions become weaker.
use Rattle.std.proofs.Common.{ℕ, Result, Ok, Err}
use Rattle.sourcemap_errors.specs.declared.errors.Error.TheVariants.{OutOfMemory}
use Rattle.sourcemap_c_handles.specs.Errors.{Finishes}
use Rattle.sourcemap_c_handles.specs.declared.errors.ErrorReport.{ErrorReport}
use Rattle.sourcemap_c_handles.specs.declared.errors.Failure.{Failure}
use Rattle.sourcemap_c_handles.specs.declared.errors.Failure.TheVariants.{Library, Absent, WrongKind, PastLimit}
use Rattle.sourcemap_c_handles.proofs.ErrorsLemmas.{reports_positive}
use Rattle.sourcemap_c.specs.Codes.{Answers, Does, NoError, OfLibrary, UnlessMemory}

unless_weaker : (failure : Failure) (P Q : Type 0) → (P → Q) → UnlessMemory failure P → UnlessMemory failure Q
unless_weaker (Library OutOfMemory) P Q f p = tt
unless_weaker (Library _) P Q f p = f p
unless_weaker Absent P Q f p = f p
unless_weaker WrongKind P Q f p = f p
unless_weaker PastLimit P Q f p = f p

pub weaker : {T : Type 0} (result : Result T Failure) (Done Done' : Type 0) (Due Due' : Failure → Type 0) (Kept Kept' : Type 0)
    → (Done → Done') → ((failure : Failure) → Due failure → Due' failure) → (Kept → Kept')
    → Does result Done Due Kept → Does result Done' Due' Kept'
weaker (Ok _) Done Done' Due Due' Kept Kept' done due kept does = done does
weaker (Err failure) Done Done' Due Due' Kept Kept' done due kept does =
    (unless_weaker failure (Due failure) (Due' failure) (due failure) does.0, kept does.1)

no_failure : (failure : Failure) (P : Type 0) → OfLibrary NoError failure → P
no_failure (Library _) P none = absurd none
no_failure Absent P none = absurd none
no_failure WrongKind P none = absurd none
no_failure PastLimit P none = absurd none

-- let `Does result Done (OfLibrary NoError) Kept` hold, so that out of memory is the only allowed failure. If `Done`
-- implies `Done'`, then `Does result Done' Due' Kept` holds for any `Due'`
pub weaker_put : {T : Type 0} (result : Result T Failure) (Done Done' : Type 0) (Due' : Failure → Type 0) (Kept : Type 0)
    → (Done → Done') → Does result Done (OfLibrary NoError) Kept → Does result Done' Due' Kept
weaker_put result Done Done' Due' Kept done does =
    weaker result Done Done' (OfLibrary NoError) Due' Kept Kept done (λ failure none. no_failure failure (Due' failure) none) (λ k. k) does

-- the code and the report of a call follow from its result
pub coded : {T : Type 0} {code : ℕ} {old new : ErrorReport} {Done : Type 0} {Due : Failure → Type 0} {Kept : Type 0}
    (result : Result T Failure) → Finishes result code old new → Does result Done Due Kept
    → Answers code old new Done Due Kept
coded (Ok _) is does = record {
  done = λ _. does;
  silent = λ _. is.1;
  failed = λ none. absurd (none is.0);
  kept = λ none. absurd (none is.0);
}
coded {code = code} {old = old} {new = new} (Err failure) is does = record {
  done = λ zero. absurd (reports_positive failure code old new is zero);
  silent = λ zero. absurd (reports_positive failure code old new is zero);
  failed = λ _. (failure, is, does.0);
  kept = λ _. does.1;
}
