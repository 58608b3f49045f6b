-- Let a call that adds tokens have an outcome that `AreAdded` allows, and let the error report be the one for this
-- outcome (`Finishes`). With a builder, either all tokens were added and the report is unchanged, or fewer tokens were
-- added and the report describes `OutOfMemory`. Without a builder, no token was added, and the report describes
-- `WrongKind` or `OutOfMemory`.
use Rattle.std.proofs.Common.{ℕ, Option, Some, None, Result, Ok, Err, inl, inr, subst}
use Rattle.sourcemap_builder.specs.Builder.{BuilderValue}
use Rattle.sourcemap_c_handles.specs.Errors.{Finishes, Reports}
use Rattle.sourcemap_c_handles.specs.declared.errors.ErrorReport.{ErrorReport}
use Rattle.sourcemap_c_handles.specs.declared.errors.Failure.{Failure}
use Rattle.sourcemap_c.specs.Building.{AddsAll, AreAdded}

pub adds_all : (b : Option BuilderValue) (outcome : Result (Unit {0}) Failure) (count added code : ℕ) (old new : ErrorReport)
    → AreAdded b count added outcome → Finishes outcome code old new → AddsAll b count added old new
adds_all (Some _) (Ok _) count added code old new all is = inl (all, is.1)
adds_all (Some _) (Err failure) count added code old new all is =
    let P : Failure → Type 0 = λ f. Reports f code old new in
    inr (all.1, (code, subst P all.0 is))
adds_all None outcome count added code old new none is =
    let P : Result (Unit {0}) Failure → Type 0 = λ o. Finishes o code old new in
    (none.0, (code, subst P none.1 is))
