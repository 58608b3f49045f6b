-- The code of a failure is not 0.
use Rattle.std.proofs.Common.{◌≢◌, ◌∙◌, ℕ, inl, inr, sym}
use Rattle.sourcemap_errors.specs.declared.errors.Error.{Error}
use Rattle.sourcemap_errors.specs.declared.errors.Error.TheVariants.{Io, Utf8, Scroll, BadJson, VlqLeftover, VlqNoValues, VlqOverflow, BadSegmentSize, BadSourceReference, BadNameReference, IncompatibleSourceMap, InvalidDataUrl, CannotFlatten, InvalidRamBundleMagic, InvalidRamBundleIndex, InvalidRamBundleEntry, NotARamBundle, InvalidRangeMappingIndex, InvalidBase64, OutOfMemory}
use Rattle.sourcemap_c_handles.specs.Errors.{Reports, code_of, error_code, number_of}
use Rattle.sourcemap_c_handles.specs.declared.errors.ErrorReport.{ErrorReport}
use Rattle.sourcemap_c_handles.specs.declared.errors.Failure.{Failure}
use Rattle.sourcemap_c_handles.specs.declared.errors.Failure.TheVariants.{Library, Absent, WrongKind, PastLimit}

error_positive : (e : Error) → number_of (error_code e) ≢ 0
error_positive (Io _) h = cc
error_positive (Utf8 _) h = cc
error_positive (Scroll _) h = cc
error_positive (BadJson _) h = cc
error_positive VlqLeftover h = cc
error_positive VlqNoValues h = cc
error_positive VlqOverflow h = cc
error_positive (BadSegmentSize _) h = cc
error_positive (BadSourceReference _) h = cc
error_positive (BadNameReference _) h = cc
error_positive IncompatibleSourceMap h = cc
error_positive InvalidDataUrl h = cc
error_positive (CannotFlatten _) h = cc
error_positive InvalidRamBundleMagic h = cc
error_positive InvalidRamBundleIndex h = cc
error_positive InvalidRamBundleEntry h = cc
error_positive NotARamBundle h = cc
error_positive (InvalidRangeMappingIndex _) h = cc
error_positive (InvalidBase64 _) h = cc
error_positive OutOfMemory h = cc

positive : (failure : Failure) → number_of (code_of failure) ≢ 0
positive (Library e) h = error_positive e h
positive Absent h = cc
positive WrongKind h = cc
positive PastLimit h = cc

pub reports_positive : (failure : Failure) (code : ℕ) (old new : ErrorReport) → Reports failure code old new → code ≢ 0
reports_positive failure code old new (inl own) zero = positive failure (sym own.0 ∙ zero)
reports_positive failure code old new (inr memory) zero = positive (Library OutOfMemory) (sym memory.0 ∙ zero)
