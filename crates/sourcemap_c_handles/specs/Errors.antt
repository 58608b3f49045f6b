-- The error codes of the C header, and reports of errors.
use Rattle.std.specs.Prelude.{◌≡◌, ℕ, ◌+◌, List, ◌∷◌, ◌++◌, ◌⊎◌, codes, drop, length, min, take, Option, Some, IfSome, Result, Ok, Err}
use Rattle.sourcemap_errors.specs.Errors.{error_text}
use Rattle.sourcemap_errors.specs.declared.errors.Error.{Error}
use Rattle.sourcemap_errors.specs.declared.errors.Error.TheVariants.{Io, Utf8, Scroll, BadJson, VlqLeftover, VlqNoValues, VlqOverflow, BadSegmentSize, BadSourceReference, BadNameReference, IncompatibleSourceMap, InvalidDataUrl, CannotFlatten, InvalidRamBundleMagic, InvalidRamBundleIndex, InvalidRamBundleEntry, NotARamBundle, InvalidRangeMappingIndex, InvalidBase64, OutOfMemory}
use Rattle.sourcemap_errors.specs.declared.errors.JsonFault.TheVariants.{Parse, Shape}
use Rattle.sourcemap_c_handles.specs.declared.errors.Code.{Code}
use Rattle.sourcemap_c_handles.specs.declared.errors.ErrorReport.{ErrorReport}
use Rattle.sourcemap_c_handles.specs.declared.errors.Failure.{Failure}
use Rattle.sourcemap_c_handles.specs.declared.errors.Failure.TheVariants.{Library, Absent, WrongKind, PastLimit}
use Rattle.sourcemap_c_handles.specs.declared.errors.Numbers.{Numbers}

-- the number of a code in the C header
abbrev pub number_of : Code → ℕ
number_of Code.Ok = 0
number_of Code.Io = 1
number_of Code.Utf8 = 2
number_of Code.Range = 3
number_of Code.BadJson = 4
number_of Code.VlqLeftover = 5
number_of Code.VlqNoValues = 6
number_of Code.VlqOverflow = 7
number_of Code.BadSegmentSize = 8
number_of Code.BadSourceReference = 9
number_of Code.BadNameReference = 10
number_of Code.Incompatible = 11
number_of Code.InvalidDataUrl = 12
number_of Code.CannotFlatten = 13
number_of Code.InvalidBundleMagic = 14
number_of Code.InvalidBundleIndex = 15
number_of Code.InvalidBundleEntry = 16
number_of Code.NotABundle = 17
number_of Code.InvalidRangeIndex = 18
number_of Code.InvalidBase64 = 19
number_of Code.OutOfMemory = 20
number_of Code.Absent = 32
number_of Code.WrongKind = 33
number_of Code.PastLimit = 34

abbrev pub error_code : Error → Code
error_code (Io _) = Code.Io
error_code (Utf8 _) = Code.Utf8
error_code (Scroll _) = Code.Range
error_code (BadJson _) = Code.BadJson
error_code VlqLeftover = Code.VlqLeftover
error_code VlqNoValues = Code.VlqNoValues
error_code VlqOverflow = Code.VlqOverflow
error_code (BadSegmentSize _) = Code.BadSegmentSize
error_code (BadSourceReference _) = Code.BadSourceReference
error_code (BadNameReference _) = Code.BadNameReference
error_code IncompatibleSourceMap = Code.Incompatible
error_code InvalidDataUrl = Code.InvalidDataUrl
error_code (CannotFlatten _) = Code.CannotFlatten
error_code InvalidRamBundleMagic = Code.InvalidBundleMagic
error_code InvalidRamBundleIndex = Code.InvalidBundleIndex
error_code InvalidRamBundleEntry = Code.InvalidBundleEntry
error_code NotARamBundle = Code.NotABundle
error_code (InvalidRangeMappingIndex _) = Code.InvalidRangeIndex
error_code (InvalidBase64 _) = Code.InvalidBase64
error_code OutOfMemory = Code.OutOfMemory

abbrev pub code_of : Failure → Code
code_of (Library error) = error_code error
code_of Absent = Code.Absent
code_of WrongKind = Code.WrongKind
code_of PastLimit = Code.PastLimit

-- The numbers of a report.

abbrev pub numbers_at : (number start size length : ℕ) → Numbers
numbers_at number start size length = record { number = number; start = start; size = size; length = length }

abbrev pub one_number : ℕ → Numbers
one_number number = numbers_at number 0 0 0

abbrev pub error_numbers : Error → Numbers
error_numbers (Scroll range) = numbers_at 0 range.start range.size range.len
error_numbers (BadJson Parse) = one_number 0
error_numbers (BadJson Shape) = one_number 1
error_numbers (BadSegmentSize size) = one_number size
error_numbers (BadSourceReference id) = one_number id
error_numbers (BadNameReference id) = one_number id
error_numbers (InvalidRangeMappingIndex at) = numbers_at 0 at.at 0 0
error_numbers (InvalidBase64 character) = one_number character
error_numbers _ = one_number 0

abbrev pub failure_numbers : Failure → Numbers
failure_numbers (Library error) = error_numbers error
failure_numbers _ = one_number 0

-- The text of a report.

abbrev pub failure_text : Failure → Option (List ℕ)
failure_text (Library error) = error_text error
failure_text Absent = Some (codes "there is none")
failure_text WrongKind = Some (codes "the handle holds nothing that has this call")
failure_text PastLimit = Some (codes "a line would pass 4294967295")

-- how many bytes of this text are written to the report: all, but at most 255
abbrev pub written : List ℕ → ℕ
written text = min (length text) 255

-- The array `old` after `text` was written to it. The array starts with the first 255 bytes of the text, or with the
-- whole text if the text is shorter. A zero byte follows. The bytes after the zero byte are unchanged.
abbrev pub over : List ℕ → List ℕ → List ℕ
over text old = take (written text) text ++ 0 ∷ drop (written text + 1) old

-- The report that a call writes, and the code that the call returns.

abbrev pub IsWritten : Code → Numbers → List ℕ → ErrorReport → ErrorReport → Type 0
IsWritten code numbers text old new = new ≡ record {
  code = number_of code;
  number = numbers.number;
  start = numbers.start;
  size = numbers.size;
  length = numbers.length;
  text_length = length text;
  text = over text old.text;
}

-- `new` is `old` after the report of `failure` was written to `old`. The written text is `failure_text failure`. If
-- `failure_text failure` is `None` (for `Io` and `Utf8`), the definition allows any text.
abbrev pub IsOf : Failure → ErrorReport → ErrorReport → Type 0
IsOf failure old new = (text : List ℕ) × IsWritten (code_of failure) (failure_numbers failure) text old new
    × IfSome (failure_text failure) (λ due. text ≡ due)

-- Either `code` and the report `new` describe `failure`, or both describe `OutOfMemory`. The definition always allows
-- `OutOfMemory`, because the call that writes the report needs memory for the text.
abbrev pub Reports : Failure → ℕ → ErrorReport → ErrorReport → Type 0
Reports failure code old new = ((code ≡ number_of (code_of failure)) × IsOf failure old new)
    ⊎ ((code ≡ number_of Code.OutOfMemory) × IsOf (Library OutOfMemory) old new)

-- the code and the report of an outcome; after success the code is 0 and the report is unchanged
abbrev pub Finishes : {X : Type 0} → Result X Failure → ℕ → ErrorReport → ErrorReport → Type 0
Finishes (Ok _) code old new = (code ≡ 0) × (new ≡ old)
Finishes (Err failure) code old new = Reports failure code old new
