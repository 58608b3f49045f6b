-- The text that each error displays, and the conversions from the errors of other libraries.
use Rattle.std.specs.Prelude.{◌≡◌, ◌≢◌, ℕ, List, ◌++◌, codes, Option, Some, None, encode_utf8, string_bytes}
use Rattle.std.specs.Fmt.{decimal}
use Rattle.std.specs.IoError.{error_kind}
use Rattle.std.specs.declared.io.Error.{Error as IoError}
use Rattle.std.specs.declared.io.ErrorKind.TheVariants.{OutOfMemory as NoMemory}
use Rattle.serde_json.specs.Errors.{IsMemory}
use Rattle.serde_json.specs.declared.error.Error.{Error as ParseError}
use Rattle.sourcemap_errors.specs.declared.errors.RangeFault.{RangeFault}
use Rattle.sourcemap_errors.specs.declared.errors.Base64Fault.{Base64Fault}
use Rattle.sourcemap_errors.specs.declared.errors.JsonFault.{JsonFault}
use Rattle.sourcemap_errors.specs.declared.errors.JsonFault.TheVariants.{Parse, Shape}
use Rattle.sourcemap_errors.specs.declared.errors.Error.{Error}
use Rattle.sourcemap_errors.specs.declared.errors.Error.TheVariants.{Io, Utf8, Scroll, BadJson, VlqLeftover}
use Rattle.sourcemap_errors.specs.declared.errors.Error.TheVariants.{VlqNoValues, VlqOverflow, BadSegmentSize}
use Rattle.sourcemap_errors.specs.declared.errors.Error.TheVariants.{BadSourceReference, BadNameReference}
use Rattle.sourcemap_errors.specs.declared.errors.Error.TheVariants.{IncompatibleSourceMap, InvalidDataUrl}
use Rattle.sourcemap_errors.specs.declared.errors.Error.TheVariants.{CannotFlatten, InvalidRamBundleMagic}
use Rattle.sourcemap_errors.specs.declared.errors.Error.TheVariants.{InvalidRamBundleIndex, InvalidRamBundleEntry}
use Rattle.sourcemap_errors.specs.declared.errors.Error.TheVariants.{NotARamBundle, InvalidRangeMappingIndex}
use Rattle.sourcemap_errors.specs.declared.errors.Error.TheVariants.{InvalidBase64, OutOfMemory}

abbrev pub range_fault_text : RangeFault → List ℕ
range_fault_text error = decimal error.start ++ codes "+" ++ decimal error.size ++ codes " past " ++ decimal error.len

abbrev pub json_fault_text : JsonFault → List ℕ
json_fault_text Parse = codes "the text is not JSON"
json_fault_text Shape = codes "a field has the wrong type"

abbrev pub base64_fault_text : Base64Fault → List ℕ
base64_fault_text error = codes "bad base64 at " ++ decimal error.at

-- the displayed text of an error; `None` for the errors of std, whose texts std does not specify
abbrev pub error_text : Error → Option (List ℕ)
error_text (Io _) = None
error_text (Utf8 _) = None
error_text (Scroll error) = Some (codes "parse error: " ++ range_fault_text error)
error_text (BadJson error) = Some (codes "bad json: " ++ json_fault_text error)
error_text VlqLeftover = Some (codes "leftover cur/shift in vlq decode")
error_text VlqNoValues = Some (codes "vlq decode did not produce any values")
error_text VlqOverflow = Some (codes "vlq decode caused an overflow")
error_text (BadSegmentSize size) = Some (codes "got " ++ decimal size ++ codes " segments, expected 4 or 5")
error_text (BadSourceReference id) = Some (codes "bad reference to source #" ++ decimal id)
error_text (BadNameReference id) = Some (codes "bad reference to name #" ++ decimal id)
error_text IncompatibleSourceMap = Some (codes "encountered incompatible sourcemap format")
error_text InvalidDataUrl = Some (codes "the provided data URL is invalid")
error_text (CannotFlatten reason) = Some (codes "cannot flatten the indexed sourcemap: " ++ string_bytes reason)
error_text InvalidRamBundleMagic = Some (codes "invalid magic number for ram bundle")
error_text InvalidRamBundleIndex = Some (codes "invalid module index in ram bundle")
error_text InvalidRamBundleEntry = Some (codes "invalid ram bundle module entry")
error_text NotARamBundle = Some (codes "not a ram bundle")
error_text (InvalidRangeMappingIndex error) = Some (codes "invalid range mapping index: " ++ base64_fault_text error)
error_text (InvalidBase64 byte) = Some (codes "invalid base64 character: " ++ encode_utf8 byte)
error_text OutOfMemory = Some (codes "out of memory")

-- an error of a reader or writer: kind `OutOfMemory` becomes the error `OutOfMemory`, any other error is kept as `Io`
abbrev pub FromIo : IoError → Error → Type 0
FromIo cause OutOfMemory = error_kind cause ≡ NoMemory
FromIo cause (Io kept) = (kept ≡ cause) × (error_kind cause ≢ NoMemory)
FromIo _ _ = ⊥

-- an error of serde_json: out of memory becomes the error `OutOfMemory`, any other error becomes `BadJson(Parse)`
abbrev pub FromJson : ParseError → Error → Type 0
FromJson cause OutOfMemory = IsMemory cause
FromJson cause (BadJson Parse) = ¬ IsMemory cause
FromJson cause _ = ⊥
