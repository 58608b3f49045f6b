-- Advice on each error, and an exit status for each kind.
use Rattle.std.specs.Prelude.{ℕ}
use Rattle.sourcemap.specs.declared.errors.Error.{Error}
use Rattle.sourcemap.specs.declared.errors.Error.TheVariants.{Io, Utf8, Scroll, BadJson, VlqLeftover, VlqNoValues}
use Rattle.sourcemap.specs.declared.errors.Error.TheVariants.{VlqOverflow, BadSegmentSize, BadSourceReference}
use Rattle.sourcemap.specs.declared.errors.Error.TheVariants.{BadNameReference, InvalidBase64, InvalidRangeMappingIndex}
use Rattle.sourcemap.specs.declared.errors.Error.TheVariants.{IncompatibleSourceMap, InvalidDataUrl, CannotFlatten}
use Rattle.sourcemap.specs.declared.errors.Error.TheVariants.{InvalidRamBundleMagic, InvalidRamBundleIndex}
use Rattle.sourcemap.specs.declared.errors.Error.TheVariants.{InvalidRamBundleEntry, NotARamBundle, OutOfMemory}
use Rattle.sourcemap.specs.declared.errors.JsonFault.TheVariants.{Parse, Shape}
use Rattle.sourcemap_uses.specs.declared.error_advice.Advice.{Advice}
use Rattle.sourcemap_uses.specs.declared.error_advice.Advice.TheVariants.{ReadAgain, LookAtInput, MendWriter}
use Rattle.sourcemap_uses.specs.declared.error_advice.Advice.TheVariants.{UseOtherCall, LookAtBundle, FreeMemory}

abbrev pub advice_on : Error → Advice
advice_on (Io _) = ReadAgain
advice_on (Utf8 _) = LookAtInput
advice_on (BadJson Parse) = LookAtInput
advice_on IncompatibleSourceMap = UseOtherCall
advice_on InvalidDataUrl = UseOtherCall
advice_on (CannotFlatten _) = UseOtherCall
advice_on (Scroll _) = LookAtBundle
advice_on InvalidRamBundleMagic = LookAtBundle
advice_on InvalidRamBundleIndex = LookAtBundle
advice_on InvalidRamBundleEntry = LookAtBundle
advice_on NotARamBundle = LookAtBundle
advice_on OutOfMemory = FreeMemory
advice_on _ = MendWriter

-- the exit status for an error; each kind of error has a different one
abbrev pub status_of : Error → ℕ
status_of (Io _) = 10
status_of (Utf8 _) = 11
status_of (BadJson Parse) = 12
status_of (BadJson Shape) = 13
status_of VlqLeftover = 14
status_of VlqNoValues = 15
status_of VlqOverflow = 16
status_of (BadSegmentSize _) = 17
status_of (BadSourceReference _) = 18
status_of (BadNameReference _) = 19
status_of (InvalidBase64 _) = 20
status_of (InvalidRangeMappingIndex _) = 21
status_of IncompatibleSourceMap = 22
status_of InvalidDataUrl = 23
status_of (CannotFlatten _) = 24
status_of (Scroll _) = 25
status_of InvalidRamBundleMagic = 26
status_of InvalidRamBundleIndex = 27
status_of InvalidRamBundleEntry = 28
status_of NotARamBundle = 29
status_of OutOfMemory = 30
