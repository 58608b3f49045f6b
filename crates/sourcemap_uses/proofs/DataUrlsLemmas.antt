-- If decoding a data URL gives an error other than `InvalidDataUrl` and `OutOfMemory`, decoding the payload gives the
-- same error.
use Rattle.std.proofs.Common.{◌≢◌, inl, inr, ap, ℕ, List, Result, Ok, Err}
use Rattle.sourcemap.specs.Answer.{UnlessMemory}
use Rattle.sourcemap.specs.DataUrl.{Holds}
use Rattle.sourcemap.specs.Decoder.{BytesDecode, UrlDecodes}
use Rattle.sourcemap.specs.Trees.{MapTree}
use Rattle.sourcemap.specs.declared.errors.Error.{Error}
use Rattle.sourcemap.specs.declared.errors.Error.TheVariants.{InvalidDataUrl, OutOfMemory}

-- the payload of the data URL decodes to this error
abbrev pub PayloadError : List ℕ → Error → Type 0
PayloadError url e = (bytes : List ℕ) × Holds url bytes × BytesDecode bytes (Err e)

error_or : Error → Result MapTree Error → Error
error_or other (Ok m) = other
error_or other (Err e) = e

held : (url : List ℕ) (e : Error) → e ≢ InvalidDataUrl → UrlDecodes url (Err e) → PayloadError url e
unfolding error_or
held url e differs (inl is) = is
held url e differs (inr is) = absurd (differs (ap (error_or e) is.0))

pub held_unless_memory : (url : List ℕ) (e : Error) → e ≢ InvalidDataUrl → UnlessMemory e (UrlDecodes url (Err e))
    → UnlessMemory e (PayloadError url e)
held_unless_memory url OutOfMemory differs h = tt
held_unless_memory url e differs h = held url e differs h
