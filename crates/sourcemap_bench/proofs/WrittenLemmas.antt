-- After a decoded map is written, `IsWritten` holds. An error other than `OutOfMemory` satisfies `IsUnwritten`.
use Rattle.std.proofs.Common.{◌⊎◌, inl, inr, ℕ, List, Option, Result, Ok, Err, IfErr, OnOk}
use Rattle.std.specs.Io.KnownBytes.{Appends}
use Rattle.sourcemap.specs.Answer.{UnlessMemory}
use Rattle.sourcemap.specs.Written.{IsEncoded, IsIo}
use Rattle.sourcemap.specs.Decoder.{BytesDecode}
use Rattle.sourcemap.specs.TreeEncoder.{RecordAnswer}
use Rattle.sourcemap.specs.Trees.{MapTree}
use Rattle.sourcemap.specs.declared.errors.Error.{Error}
use Rattle.sourcemap.specs.declared.errors.Error.TheVariants.{OutOfMemory}
use Rattle.sourcemap_bench.specs.Written.{IsWritten, IsUnwritten}

unless_memory : (e : Error) (P Q : Type 0) → (P → Q) → UnlessMemory e P → UnlessMemory e Q
unless_memory OutOfMemory P Q f h = tt
unless_memory _ P Q f h = f h

-- encoding has no error of its own, so the error `e` comes from the writer
writer_failed : (bytes : List ℕ) (t : MapTree) (e : Error) → RecordAnswer t (Err e) ⊎ IsIo e → IsUnwritten bytes e
writer_failed bytes t e (inl never) = absurd never
writer_failed bytes t e (inr io) = inr io

-- if `bytes` do not decode, the decoding error satisfies `IsUnwritten`
pub no_map : (bytes : List ℕ) (e : Error) → UnlessMemory e (BytesDecode bytes (Err e))
    → UnlessMemory e (IsUnwritten bytes e)
no_map bytes e h = unless_memory e (BytesDecode bytes (Err e)) (IsUnwritten bytes e) inl h

pub text_written : {T : Type 0} (bytes : List ℕ) (t : MapTree) (r : Result T Error) (old new : Option (List ℕ))
    → BytesDecode bytes (Ok t) → OnOk r ((text : List ℕ) × IsEncoded (RecordAnswer t) text × Appends old new text)
    → OnOk r (IsWritten bytes old new)
text_written bytes t (Ok _) old new decodes h = (t, decodes, h)
text_written bytes t (Err _) old new decodes h = tt

pub text_unwritten : {T : Type 0} (bytes : List ℕ) (t : MapTree) (r : Result T Error)
    → IfErr r (λ e. UnlessMemory e (RecordAnswer t (Err e) ⊎ IsIo e))
    → IfErr r (λ e. UnlessMemory e (IsUnwritten bytes e))
text_unwritten bytes t (Ok _) h = tt
text_unwritten bytes t (Err e) h =
    unless_memory e (RecordAnswer t (Err e) ⊎ IsIo e) (IsUnwritten bytes e) (writer_failed bytes t e) h
