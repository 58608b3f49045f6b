-- Decoding a map and writing it.
use Rattle.std.specs.Prelude.{ℕ, List, Option, Ok, Err, ◌⊎◌}
use Rattle.std.specs.Io.KnownBytes.{Appends}
use Rattle.sourcemap.specs.Written.{IsEncoded, IsIo}
use Rattle.sourcemap.specs.Decoder.{BytesDecode}
use Rattle.sourcemap.specs.TreeEncoder.{RecordAnswer}
use Rattle.sourcemap.specs.Trees.{MapTree}
use Rattle.sourcemap.specs.declared.errors.Error.{Error}

-- `bytes` decodes to a map. Appending the JSON text of this map to the writer's bytes `old` gave `new`. If `old` is
-- `None`, the writer's bytes are unknown, and `new` may be anything
abbrev pub IsWritten : List ℕ → Option (List ℕ) → Option (List ℕ) → Type 0
IsWritten bytes old new = (t : MapTree) × BytesDecode bytes (Ok t)
    × ((text : List ℕ) × IsEncoded (RecordAnswer t) text × Appends old new text)

-- the errors other than `OutOfMemory`: the bytes do not decode, or the writer fails
abbrev pub IsUnwritten : List ℕ → Error → Type 0
IsUnwritten bytes e = BytesDecode bytes (Err e) ⊎ IsIo e
