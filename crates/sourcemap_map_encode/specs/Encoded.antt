-- The JSON text of a record, and the errors of a writer.
use Rattle.std.specs.Prelude.{◌≡◌, ◌≤◌, ℕ, List, false, Result, Ok}
use Rattle.serde_json.specs.Data.{depth}
use Rattle.serde_json.specs.Read.{max_depth}
use Rattle.serde_json.specs.Written.{compact_text, has_float}
use Rattle.sourcemap_errors.specs.Errors.{FromIo}
use Rattle.sourcemap_errors.specs.declared.errors.Error.{Error}
use Rattle.sourcemap_errors.specs.declared.errors.Error.TheVariants.{Io}
use Rattle.sourcemap_records.specs.Bytes.{IsJson}
use Rattle.sourcemap_records.specs.Jsontypes.{Tree, written}

-- `text` is the JSON text of `written t`, the JSON value of the record `t`. If this value has no floating-point number,
-- `text` is the compact text. If the value has at most 127 levels, `text` parses to the value
pub record IsText (t : Tree) (text : List ℕ) : Type 0 where
  pub compact : has_float (written t) ≡ false → text ≡ compact_text (written t)
  pub reads_back : depth (written t) ≤ max_depth → IsJson text (written t)

-- there is a record `t` such that `Encodes` allows the result `Ok t`, and `text` is the JSON text of `t` (`IsText`)
abbrev pub IsEncoded : (Result Tree Error → Type 0) → List ℕ → Type 0
IsEncoded Encodes text = (t : Tree) × Encodes (Ok t) × IsText t text

-- an error `Io`, for example of a failed write. The kind is never `OutOfMemory`: an I/O error of this kind becomes the
-- error `OutOfMemory`
abbrev pub IsIo : Error → Type 0
IsIo (Io cause) = FromIo cause (Io cause)
IsIo _ = ⊥
