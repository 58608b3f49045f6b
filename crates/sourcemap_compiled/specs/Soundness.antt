-- Which compiled maps are sound: a lookup finds the closest token, and every text can be read.
use Rattle.std.specs.Prelude.{ℕ, ◌+◌, ◌-◌, ◌<◌, ◌≤◌, List, Option, Some, None, Result, Ok, Err}
use Rattle.std.specs.Str.{IsUtf8}
use Rattle.sourcemap_compiled.specs.Layout.{text_count, token_count}
use Rattle.sourcemap_compiled.specs.Lookup.{IsInOrder, position_of}
use Rattle.sourcemap_compiled.specs.Texts.{ReadsText, text_at}
use Rattle.sourcemap_compiled.specs.declared.errors.CompiledMapError.{CompiledMapError}
use Rattle.sourcemap_compiled.specs.declared.errors.CompiledMapError.TheVariants.{OutOfOrder}

-- there is no text, or it is UTF-8
abbrev pub IsReadable : Result (Option (List ℕ)) CompiledMapError → Type 0
IsReadable (Ok None) = Unit {0}
IsReadable (Ok (Some text)) = IsUtf8 text
IsReadable (Err _) = ⊥

-- the first n texts can be read
abbrev pub AreReadable : List ℕ → ℕ → Type 0
AreReadable bytes n = (text : ℕ) → text < n → IsReadable (text_at bytes text)

pub record IsSound (bytes : List ℕ) : Type 0 where
  pub order : IsInOrder bytes
  pub texts : AreReadable bytes (text_count bytes)

-- Why a map is not sound.

-- of the first n tokens none is before the token ahead of it
abbrev pub AreRising : List ℕ → ℕ → Type 0
AreRising bytes n = (index : ℕ) → index + 1 < n → position_of bytes index ≤ position_of bytes (index + 1)

-- the first token that is before the token ahead of it
pub record IsFall (bytes : List ℕ) (index : ℕ) : Type 0 where
  pub within : index < token_count bytes
  pub before : AreRising bytes index
  pub falls : position_of bytes index < position_of bytes (index - 1)

-- the first text that cannot be read, and the error of reading it
pub record IsUnreadable (bytes : List ℕ) (text : ℕ) (e : CompiledMapError) : Type 0 where
  pub within : text < text_count bytes
  pub before : AreReadable bytes text
  pub error : ReadsText (text_at bytes text) (Err e)

-- the first fault of a map that is not sound: of its tokens, then of its texts
abbrev pub HasFault : List ℕ → CompiledMapError → Type 0
HasFault bytes (OutOfOrder index) = IsFall bytes index
HasFault bytes e = IsInOrder bytes × ((text : ℕ) × IsUnreadable bytes text e)
