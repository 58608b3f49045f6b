-- Codes and values of calls on the bytes of a compiled map.
use Rattle.std.specs.Prelude.{◌≡◌, ◌⊎◌, ℕ, List, MatchOption, Option, Some, None, Result, Ok, Err}
use Rattle.std.specs.Str.{IsUtf8}
use denote.Ref.{Bor}
use Rattle.sourcemap_compiled.specs.Layout.{refusal}
use Rattle.sourcemap_compiled.specs.Soundness.{HasFault, IsSound}
use Rattle.sourcemap_compiled.specs.declared.errors.CompiledMapError.{CompiledMapError}
use Rattle.sourcemap_compiled.specs.declared.errors.CompiledMapError.TheVariants.{InvalidUtf8, OutOfOrder, TextOutside}
use Rattle.sourcemap_compiled.specs.declared.errors.CompiledMapError.TheVariants.{Truncated, WrongExtent, WrongMagic}
use Rattle.sourcemap_compiled.specs.declared.errors.CompiledMapError.TheVariants.{WrongVersion}

-- the code of an error
abbrev pub compiled_code : CompiledMapError → ℕ
compiled_code InvalidUtf8 = 2
compiled_code Truncated = 35
compiled_code WrongMagic = 36
compiled_code (WrongVersion _) = 37
compiled_code WrongExtent = 38
compiled_code TextOutside = 39
compiled_code (OutOfOrder _) = 40

-- the code of a check: `SM_OK`, or why the bytes are no compiled map
abbrev pub check_code : Option CompiledMapError → ℕ
check_code None = 0
check_code (Some e) = compiled_code e

-- the code of a check of all bytes: `SM_OK` for a sound file, otherwise the code of its first fault
abbrev pub ReturnsVerdict : List ℕ → (code : ℕ) → Type 0
ReturnsVerdict bytes code =
    ((code ≡ 0) × IsSound bytes) ⊎ ((e : CompiledMapError) × HasFault bytes e × (code ≡ compiled_code e))

-- If the bytes are a compiled map, `Says` holds. Otherwise the code says why they are none, and nothing is written
abbrev pub OnCompiled : {X : Type 0} → List ℕ → (Says : Type 0) → (code : ℕ) → (old new : X) → Type 0
OnCompiled bytes Says code old new = MatchOption (refusal bytes) Says (λ e. (code ≡ compiled_code e) × (new ≡ old))

-- The code and the value of a call. The code is `SM_ABSENT` if there is no value. The call writes the value only if it
-- returns `SM_OK`
abbrev pub ReturnsOption : {X : Type 0} → Option X → (code : ℕ) → (old new : X) → Type 0
ReturnsOption None code old new = (code ≡ 32) × (new ≡ old)
ReturnsOption (Some x) code old new = (code ≡ 0) × (new ≡ x)

-- the code and the text for what a getter returned
abbrev pub ReturnsRead : Result (Option (Bor (List ℕ))) CompiledMapError → (code : ℕ) → (old new : List ℕ) → Type 0
ReturnsRead (Err e) code old new = (code ≡ compiled_code e) × (new ≡ old)
ReturnsRead (Ok None) code old new = (code ≡ 32) × (new ≡ old)
ReturnsRead (Ok (Some text)) code old new = (code ≡ 0) × (new ≡ text.now)

-- The code and the text of a call that borrows a text: `SM_UTF8` if the bytes of the text are not UTF-8. The call writes
-- the text only if it returns `SM_OK`
abbrev pub ReturnsText : Result (Option (List ℕ)) CompiledMapError → (code : ℕ) → (old new : List ℕ) → Type 0
ReturnsText (Err e) code old new = (code ≡ compiled_code e) × (new ≡ old)
ReturnsText (Ok None) code old new = (code ≡ 32) × (new ≡ old)
ReturnsText (Ok (Some text)) code old new =
    (IsUtf8 text → (code ≡ 0) × (new ≡ text)) × (¬ IsUtf8 text → (code ≡ compiled_code InvalidUtf8) × (new ≡ old))
