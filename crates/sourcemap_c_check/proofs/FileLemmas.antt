-- The text of a file whose bytes are UTF-8, or not.
use Rattle.std.proofs.Common.{◌≡◌, ℕ, Bool, true, false, List, ap, cond, sym}
use Rattle.std.proofs.Common.{Some, None, refl}
use Rattle.std.proofs.lemmas.Str.{IsUtf8-from_is_utf8, is_utf8-from_IsUtf8}
use Rattle.std.specs.Str.{IsUtf8, is_utf8}
use Rattle.sourcemap_c_check.specs.Files.{file_text}

pub text_is : (bytes : List ℕ) → IsUtf8 bytes → Some bytes ≡ file_text bytes
text_is bytes is = sym (ap (λ b. cond b (Some bytes) None) (is_utf8-from_IsUtf8 bytes is))

none_if_not : (b : Bool) (bytes : List ℕ) → (b ≡ true → ⊥) → None ≡ cond b (Some bytes) None
none_if_not true bytes fails = absurd (fails refl)
none_if_not false bytes fails = refl

pub no_text : (bytes : List ℕ) → ¬ IsUtf8 bytes → None ≡ file_text bytes
no_text bytes fails = none_if_not (is_utf8 bytes) bytes (λ is. fails (IsUtf8-from_is_utf8 bytes is))
