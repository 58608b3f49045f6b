-- What a getter of the file returns tells what a call returns for the text of the file.
use Rattle.std.proofs.Common.{◌≡◌, ℕ, List, Bor, Option, Some, None, Result, Ok, Err, subst, sym}
use Rattle.sourcemap_compiled.specs.Texts.{ReadsText}
use Rattle.sourcemap_compiled.specs.declared.errors.CompiledMapError.{CompiledMapError}
use Rattle.sourcemap_compiled.specs.declared.errors.CompiledMapError.TheVariants.{InvalidUtf8}
use Rattle.sourcemap_c_compiled.specs.Codes.{ReturnsRead, ReturnsText}

module _ (text_in_file : Result (Option (List ℕ)) CompiledMapError) (code : ℕ) (old new : List ℕ) where
  returned : (same : Result (Option (List ℕ)) CompiledMapError) → text_in_file ≡ same → ReturnsText same code old new
      → ReturnsText text_in_file code old new
  returned same is returns = subst (λ b. ReturnsText b code old new) (sym is) returns

  pub text_returned : (found : Result (Option (Bor (List ℕ))) CompiledMapError) → ReadsText text_in_file found
      → ReturnsRead found code old new → ReturnsText text_in_file code old new
  text_returned (Ok None) reads read = returned (Ok None) reads read
  text_returned (Ok (Some text)) reads read =
      returned (Ok (Some text.now)) reads.0 ((λ utf8. read), (λ bad. absurd (bad reads.1)))
  text_returned (Err InvalidUtf8) (text, reads, bad) read =
      returned (Ok (Some text)) reads ((λ utf8. absurd (bad utf8)), (λ _. read))
  text_returned (Err e) reads read = returned (Err e) reads read
