-- Comparing maps that were read, and the first item of an iterator.
use Rattle.std.proofs.Common.{◌≡◌, ◌∙◌, refl, sym, ap, subst, ℕ, List, [], ◌∷◌, Bool, IsTrue, Option, Some, None, take}
use Rattle.std.proofs.Common.{slice_get, IfSome, Ok, Result}
use Rattle.std.specs.Bool.{Decides}
use Rattle.std.specs.Borrow.{Bor}
use Rattle.std.specs.Iterator.{YieldsFirstRef}
use Rattle.std.specs.Option.{option_copied}
use Rattle.sourcemap_maps.specs.Bytes.{AreSame, BytesHaveResult, IsAnswerRead}
use Rattle.sourcemap_maps.specs.Decode.{RegularDecodes}
use Rattle.sourcemap_maps.specs.Map.{MapValue}
use Rattle.sourcemap_maps.specs.declared.errors.Error.{Error}

-- a reader of the same bytes gives the same map
pub same_map : (known : Option (List ℕ)) (bytes : List ℕ) (m n : MapValue) (is : Bool) → known ≡ Some bytes
    → BytesHaveResult RegularDecodes bytes (Ok m)
    → IfSome known (λ xs. (due : Result MapValue Error) → BytesHaveResult RegularDecodes xs due
    → IsAnswerRead (λ (m : MapValue). m) (AreSame due) (Ok n))
    → Decides is (n ≡ m) → IsTrue is
same_map known bytes m n is known_is decodes only decides =
    let read = subst (λ (known : Option (List ℕ)). IfSome known (λ xs. (due : Result MapValue Error)
    → BytesHaveResult RegularDecodes xs due → IsAnswerRead (λ (m : MapValue). m) (AreSame due) (Ok n))) known_is only in
    decides.1 (sym (read (Ok m) decodes))

first_taken : (lines : List (List ℕ)) → slice_get (take 4294967296 lines) 0 ≡ slice_get lines 0
first_taken [] = refl
first_taken (line ∷ lines) = refl

first_item : {S : Type 0} (rest : S → List (List ℕ)) (s t : S) (item : Option (Bor (List ℕ)))
    → YieldsFirstRef rest s item t → option_copied item ≡ slice_get (rest s) 0
first_item rest s t None steps = sym (ap (λ lines. slice_get lines 0) steps.0)
first_item rest s t (Some line) steps = sym (ap (λ lines. slice_get lines 0) steps)

-- the first item of an iterator over the first 4294967296 of these lines
pub first_left : {S : Type 0} (rest : S → List (List ℕ)) (s t : S) (lines : List (List ℕ))
    (item : Option (Bor (List ℕ)))
    → rest s ≡ take 4294967296 lines → YieldsFirstRef rest s item t → option_copied item ≡ slice_get lines 0
first_left rest s t lines item is steps =
    first_item rest s t item steps ∙ ap (λ lines. slice_get lines 0) is ∙ first_taken lines
