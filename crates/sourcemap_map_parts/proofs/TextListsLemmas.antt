-- Equality of mapped lists and options; `same_text` decides whether texts are equal.
use Rattle.std.proofs.Common.{◌≡◌, ℕ, List, [], ◌∷◌, Bool, ◌&&◌, map, Option, Some, None, option_map, refl, ap}
use Rattle.std.specs.Bool.{Decides}
use Rattle.std.specs.Option.{option_eq}
use Rattle.std.specs.Cmp.{unsigned_Decides}
use Rattle.std.specs.Cmp.Lexicographic.{pointwise, pointwise_decides}
use Rattle.sourcemap_map_parts.specs.TextLists.{same_text}

module _ {A B : Type 0} where
  pub option_eq-map : (E : B → B → Bool) (f : A → B) (x y : Option A)
      → option_eq (λ a b. E (f a) (f b)) x y ≡ option_eq E (option_map f x) (option_map f y)
  option_eq-map E f None None = refl
  option_eq-map E f None (Some y) = refl
  option_eq-map E f (Some x) None = refl
  option_eq-map E f (Some x) (Some y) = refl

  pub pointwise-map : (D : A → A → Bool) (E : B → B → Bool) (f : A → B) → ((x y : A) → D x y ≡ E (f x) (f y))
      → (xs ys : List A) → pointwise D xs ys ≡ pointwise E (map f xs) (map f ys)
  pointwise-map D E f same [] [] = refl
  pointwise-map D E f same [] (y ∷ ys) = refl
  pointwise-map D E f same (x ∷ xs) [] = refl
  pointwise-map D E f same (x ∷ xs) (y ∷ ys) = λ i. same x y i && pointwise-map D E f same xs ys i

-- tests that decide equality

pub options_decide : {X : Type 0} {E : X → X → Bool} → ((x y : X) → Decides (E x y) (x ≡ y)) → (a b : Option X)
    → Decides (option_eq E a b) (a ≡ b)
options_decide each None None = (λ h. refl, λ h. refl)
options_decide each None (Some y) = (λ h. cc, λ h. cc)
options_decide each (Some x) None = (λ h. cc, λ h. cc)
options_decide each (Some x) (Some y) =
    (λ h. ap Some ((each x y).0 h), λ h. (each x y).1 (let same : x ≡ y = cc in same))

pub texts_decide : (a b : List ℕ) → Decides (same_text a b) (a ≡ b)
texts_decide = pointwise_decides unsigned_Decides

pub text_lists_decide : (a b : List (List ℕ)) → Decides (pointwise same_text a b) (a ≡ b)
text_lists_decide = pointwise_decides texts_decide
