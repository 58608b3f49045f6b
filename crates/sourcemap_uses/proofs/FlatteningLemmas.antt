-- Comparing two lookups decides whether the meaning of a position is kept.
use Rattle.std.proofs.Common.{◌≡◌, ℕ, Bool, Option, Some, IfSome, subst}
use Rattle.std.specs.Bool.{Decides}
use Rattle.sourcemap.specs.Trees.{MapTree, meaning as meaning_of}
use Rattle.sourcemap.specs.Types.{MapValue, Meaning, meaning}

pub decided : (t : MapTree) (m : MapValue) (p : ℕ × ℕ) (r : Bool) (before after : Option Meaning)
    → before ≡ meaning_of t p → after ≡ meaning m p → Decides r (IfSome before (λ says. after ≡ Some says))
    → Decides r (IfSome (meaning_of t p) (λ says. meaning m p ≡ Some says))
decided t m p r before after here there same =
    subst (λ o. Decides r (IfSome o (λ says. meaning m p ≡ Some says))) here
    (subst (λ o. Decides r (IfSome before (λ says. o ≡ Some says))) there same)
