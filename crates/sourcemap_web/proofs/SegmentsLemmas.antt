-- The numbers of a segment, one after another.
use Rattle.std.proofs.Common.{◌≡◌, ◌≤◌, ◌<◌, ◌+◌, ◌∙◌, ◌++◌, ℕ, ℤ, zero, suc, List, [], ◌∷◌, Some, arith, length, refl, slice_get, slice_set, subst, sym, inl, inr}
use Rattle.std.proofs.lemmas.Bool.{cases_eq}
use Rattle.std.proofs.lemmas.List.{length_push}
use Rattle.sourcemap_c_compiled.proofs.LookupsLemmas.{set_here, set_other}
use Rattle.sourcemap_web.specs.Segments.{AreWritten}

-- the item that was added, and those before it
added_here : {X : Type 0} (xs : List X) (x : X) → slice_get (xs ++ x ∷ []) (length xs) ≡ Some x
added_here [] x = refl
added_here (y ∷ xs) x = added_here xs x

added_before : {X : Type 0} (xs : List X) (i : ℕ) (x : X) → i < length xs → slice_get (xs ++ x ∷ []) i ≡ slice_get xs i
added_before [] i x less = absurd (omega arith)
added_before (y ∷ xs) zero x less = refl
added_before (y ∷ xs) (suc i) x less = added_before xs i x (omega arith)

pub none_written : (old : List ℤ) → AreWritten [] old old
none_written old = record { each = λ i less inside. absurd (omega arith); rest = λ i from. refl }

module _ (numbers old new : List ℤ) (number : ℤ) (before : AreWritten numbers old new) (long : length new ≡ length old) where
  longer : length (numbers ++ number ∷ []) ≡ length numbers + 1
  longer = length_push numbers number

  -- one number more, which fits
  pub one_written : length numbers < length new
      → AreWritten (numbers ++ number ∷ []) old (slice_set new (length numbers) number)
  one_written fits = record {
    each = λ i less inside. elim (cases_eq i (length numbers)) [
      | inl here ↦ subst (λ k. slice_get (slice_set new (length numbers) number) k ≡ slice_get (numbers ++ number ∷ []) k)
          (sym here) (set_here new (length numbers) number fits ∙ sym (added_here numbers number))
      | inr other ↦
          let ahead : i < length numbers = omega (arith, longer) in
          set_other new (length numbers) i number other ∙ before.each i ahead inside
          ∙ sym (added_before numbers i number ahead)
    ];
    rest = λ i from. set_other new (length numbers) i number (λ same. absurd (omega (arith, longer)))
        ∙ before.rest i (omega (arith, longer));
  }

  -- one number more, which does not fit
  pub one_left_out : length new ≤ length numbers → AreWritten (numbers ++ number ∷ []) old new
  one_left_out full = record {
    each = λ i less inside.
        let ahead : i < length numbers = omega arith in
        before.each i ahead inside ∙ sym (added_before numbers i number ahead);
    rest = λ i from. before.rest i (omega (arith, longer));
  }
