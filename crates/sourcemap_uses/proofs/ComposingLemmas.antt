-- The tokens of three build steps, composed by two calls of `compose`.
use Rattle.std.proofs.Common.{◌≡◌, ◌∙◌, sym, subst, ℕ, ◌≤◌, List, Result, Ok, Err, IfOk, inl, inr}
use Rattle.std.specs.declared.alloc.Global.{Global}
use Rattle.std.specs.declared.vec.Vec.{Vec}
use Rattle.sourcemap.specs.Answer.{Gives, IsAnswer, UnlessMemory}
use Rattle.sourcemap.specs.Composition.{composition, moved}
use Rattle.sourcemap.specs.Moved.{IsMovedAlone, origin}
use Rattle.sourcemap.specs.Tokens.{AllWithin, AreInOrder}
use Rattle.sourcemap.specs.declared.compose.Stretch.{Stretch}
use Rattle.sourcemap.specs.declared.errors.Error.{Error}
use Rattle.sourcemap.specs.declared.types.RawToken.{RawToken}
use Rattle.sourcemap_uses.specs.Composing.{ComposesTwice}
use Rattle.sourcemap_uses.proofs.RefusalLemmas.{unless_memory}

pub first_refused : (original second third : List RawToken) (e : Error)
    → UnlessMemory e (composition original second ≡ Err e) → UnlessMemory e (ComposesTwice original second third (Err e))
first_refused original second third e refused =
    unless_memory e (composition original second ≡ Err e) (ComposesTwice original second third (Err e))
    (λ is. inr (sym is)) refused

module _ (original second third middle : List RawToken) (is : composition original second ≡ Ok middle) where
  pub composed_twice : (r : Result (Vec RawToken Global) Error)
      → Gives (λ tokens. tokens.items) r (composition middle third)
      → IsAnswer (λ tokens. tokens.items) (ComposesTwice original second third) r
  composed_twice (Ok tokens) gives = inl (middle, sym is, sym gives)
  composed_twice (Err e) gives =
      unless_memory e (composition middle third ≡ Err e) (ComposesTwice original second third (Err e))
      (λ same. inl (middle, sym is, sym same)) gives

  -- the law of one move, applied to both moves
  pub moved_twice : ((sources names : ℕ) (original adjustment new : List RawToken) → AllWithin sources names original
      → composition original adjustment ≡ Ok new → AllWithin sources names new)
      → ((sources names : ℕ) (original adjustment new : List RawToken) (a : Stretch) (q : ℕ × ℕ)
      → AreInOrder original → sources ≤ 4294967295 → AllWithin sources names original
      → composition original adjustment ≡ Ok new → IsMovedAlone original adjustment a q
      → origin new (moved a q) ≡ origin original q)
      → AreInOrder middle → (r : Result (Vec RawToken Global) Error)
      → Gives (λ tokens. tokens.items) r (composition middle third)
      → (sources names : ℕ) (a b : Stretch) (q : ℕ × ℕ) (between : List RawToken) → AreInOrder original
      → sources ≤ 4294967295 → AllWithin sources names original → composition original second ≡ Ok between
      → IsMovedAlone original second a q → IsMovedAlone between third b (moved a q)
      → IfOk r (λ tokens. origin tokens.items (moved b (moved a q)) ≡ origin original q)
  moved_twice stay law sorted (Ok tokens) gives sources names a b q between in_order few within first_is alone later =
      let same : between ≡ middle = (let both = sym first_is ∙ is in cc) in
      law sources names middle third tokens.items b (moved a q) sorted few
      (stay sources names original second middle within is) gives
      (subst (λ tokens. IsMovedAlone tokens third b (moved a q)) same later)
      ∙ law sources names original second middle a q in_order few within is alone
  moved_twice stay law sorted (Err e) gives sources names a b q between in_order few within first_is alone later = tt
