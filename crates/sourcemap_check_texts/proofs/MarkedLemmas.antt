-- The indexes at which a test holds are those that are marked.
use Rattle.std.proofs.Common.{◌≡◌, ℕ, zero, suc, ◌<◌, Bool, true, false, cond, [], ◌∷◌, ◌++◌, sym, ◌∙◌, ap}
use Rattle.std.proofs.Common.{subst, arith, inl, inr, append-nil}
use Rattle.std.specs.Prelude.{◌↔◌}
use Rattle.std.specs.List.{Contains}
use Rattle.std.proofs.lemmas.Bool.{cases_Bool, cases_lt}
use Rattle.std.proofs.lemmas.List.Elements.{Contains-append_left, Contains-push, Contains-push_cases}
use Rattle.sourcemap_check_texts.specs.Doubts.{marked}

none_in : (i : ℕ) → Contains [] i → ⊥
none_in i h = let k = h.1 in absurd (omega arith)

marked_yes : (test : ℕ → Bool) (n : ℕ) → test n ≡ true → marked test (suc n) ≡ marked test n ++ n ∷ []
marked_yes test n e = ap (λ b. marked test n ++ cond b (n ∷ []) []) e

marked_no : (test : ℕ → Bool) (n : ℕ) → test n ≡ false → marked test (suc n) ≡ marked test n
marked_no test n e = ap (λ b. marked test n ++ cond b (n ∷ []) []) e ∙ append-nil (marked test n)

marked-holds : (test : ℕ → Bool) (n i : ℕ) → Contains (marked test n) i → (i < n) × (test i ≡ true)
marked-holds test zero i h = absurd (none_in i h)
marked-holds test (suc n) i h =
    elim (cases_Bool (test n)) [
      | inl holds ↦
          elim (Contains-push_cases (marked test n) n i (subst (λ xs. Contains xs i) (marked_yes test n holds) h)) [
            | inl before ↦ (let there = marked-holds test n i before in (omega (arith, there.0), there.1))
            | inr here ↦ (omega arith, subst (λ k. test k ≡ true) here holds)
          ]
      | inr fails ↦
          let there = marked-holds test n i (subst (λ xs. Contains xs i) (marked_no test n fails) h) in
          (omega (arith, there.0), there.1)
    ]

marked-has : (test : ℕ → Bool) (n i : ℕ) → i < n → test i ≡ true → Contains (marked test n) i
marked-has test zero i l e = absurd (omega arith)
marked-has test (suc n) i l e =
    elim (cases_lt i n) [
      | inl below ↦ Contains-append_left (marked test n) (cond (test n) (n ∷ []) []) i (marked-has test n i below e)
      | inr above ↦
          let same : n ≡ i = omega arith in
          let holds : test n ≡ true = ap test same ∙ e in
          subst (λ xs. Contains xs i) (sym (marked_yes test n holds))
          (subst (λ k. Contains (marked test n ++ n ∷ []) k) same (Contains-push (marked test n) n))
    ]

pub marked-exactly : (test : ℕ → Bool) (count index : ℕ)
    → Contains (marked test count) index ↔ ((index < count) × (test index ≡ true))
marked-exactly test count index = (marked-holds test count index, λ h. marked-has test count index h.0 h.1)
