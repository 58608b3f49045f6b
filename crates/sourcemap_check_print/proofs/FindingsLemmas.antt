-- What a report says of a map.
use Rattle.std.proofs.Common.{◌≡◌, ◌↔◌, ◌==◌, ◌<◌, ℕ, suc, arith, Bool, true, false, List, [], ◌∷◌, ◌++◌, length, refl, sym, ap, ◌∙◌}
use Rattle.std.specs.Prelude.{Option, nat_lt, if◌then◌else◌}
use Rattle.std.proofs.lemmas.Bool.{lt-ltb, ltb-true, ltb-false, ne_eqb}
use Rattle.sourcemap_check.specs.Validity.{IsValid}
use Rattle.sourcemap_check_report.specs.Report.{first_of_each}
use Rattle.sourcemap_check_report.specs.declared.report.Finding.{Finding}
use Rattle.sourcemap_check_suspicious.specs.Suspects.{Files}
use Rattle.sourcemap_check_suspicious.specs.declared.suspects.Suspicious.{Suspicious}
use Rattle.sourcemap_check_print.specs.Findings.{AreShown, HasVerdict, count_of, has_none, verdict_of}

-- the first finding is kept
none_kept : (most : ℕ) (all : List Finding) → 0 < most → (length (first_of_each most [] all) == 0) ≡ has_none all
none_kept most [] some = refl
none_kept most (finding ∷ findings) some =
    let later = first_of_each most (finding ∷ []) findings in
    ap (λ b. length ((if b then finding ∷ [] else []) ++ later) == 0) (lt-ltb 0 most some)
    ∙ ne_eqb (length (finding ∷ later)) 0 (λ is. let no : suc (length later) ≡ 0 = is in omega (arith, no))

-- let `kept` be the findings of a report on `all`, and `is_valid` whether there are none
pub none_found : (most : ℕ) (all kept : List Finding) (is_valid : Bool) → 0 < most
    → kept ≡ first_of_each most [] all → is_valid ≡ (length kept == 0) → is_valid ≡ has_none all
none_found most all kept is_valid some are is =
    is ∙ ap (λ found. length found == 0) are ∙ none_kept most all some

nil_if_none : (all : List Finding) → has_none all ≡ true → all ≡ []
nil_if_none [] is = refl
nil_if_none (finding ∷ findings) is = absurd cc

module _ (most : ℕ) (all : List Finding) (bytes : List ℕ) (generated name : Option (List ℕ)) (files : Files)
    (found : Suspicious) (decided : (all ≡ []) ↔ (IsValid bytes)) where
  none : (count : ℕ) → nat_lt 0 count ≡ false → count ≡ 0
  none count is = let least = ltb-false 0 count is in omega arith

  by_count : IsValid bytes → AreShown most true bytes generated name files found → (b : Bool)
      → nat_lt 0 (count_of found) ≡ b → HasVerdict most (verdict_of true (count_of found)) bytes generated name files
  by_count valid shown true e = rw e (valid, (found, shown, ltb-true 0 (count_of found) e))
  by_count valid shown false e = rw e (valid, (found, shown, none (count_of found) e))

  pub verdict_holds : (is_valid : Bool) → is_valid ≡ has_none all
      → AreShown most is_valid bytes generated name files found
      → HasVerdict most (verdict_of is_valid (count_of found)) bytes generated name files
  verdict_holds false is shown = λ valid. let no : false ≡ true = is ∙ ap has_none (decided.1 valid) in cc
  verdict_holds true is shown =
      by_count (decided.0 (nil_if_none all (sym is))) shown (nat_lt 0 (count_of found)) refl
