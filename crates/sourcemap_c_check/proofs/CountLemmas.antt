-- The number of all findings of rules is 0 exactly if there is none.
use Rattle.std.proofs.Common.{◌≡◌, ◌≤◌, ◌+◌, ◌==◌, ◌↔◌, ◌∙◌, ℕ, zero, suc, Bool, List, [], ◌∷◌, arith, ap, cond, fold, get_or, min, refl, sym}
use Rattle.std.proofs.lemmas.Bool.{eq-eqb}
use Rattle.sourcemap_check_print.specs.Findings.{total}
use Rattle.sourcemap_check_report.specs.Numbers.{number_of}
use Rattle.sourcemap_check_report.specs.Report.{Reports, count_at}
use Rattle.sourcemap_check_report.specs.declared.report.Finding.{Finding}
use Rattle.sourcemap_check_report.specs.declared.report.Report.{Report}

-- a sum that stops
abbrev stopped : ℕ → ℕ → ℕ
stopped sum count = min (sum + count) 18446744073709551615

starts_at_0 : (counts : List ℕ) (start : ℕ) → fold stopped start counts ≡ 0 → start ≡ 0
starts_at_0 [] start is = is
starts_at_0 (count ∷ counts) start is =
    let first : stopped start count ≡ 0 = starts_at_0 counts (stopped start count) is in omega arith

each_is_0 : (counts : List ℕ) (start : ℕ) → fold stopped start counts ≡ 0 → (i : ℕ) → get_or counts i 0 ≡ 0
each_is_0 [] start is i = refl
each_is_0 (count ∷ counts) start is zero =
    let first : stopped start count ≡ 0 = starts_at_0 counts (stopped start count) is in omega arith
each_is_0 (count ∷ counts) start is (suc i) = each_is_0 counts (stopped start count) is i

sum_is_0 : (counts : List ℕ) (start : ℕ) → start ≡ 0 → ((i : ℕ) → get_or counts i 0 ≡ 0) → fold stopped start counts ≡ 0
sum_is_0 [] start is each = is
sum_is_0 (count ∷ counts) start is each =
    let first : count ≡ 0 = each zero in
    sum_is_0 counts (stopped start count) (omega arith) (λ i. each (suc i))

grows : {X : Type 0} (f : X → ℕ) (xs : List X) (start least : ℕ) → least ≤ start → least ≤ fold (λ a x. a + f x) start xs
grows f [] start least within = within
grows f (x ∷ xs) start least within = grows f xs (start + f x) least (omega arith)

abbrev one_if : Bool → ℕ
one_if b = cond b 1 0

counts_itself : (finding : Finding) (findings : List Finding)
    → 1 ≤ count_at (number_of finding.rule) (finding ∷ findings)
counts_itself finding findings =
    let n : ℕ = number_of finding.rule in
    let itself : one_if (n == n) ≡ 1 = ap one_if (eq-eqb n n refl) in
    grows (λ other. one_if (number_of other.rule == n)) findings (0 + one_if (n == n)) 1 (omega (arith, itself))

none_found : (most : ℕ) (all : List Finding) (report : Report) → Reports most all report → total report ≡ 0 → all ≡ []
none_found most [] report reports is = refl
none_found most (finding ∷ findings) report reports is =
    let n = number_of finding.rule in
    let none : get_or report.counts n 0 ≡ 0 = each_is_0 report.counts 0 is n in
    let some : 1 ≤ count_at n (finding ∷ findings) = counts_itself finding findings in
    absurd (omega (arith, reports.counts n, none, some))

nothing_counted : (most : ℕ) (all : List Finding) (report : Report) → Reports most all report → all ≡ [] → total report ≡ 0
nothing_counted most all report reports is =
    sum_is_0 report.counts 0 refl (λ n. reports.counts n ∙ ap (λ found. min (count_at n found) 18446744073709551615) is)

pub valid_if_0 : (most : ℕ) (all : List Finding) (report : Report) (invalid : ℕ) (Valid : Type 0) → Reports most all report
    → invalid ≡ total report → ((all ≡ []) ↔ Valid) → (invalid ≡ 0) ↔ Valid
valid_if_0 most all report invalid Valid reports is_total decided = (
  λ none. decided.0 (none_found most all report reports (sym is_total ∙ none)),
  λ valid. is_total ∙ nothing_counted most all report reports (decided.1 valid),
)
