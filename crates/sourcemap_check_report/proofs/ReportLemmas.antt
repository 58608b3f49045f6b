-- Lemmas on reports.
use Rattle.std.proofs.Common.{◌≡◌, ℕ, ◌+◌, ◌<◌, ◌≤◌, ◌==◌, cond, min, List, [], ◌∷◌, ◌++◌, length}
use Rattle.std.proofs.Common.{zero, suc, replicate, slice_index, set, sym, ◌∙◌, ap, refl, subst, append_assoc, arith, get_or-set_same}
use Rattle.std.proofs.Common.{get_or-set_other, inl, inr}
use Rattle.std.specs.Prelude.{nat_lt, if◌then◌else◌}
use Rattle.std.proofs.lemmas.Bool.{cases_eq, eq-eqb, ne_eqb, lt-ltb, le-ltb}
use Rattle.std.proofs.lemmas.List.{append-nil}
use Rattle.std.proofs.lemmas.List.Sums.{fold_push}
use Rattle.sourcemap_check_report.specs.declared.rules.Rule.{Rule}
use Rattle.sourcemap_check_report.specs.declared.report.Finding.{Finding}
use Rattle.sourcemap_check_report.specs.declared.report.Report.{Report}
use Rattle.sourcemap_check_report.specs.Numbers.{number_of}
use Rattle.sourcemap_check_report.specs.Report.{Reports, count_at, count_of, first_of_each}

abbrev pub finding_of : Rule → (own line index : ℕ) → Finding
finding_of rule own line index = record { rule = rule; map = own; line = line; index = index }

-- a finding is made of its fields
pub finding_is : (f : Finding) (rule : Rule) (own line index : ℕ) → f.rule ≡ rule → f.map ≡ own → f.line ≡ line
    → f.index ≡ index → finding_of rule own line index ≡ f
finding_is f rule own line index e m l i =
    ap (λ r. finding_of r own line index) (sym e)
    ∙ (ap (λ o. finding_of f.rule o line index) (sym m)
    ∙ (ap (λ n. finding_of f.rule f.map n index) (sym l) ∙ ap (λ k. finding_of f.rule f.map f.line k) (sym i)))

pub count_at-more : (number : ℕ) (findings : List Finding) (finding : Finding)
    → count_at number (findings ++ finding ∷ [])
    ≡ count_at number findings + cond (number_of finding.rule == number) 1 0
count_at-more number findings finding =
    fold_push (λ n x. n + cond (number_of x.rule == number) 1 0) 0 findings finding

abbrev one_if : ℕ → ℕ → Finding → List Finding
one_if count most finding = if nat_lt count most then finding ∷ [] else []

pub first_of_each-more : (most : ℕ) (before findings : List Finding) (finding : Finding)
    → first_of_each most before (findings ++ finding ∷ [])
    ≡ first_of_each most before findings ++ one_if (count_of finding.rule (before ++ findings)) most finding
first_of_each-more most before [] finding =
    append-nil (one_if (count_of finding.rule before) most finding)
    ∙ ap (λ fs. one_if (count_of finding.rule fs) most finding) (sym (append-nil before))
first_of_each-more most before (f ∷ findings) finding =
    ap (λ fs. one_if (count_of f.rule before) most f ++ fs) (first_of_each-more most (before ++ f ∷ []) findings finding)
    ∙ (sym (append_assoc (one_if (count_of f.rule before) most f) (first_of_each most (before ++ f ∷ []) findings)
    (one_if (count_of finding.rule ((before ++ f ∷ []) ++ findings)) most finding))
    ∙ ap (λ fs. (one_if (count_of f.rule before) most f ++ first_of_each most (before ++ f ∷ []) findings)
    ++ one_if (count_of finding.rule fs) most finding) (append_assoc before (f ∷ []) findings))

-- the counts of a report without findings
pub counts_none : (n number : ℕ) → slice_index (replicate n 0) number ≡ 0
counts_none zero number = refl
counts_none (suc n) zero = refl
counts_none (suc n) (suc number) = counts_none n number

-- the counts after one more finding
counts_more : (all : List Finding) (finding : Finding) (counts : List ℕ) (count : ℕ)
    → ((number : ℕ) → slice_index counts number ≡ min (count_at number all) 18446744073709551615)
    → number_of finding.rule < length counts
    → count ≡ min (slice_index counts (number_of finding.rule) + 1) 18446744073709551615
    → (number : ℕ) → slice_index (set counts (number_of finding.rule) count) number
    ≡ min (count_at number (all ++ finding ∷ [])) 18446744073709551615
counts_more all finding counts count h within e number =
    let more = count_at-more number all finding in
    let own = h number in
    elim (cases_eq (number_of finding.rule) number) [
      | inl same ↦
          let one : ◌≡◌ {A = ℕ} (cond (number_of finding.rule == number) 1 0) 1 = rw (eq-eqb _ _ same) refl in
          let there : slice_index (set counts number count) number ≡ count =
          get_or-set_same counts number count 0 (subst (λ i. i < length counts) same within) in
          let before : count ≡ min (slice_index counts number + 1) 18446744073709551615 =
          subst (λ i. count ≡ min (slice_index counts i + 1) 18446744073709551615) same e in
          rw same (omega (arith, there, before, more, one, own))
      | inr differs ↦
          let none : ◌≡◌ {A = ℕ} (cond (number_of finding.rule == number) 1 0) 0 = rw (ne_eqb _ _ differs) refl in
          let there : slice_index (set counts (number_of finding.rule) count) number ≡ slice_index counts number =
          get_or-set_other counts (number_of finding.rule) number count 0 (λ q. differs (sym q)) in
          omega (arith, there, more, none, own)
    ]

-- a finding that is kept
pub Reports-kept : (most : ℕ) (all : List Finding) (finding : Finding) (old new : Report)
    → Reports most all old → number_of finding.rule < length old.counts → most < 18446744073709551616
    → slice_index old.counts (number_of finding.rule) < most → new.findings.items ≡ old.findings.items ++ finding ∷ []
    → (count : ℕ) → count ≡ min (slice_index old.counts (number_of finding.rule) + 1) 18446744073709551615
    → new.counts ≡ set old.counts (number_of finding.rule) count
    → Reports most (all ++ finding ∷ []) new
Reports-kept most all finding old new reports within small few items count e counts =
    let own = reports.counts (number_of finding.rule) in
    let below : count_of finding.rule all < most = omega (arith, own) in
    record {
      findings = items ∙ (ap (λ fs. fs ++ finding ∷ []) reports.findings
          ∙ sym (first_of_each-more most [] all finding ∙ rw (lt-ltb _ _ below) refl));
      counts = λ number. rw counts (counts_more all finding old.counts count reports.counts within e number);
    }

-- a finding that is counted only
pub Reports-counted : (most : ℕ) (all : List Finding) (finding : Finding) (old new : Report)
    → Reports most all old → number_of finding.rule < length old.counts → most < 18446744073709551616
    → most ≤ slice_index old.counts (number_of finding.rule) → new.findings.items ≡ old.findings.items
    → (count : ℕ) → count ≡ min (slice_index old.counts (number_of finding.rule) + 1) 18446744073709551615
    → new.counts ≡ set old.counts (number_of finding.rule) count
    → Reports most (all ++ finding ∷ []) new
Reports-counted most all finding old new reports within small many items count e counts =
    let own = reports.counts (number_of finding.rule) in
    let above : most ≤ count_of finding.rule all = omega (arith, own) in
    record {
      findings = items ∙ (reports.findings
          ∙ sym (first_of_each-more most [] all finding ∙ (rw (le-ltb _ _ above) (append-nil (first_of_each most [] all)))));
      counts = λ number. rw counts (counts_more all finding old.counts count reports.counts within e number);
    }
