-- A report: the first findings of each rule, and how many findings each rule has.
use Rattle.std.specs.Prelude.{◌≡◌, ℕ, ◌==◌, nat_lt, min, if◌then◌else◌, List, [], ◌∷◌, ◌++◌, count_by, slice_index}
use Rattle.sourcemap_check_report.specs.declared.rules.Rule.{Rule}
use Rattle.sourcemap_check_report.specs.declared.report.Finding.{Finding}
use Rattle.sourcemap_check_report.specs.declared.report.Report.{Report}
use Rattle.sourcemap_check_report.specs.Numbers.{number_of}

-- how many findings have the rule with this number
abbrev pub count_at : ℕ → List Finding → ℕ
count_at number findings = count_by (λ finding. number_of finding.rule == number) findings

-- how many findings have this rule
abbrev pub count_of : Rule → List Finding → ℕ
count_of rule findings = count_at (number_of rule) findings

-- the findings that fewer than `most` findings of their rule come before, among `before` and in the list itself
abbrev pub first_of_each : (most : ℕ) → (before findings : List Finding) → List Finding
first_of_each most before [] = []
first_of_each most before (finding ∷ findings) =
    (if nat_lt (count_of finding.rule before) most then finding ∷ [] else [])
    ++ first_of_each most (before ++ finding ∷ []) findings

-- the report of these findings, with at most `most` of each rule. A count stops at 18446744073709551615. At a number that
-- no rule has it is 0
pub record Reports (most : ℕ) (all : List Finding) (report : Report) : Type 0 where
  pub findings : report.findings.items ≡ first_of_each most [] all
  pub counts : (number : ℕ) → slice_index report.counts number ≡ min (count_at number all) 18446744073709551615
