-- All findings on bytes: the rules that they break, then what looks wrong in a valid map.
use Rattle.std.specs.Prelude.{◌≡◌, ℕ, ◌+◌, ◌<◌, nat_lt, if◌then◌else◌, Bool, true, false, List, [], ◌∷◌, fold, length, min, Option}
use Rattle.sourcemap_check.specs.Validity.{AreFindings, ArePlaces, IsValid}
use Rattle.sourcemap_check_report.specs.Report.{Reports}
use Rattle.sourcemap_check_report.specs.declared.report.Finding.{Finding}
use Rattle.sourcemap_check_report.specs.declared.report.Report.{Report}
use Rattle.sourcemap_check_suspicious.specs.Suspects.{Files, HasNone, LooksWrongOf}
use Rattle.sourcemap_check_suspicious.specs.declared.suspects.Suspicious.{Suspicious}
use Rattle.sourcemap_check_print.specs.Entries.{entries}
use Rattle.sourcemap_check_print.specs.declared.findings.Counts.{Counts}
use Rattle.sourcemap_check_print.specs.declared.findings.Findings.{Findings}
use Rattle.sourcemap_check_print.specs.declared.findings.Verdict.{Verdict}
use Rattle.sourcemap_check_print.specs.declared.findings.Verdict.TheVariants.{Invalid, Doubtful, Right}

-- how many findings there are. The number stops at 18446744073709551615
abbrev pub total : Report → ℕ
total report = fold (λ sum count. min (sum + count) 18446744073709551615) 0 report.counts

-- how much looks wrong. The number stops at 18446744073709551615
abbrev pub count_of : Suspicious → ℕ
count_of found = min (found.places.count + length found.shifts.items) 18446744073709551615

-- what looks wrong is shown of a valid map alone
abbrev pub AreShown : (most : ℕ) → (is_valid : Bool) → (bytes : List ℕ) → (generated name : Option (List ℕ)) → Files → Suspicious → Type 0
AreShown most true bytes generated name files found = LooksWrongOf most bytes generated name files found
AreShown most false bytes generated name files found = HasNone found

abbrev pub has_none : List Finding → Bool
has_none [] = true
has_none (finding ∷ findings) = false

-- the findings on these bytes: of each code the first `most`; the counts are of all
pub record Shows (most : ℕ) (bytes : List ℕ) (generated name : Option (List ℕ)) (files : Files) (shown : Findings) : Type 0 where
  pub all : List Finding
  pub report : Report
  pub found : Suspicious
  pub findings : AreFindings bytes all
  pub reports : Reports most all report
  pub looks_wrong : AreShown most (has_none all) bytes generated name files found
  pub places : ArePlaces bytes shown.maps.items
  pub entries_are : shown.entries.items ≡ entries report.findings.items found
  pub invalid : shown.counts.invalid ≡ total report
  pub suspicious : shown.counts.suspicious ≡ count_of found

abbrev pub verdict_of : (is_valid : Bool) → (count : ℕ) → Verdict
verdict_of false count = Invalid
verdict_of true count = if nat_lt 0 count then Doubtful else Right

-- what looks wrong in these bytes is as many as `Has` says
abbrev pub HasCount : (most : ℕ) → (bytes : List ℕ) → (generated name : Option (List ℕ)) → Files → (Has : ℕ → Type 0) → Type 0
HasCount most bytes generated name files Has =
    (found : Suspicious) × LooksWrongOf most bytes generated name files found × Has (count_of found)

-- whether the bytes are a valid map, and whether something looks wrong in it
abbrev pub HasVerdict : (most : ℕ) → Verdict → (bytes : List ℕ) → (generated name : Option (List ℕ)) → Files → Type 0
HasVerdict most Invalid bytes generated name files = ¬ IsValid bytes
HasVerdict most Doubtful bytes generated name files = IsValid bytes × HasCount most bytes generated name files (λ count. 0 < count)
HasVerdict most Right bytes generated name files = IsValid bytes × HasCount most bytes generated name files (λ count. count ≡ 0)
