-- The report of a check in a handle.
use Rattle.std.specs.Prelude.{ℕ, ◌==◌, cond, List, length, max, Option, Some, None, option_map, slice_get, string_bytes}
use Rattle.sourcemap_check_suspicious.specs.Suspects.{Files}
use Rattle.sourcemap_c_check.specs.Report.{IsReportOn}
use Rattle.sourcemap_c_handles.specs.declared.report.CheckReport.{CheckReport}
use Rattle.sourcemap_c_handles.specs.declared.report.FindingNumbers.{FindingNumbers}
use Rattle.sourcemap_c_handles.specs.declared.report.ReportFinding.{ReportFinding}
use Rattle.sourcemap_c.specs.Segments.{overwritten}

-- the handle has the report on these bytes, beside a generated text, the name of the map's file and files of sources, if
-- they are given
abbrev pub HoldsReport : (most : ℕ) → (bytes : List ℕ) → (generated name : Option (List ℕ)) → Files → Option CheckReport → Type 0
HoldsReport most bytes generated name files (Some report) = IsReportOn (max most 1) bytes generated name files report
HoldsReport most bytes generated name files None = ⊥

-- the name of the map's file: none if there are no bytes
abbrev pub name_in : (bytes : List ℕ) → Option (List ℕ)
name_in bytes = cond (length bytes == 0) None (Some bytes)

abbrev pub finding_at : ℕ → CheckReport → Option ReportFinding
finding_at index report = slice_get report.findings.items index

abbrev pub numbers_at : ℕ → CheckReport → Option FindingNumbers
numbers_at index report = option_map (λ finding. finding.numbers) (finding_at index report)

abbrev pub sections_at : ℕ → CheckReport → Option (List ℕ)
sections_at index report = option_map (λ finding. finding.sections.items) (finding_at index report)

abbrev pub key_at : ℕ → CheckReport → Option (List ℕ)
key_at index report = option_map (λ finding. string_bytes finding.key) (finding_at index report)

abbrev pub sentence_at : ℕ → CheckReport → Option (List ℕ)
sentence_at index report = option_map (λ finding. string_bytes finding.sentence) (finding_at index report)

-- an array after sections were written to it, as many as fit, and how many there are
abbrev pub written : (array : List ℕ) → (sections : List ℕ) → List ℕ × ℕ
written array sections = (overwritten sections array, length sections)
