-- The report of a check as C sees it: the findings, and how many there are.
use Rattle.std.specs.Prelude.{◌≡◌, ◌↔◌, ℕ, pos, List, length, map, string_bytes, Option}
use Rattle.sourcemap_check.specs.Validity.{IsValid}
use Rattle.sourcemap_check.specs.declared.tree.MapPlace.{MapPlace}
use Rattle.sourcemap_check_suspicious.specs.Suspects.{Files}
use Rattle.sourcemap_check_print.specs.Entries.{code_of, position_of, sentence_of}
use Rattle.sourcemap_check_print.specs.Findings.{Shows}
use Rattle.sourcemap_check_print.specs.Places.{key_text, map_of, sections_of}
use Rattle.sourcemap_check_print.specs.declared.entries.Entry.{Entry}
use Rattle.sourcemap_check_print.specs.declared.entries.Entry.TheVariants.{Invalid, Doubtful, Off}
use Rattle.sourcemap_check_print.specs.declared.entries.Position.{Position}
use Rattle.sourcemap_check_print.specs.declared.entries.Position.TheVariants.{Nowhere, Segment, Token, Shift}
use Rattle.sourcemap_check_print.specs.declared.findings.Findings.{Findings}
use Rattle.sourcemap_c_handles.specs.declared.report.CheckReport.{CheckReport}
use Rattle.sourcemap_c_handles.specs.declared.report.FindingNumbers.{FindingNumbers}
use Rattle.sourcemap_c_handles.specs.declared.report.ReportFinding.{ReportFinding}

-- `SM_INVALID` or `SM_SUSPICIOUS`
abbrev pub severity_of : Entry → ℕ
severity_of (Invalid finding) = 0
severity_of (Doubtful suspect) = 1
severity_of (Off shifted) = 1

-- `sm_finding` with a code and a severity, and the numbers of a position. `place` is `SM_PLACE_..`
abbrev pub numbers_at : (code severity : ℕ) → Position → FindingNumbers
numbers_at code severity Nowhere =
    record { code = code; severity = severity; place = 0; lines = pos 0; columns = pos 0; line = 0; index = 0 }
numbers_at code severity (Segment line index) =
    record { code = code; severity = severity; place = 1; lines = pos 0; columns = pos 0; line = line; index = index }
numbers_at code severity (Token line column) =
    record { code = code; severity = severity; place = 2; lines = pos 0; columns = pos 0; line = line; index = column }
numbers_at code severity (Shift lines columns) =
    record { code = code; severity = severity; place = 3; lines = lines; columns = columns; line = 0; index = 0 }

-- `sm_finding` of a finding
abbrev pub numbers_of : Entry → FindingNumbers
numbers_of entry = numbers_at (code_of entry) (severity_of entry) (position_of entry)

pub record FindingValue : Type 0 where
  pub numbers : FindingNumbers
  pub sections : List ℕ
  pub key : List ℕ
  pub sentence : List ℕ

abbrev pub finding_value : ReportFinding → FindingValue
finding_value made = record {
  numbers = made.numbers;
  sections = made.sections.items;
  key = string_bytes made.key;
  sentence = string_bytes made.sentence;
}

-- a finding as it is reported: with the sections that lead to its map, its key and its sentence
abbrev pub shown : (maps : List MapPlace) → Entry → FindingValue
shown maps entry = record {
  numbers = numbers_of entry;
  sections = sections_of maps (map_of entry);
  key = key_text entry;
  sentence = sentence_of entry;
}

-- the report has these findings, and their counts
pub record IsReportOf (found : Findings) (report : CheckReport) : Type 0 where
  pub findings : map finding_value report.findings.items ≡ map (shown found.maps.items) found.entries.items
  pub invalid : report.counts.invalid ≡ found.counts.invalid
  pub suspicious : report.counts.suspicious ≡ found.counts.suspicious
  pub kept : report.counts.findings ≡ length found.entries.items

-- the report on these bytes beside a generated text, the name of the map's file and the files of sources, if they are
-- given: the first `most` findings of each code, and counts of all. The bytes are a valid map exactly if none is invalid
pub record IsReportOn (most : ℕ) (bytes : List ℕ) (generated name : Option (List ℕ)) (files : Files) (report : CheckReport)
    : Type 0 where
  pub found : Findings
  pub shows : Shows most bytes generated name files found
  pub reported : IsReportOf found report
  pub valid : (report.counts.invalid ≡ 0) ↔ IsValid bytes
