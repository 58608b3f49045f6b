-- The report of a check, as it is printed.
use Rattle.std.specs.Prelude.{◌≡◌, ℕ, List, Option}
use Rattle.sourcemap_check_suspicious.specs.Suspects.{Files}
use Rattle.sourcemap_check_print.specs.Findings.{Shows}
use Rattle.sourcemap_check_print.specs.Json.{json_text}
use Rattle.sourcemap_check_print.specs.Lines.{lines_text}
use Rattle.sourcemap_check_print.specs.declared.findings.Findings.{Findings}
use Rattle.sourcemap_check_print.specs.declared.print.Form.{Form}
use Rattle.sourcemap_check_print.specs.declared.print.Form.TheVariants.{Lines, Json}
use Rattle.sourcemap_check_print.specs.declared.print.TheConstants.{MOST}

abbrev pub report_text : Form → Findings → List ℕ
report_text Lines found = lines_text found.maps.items found.entries.items found.counts
report_text Json found = json_text found.maps.items found.entries.items found.counts

-- the text is the report on these bytes: of their findings, `MOST` are shown of each code, and all are counted
pub record IsReportOf (form : Form) (bytes : List ℕ) (generated name : Option (List ℕ)) (files : Files) (text : List ℕ)
    : Type 0 where
  pub found : Findings
  pub shows : Shows MOST bytes generated name files found
  pub printed : text ≡ report_text form found
