-- What a report shows: findings of the rules, then what looks wrong.
use Rattle.std.specs.Prelude.{ℕ, ◌+◌, List, ◌++◌, codes, map}
use Rattle.sourcemap_check_report.specs.Numbers.{number_of}
use Rattle.sourcemap_check_report.specs.declared.report.Finding.{Finding}
use Rattle.sourcemap_check_report.specs.declared.rules.Rule.{Rule}
use Rattle.sourcemap_check_report.specs.declared.rules.Rule.TheVariants.{Segment as SegmentRule}
use Rattle.sourcemap_check_suspicious.specs.Codes.{code_of as suspicion_code}
use Rattle.sourcemap_check_suspicious.specs.Shifted.{code_of_shifted}
use Rattle.sourcemap_check_suspicious.specs.declared.shifted.Shifted.{Shifted}
use Rattle.sourcemap_check_suspicious.specs.declared.shifted.Shifted.TheVariants.{Original, Generated}
use Rattle.sourcemap_check_suspicious.specs.declared.suspects.Suspect.{Suspect}
use Rattle.sourcemap_check_suspicious.specs.declared.suspects.Suspicion.{Suspicion}
use Rattle.sourcemap_check_suspicious.specs.declared.suspects.Suspicion.TheVariants.{Token as TokenSuspicion, Item}
use Rattle.sourcemap_check_suspicious.specs.declared.suspects.Suspicion.TheVariants.{SegmentBack, Ranges, OtherDebugId, OtherReference, Contents}
use Rattle.sourcemap_check_suspicious.specs.declared.suspects.Suspicion.TheVariants.{Generated as GeneratedSuspicion}
use Rattle.sourcemap_check_suspicious.specs.declared.suspects.Suspicious.{Suspicious}
use Rattle.sourcemap_check_print.specs.Suspicions.{shift_sentence, suspicion_sentence}
use Rattle.sourcemap_check_print.specs.Words.{sentence}
use Rattle.sourcemap_check_print.specs.declared.entries.Entry.{Entry}
use Rattle.sourcemap_check_print.specs.declared.entries.Entry.TheVariants.{Invalid, Doubtful, Off}
use Rattle.sourcemap_check_print.specs.declared.entries.Position.{Position}
use Rattle.sourcemap_check_print.specs.declared.entries.Position.TheVariants.{Nowhere, Segment, Token, Shift}

abbrev pub entries : List Finding → Suspicious → List Entry
entries findings found =
    map Invalid findings ++ map Doubtful found.places.first.items ++ map Off found.shifts.items

abbrev pub code_of : Entry → ℕ
code_of (Invalid finding) = number_of finding.rule + 101
code_of (Doubtful suspect) = suspicion_code suspect.suspicion
code_of (Off shifted) = code_of_shifted shifted

abbrev pub sentence_of : Entry → List ℕ
sentence_of (Invalid finding) = sentence finding.rule
sentence_of (Doubtful suspect) = suspicion_sentence suspect.suspicion
sentence_of (Off shifted) = shift_sentence shifted

abbrev pub severity_of : Entry → List ℕ
severity_of (Invalid finding) = codes "invalid"
severity_of (Doubtful suspect) = codes "suspicious"
severity_of (Off shifted) = codes "suspicious"

-- the position of a finding with this rule
abbrev pub rule_position : Rule → (line index : ℕ) → Position
rule_position (SegmentRule rule) line index = Segment line index
rule_position _ line index = Nowhere

abbrev pub suspicion_position : Suspicion → (line index : ℕ) → Position
suspicion_position (TokenSuspicion doubt) line index = Token line index
suspicion_position (GeneratedSuspicion doubt) line index = Token line index
suspicion_position SegmentBack line index = Segment line index
suspicion_position (Item doubt) line index = Nowhere
suspicion_position (Ranges doubt) line index = Nowhere
suspicion_position OtherDebugId line index = Nowhere
suspicion_position OtherReference line index = Nowhere
suspicion_position (Contents doubt) line index = Nowhere

abbrev pub shift_position : Shifted → Position
shift_position (Original shift) = Shift shift.lines shift.columns
shift_position (Generated shift) = Shift shift.lines shift.columns

-- a segment by line and index, a token by generated line and column, a shift by its lines and columns
abbrev pub position_of : Entry → Position
position_of (Invalid finding) = rule_position finding.rule finding.line finding.index
position_of (Doubtful suspect) = suspicion_position suspect.suspicion suspect.line suspect.index
position_of (Off shifted) = shift_position shifted
