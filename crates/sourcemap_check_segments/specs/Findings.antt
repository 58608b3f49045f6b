-- All findings of the text of a map, in its order. `own` is the number of the map.
use Rattle.std.specs.Prelude.{ℕ, ◌+◌, List, [], ◌∷◌, ◌++◌, map, filter}
use Rattle.sourcemap_check_report.specs.declared.rules.TheConstants.{SEGMENT_RULES}
use Rattle.sourcemap_check_report.specs.declared.rules.Rule.TheVariants.{Segment}
use Rattle.sourcemap_check_report.specs.declared.report.Finding.{Finding}
use Rattle.sourcemap_check_segments.specs.Segments.{page_of}
use Rattle.sourcemap_check_segments.specs.Rules.{Counts, breaks}

-- the findings of a segment: the rules that it breaks. It has this index on line n, and comes after the segments
-- `before` of earlier lines and `here` of its own
abbrev pub segment_findings : Counts → (own n index : ℕ) → (before here : List (List ℕ)) → List ℕ → List Finding
segment_findings counts own n index before here segment =
    map (λ rule. record { rule = Segment rule; map = own; line = n; index = index })
    (filter (λ rule. breaks counts rule (before ++ (here ++ segment ∷ [])) (here ++ segment ∷ []) segment) SEGMENT_RULES)

-- the findings of successive segments of line n, the first of which has this index
abbrev pub line_findings : Counts → (own n index : ℕ) → (before here segments : List (List ℕ)) → List Finding
line_findings counts own n index before here [] = []
line_findings counts own n index before here (segment ∷ later) =
    segment_findings counts own n index before here segment
    ++ line_findings counts own n (index + 1) before (here ++ segment ∷ []) later

-- the findings of successive lines, the first of which is line n. `before` are the segments of earlier lines
abbrev pub page_findings : Counts → (own n : ℕ) → List (List ℕ) → List (List (List ℕ)) → List Finding
page_findings counts own n before [] = []
page_findings counts own n before (line ∷ lines) =
    line_findings counts own n 0 before [] line ++ page_findings counts own (n + 1) (before ++ line) lines

-- the findings of a text: line by line, segment by segment, rule by rule
abbrev pub findings_of : Counts → ℕ → List ℕ → List Finding
findings_of counts own text = page_findings counts own 0 [] (page_of text)
