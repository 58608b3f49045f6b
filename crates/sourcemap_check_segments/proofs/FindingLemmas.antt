-- Lemmas on findings and reports.
use Rattle.std.proofs.Common.{◌≡◌, ℕ, ◌+◌, ◌<◌, ◌==◌, Bool, cond, List, [], ◌∷◌, ◌++◌, map, take, length}
use Rattle.std.proofs.Common.{get_or, sym, ◌∙◌, ap, refl, subst, append_assoc}
use Rattle.std.specs.Prelude.{filter, ◌≢◌}
use Rattle.std.specs.List.{slice_split}
use Rattle.std.proofs.lemmas.List.{append-nil, map-append}
use Rattle.std.proofs.lemmas.List.Elements.{filter_more}
use Rattle.sourcemap_check_report.specs.declared.rules.SegmentRule.{SegmentRule}
use Rattle.sourcemap_check_report.specs.declared.rules.Rule.TheVariants.{Segment}
use Rattle.sourcemap_check_report.specs.declared.report.Finding.{Finding}
use Rattle.sourcemap_check_report.specs.declared.report.Report.{Report}
use Rattle.sourcemap_check_segments.specs.declared.sums.Sums.{Sums}
use Rattle.sourcemap_check_segments.specs.Rules.{Counts, breaks}
use Rattle.sourcemap_check_segments.specs.Segments.{segments_of, page_of, comma, semicolon}
use Rattle.sourcemap_check_segments.specs.Findings.{segment_findings, line_findings, page_findings}
use Rattle.sourcemap_check_report.specs.Report.{Reports}
use Rattle.sourcemap_check_segments.specs.Steps.{AreSums, AreTextSums}
use Rattle.std.proofs.Common.{ℤ, pos, max, Option, Some, None}
use Rattle.std.specs.Prelude.{unwrap_or}
use Rattle.std.proofs.lemmas.List.Sums.{fold-append}
use Rattle.sourcemap_check_segments.specs.Segments.{sum_at}
use Rattle.sourcemap_check_segments.specs.Last.{column_at, columns_in, greatest_from}

-- The findings of one segment.

-- the findings of a segment by these rules
abbrev pub found : Counts → (own n index : ℕ) → (before here : List (List ℕ)) → List ℕ → List SegmentRule → List Finding
found counts own n index before here segment rules =
    map (λ rule. record { rule = Segment rule; map = own; line = n; index = index })
    (filter (λ rule. breaks counts rule (before ++ (here ++ segment ∷ [])) (here ++ segment ∷ []) segment) rules)

-- A line and a page that are checked up to a place.

-- the segments of a line up to `left` are checked: with the findings of those that are left, the findings are all of
-- the line's
pub record LineSoFar (counts : Counts) (own n most : ℕ) (all : List Finding) (before segments : List (List ℕ))
    (index : ℕ) (left : List (List ℕ)) (sums : Sums) (report : Report) : Type 0 where
  pub here : List (List ℕ)
  pub split : segments ≡ here ++ left
  pub findings : List Finding
  pub reports : Reports most findings report
  pub rest : findings ++ line_findings counts own n index before here left
      ≡ all ++ line_findings counts own n 0 before [] segments
  pub sums_to : AreSums (before ++ here) here sums

pub record PageSoFar (counts : Counts) (own most : ℕ) (all : List Finding) (page : List (List (List ℕ))) (n : ℕ) (left : List (List ℕ))
    (sums : Sums) (report : Report) : Type 0 where
  pub before : List (List ℕ)
  pub findings : List Finding
  pub reports : Reports most findings report
  pub rest : findings ++ page_findings counts own n before (map segments_of left)
      ≡ all ++ page_findings counts own 0 [] page
  pub sums_to : AreTextSums before sums

AreSums-none : (before : List (List ℕ)) (sums : Sums) → AreSums before [] sums → AreSums (before ++ []) [] sums
AreSums-none before sums h = subst (λ text. AreSums text [] sums) (sym (append-nil before)) h

pub LineSoFar-none : (counts : Counts) (own n most : ℕ) (all : List Finding) (before segments : List (List ℕ))
    (sums : Sums) (report : Report) → Reports most all report → AreSums before [] sums
    → LineSoFar counts own n most all before segments 0 segments sums report
LineSoFar-none counts own n most all before segments sums report reports sums_to = record {
  here = [];
  split = refl;
  findings = all;
  reports = reports;
  rest = refl;
  sums_to = AreSums-none before sums sums_to;
}

pub LineSoFar-more : (counts : Counts) (own n most : ℕ) (all : List Finding) (before segments : List (List ℕ))
    (index : ℕ) (part : List ℕ) (left : List (List ℕ)) (sums later : Sums) (report next : Report)
    → (so_far : LineSoFar counts own n most all before segments index (part ∷ left) sums report)
    → AreSums (before ++ (so_far.here ++ part ∷ [])) (so_far.here ++ part ∷ []) later
    → Reports most (so_far.findings ++ segment_findings counts own n index before so_far.here part) next
    → LineSoFar counts own n most all before segments (index + 1) left later next
LineSoFar-more counts own n most all before segments index part left sums later report next so_far sums_to reports = record {
  here = so_far.here ++ part ∷ [];
  split = so_far.split ∙ sym (append_assoc so_far.here (part ∷ []) left);
  findings = so_far.findings ++ segment_findings counts own n index before so_far.here part;
  reports = reports;
  rest = append_assoc so_far.findings (segment_findings counts own n index before so_far.here part)
      (line_findings counts own n (index + 1) before (so_far.here ++ part ∷ []) left)
      ∙ so_far.rest;
  sums_to = sums_to;
}

pub LineSoFar-reports : (counts : Counts) (own n most : ℕ) (all : List Finding) (before segments : List (List ℕ))
    (index : ℕ) (sums : Sums) (report : Report)
    → LineSoFar counts own n most all before segments index [] sums report
    → Reports most (all ++ line_findings counts own n 0 before [] segments) report
LineSoFar-reports counts own n most all before segments index sums report so_far =
    subst (λ fs. Reports most fs report) (sym (append-nil so_far.findings) ∙ so_far.rest) so_far.reports

pub LineSoFar-sums : (counts : Counts) (own n most : ℕ) (all : List Finding) (before segments : List (List ℕ))
    (index : ℕ) (sums : Sums) (report : Report)
    → LineSoFar counts own n most all before segments index [] sums report → AreTextSums (before ++ segments) sums
LineSoFar-sums counts own n most all before segments index sums report so_far =
    subst (λ segs. AreTextSums (before ++ segs) sums) (sym (so_far.split ∙ append-nil so_far.here)) so_far.sums_to.through

pub segments_of-some : (text : List ℕ) → text ≢ [] → segments_of text ≡ slice_split (λ b. b == comma) text
segments_of-some [] some = absurd (some refl)
segments_of-some (c ∷ cs) some = refl

pub PageSoFar-none : (counts : Counts) (own most : ℕ) (all : List Finding) (text : List ℕ) (sums : Sums)
    (report : Report) → Reports most all report → AreTextSums [] sums
    → PageSoFar counts own most all (page_of text) 0 (slice_split (λ b. b == semicolon) text) sums report
PageSoFar-none counts own most all text sums report reports sums_to = record {
  before = [];
  findings = all;
  reports = reports;
  rest = refl;
  sums_to = sums_to;
}

pub PageSoFar-more : (counts : Counts) (own most : ℕ) (all : List Finding) (page : List (List (List ℕ))) (n : ℕ) (line : List ℕ)
    (left : List (List ℕ)) (sums later : Sums) (report next : Report)
    → (so_far : PageSoFar counts own most all page n (line ∷ left) sums report)
    → AreTextSums (so_far.before ++ segments_of line) later
    → Reports most (so_far.findings ++ line_findings counts own n 0 so_far.before [] (segments_of line)) next
    → PageSoFar counts own most all page (n + 1) left later next
PageSoFar-more counts own most all page n line left sums later report next so_far sums_to reports = record {
  before = so_far.before ++ segments_of line;
  findings = so_far.findings ++ line_findings counts own n 0 so_far.before [] (segments_of line);
  reports = reports;
  rest = append_assoc so_far.findings (line_findings counts own n 0 so_far.before [] (segments_of line))
      (page_findings counts own (n + 1) (so_far.before ++ segments_of line) (map segments_of left))
      ∙ so_far.rest;
  sums_to = sums_to;
}

pub PageSoFar-all : (counts : Counts) (own most : ℕ) (all : List Finding) (page : List (List (List ℕ))) (n : ℕ) (sums : Sums)
    (report : Report) → PageSoFar counts own most all page n [] sums report
    → Reports most (all ++ page_findings counts own 0 [] page) report
PageSoFar-all counts own most all page n sums report so_far =
    subst (λ fs. Reports most fs report) (sym (append-nil so_far.findings) ∙ so_far.rest) so_far.reports

-- The rules one after another.

pub found-more : (counts : Counts) (own n index : ℕ) (before here : List (List ℕ)) (bytes : List ℕ)
    (rules : List SegmentRule) (i : ℕ) (d : SegmentRule) → i < length rules
    → found counts own n index before here bytes (take (i + 1) rules)
    ≡ found counts own n index before here bytes (take i rules)
    ++ map (λ rule. record { rule = Segment rule; map = own; line = n; index = index })
    (cond (breaks counts (get_or rules i d) (before ++ (here ++ bytes ∷ [])) (here ++ bytes ∷ []) bytes)
    (get_or rules i d ∷ []) [])
found-more counts own n index before here bytes rules i d h =
    let test : SegmentRule → Bool = λ rule. breaks counts rule (before ++ (here ++ bytes ∷ [])) (here ++ bytes ∷ []) bytes in
    let finding : SegmentRule → Finding = λ rule. record { rule = Segment rule; map = own; line = n; index = index } in
    ap (map finding) (filter_more test rules i d h)
    ∙ map-append finding (filter test (take i rules)) (cond (test (get_or rules i d)) (get_or rules i d ∷ []) [])

pub Reports-rule : (counts : Counts) (own n index most : ℕ) (all : List Finding) (before here : List (List ℕ))
    (bytes : List ℕ) (rules : List SegmentRule) (i : ℕ) (rule : SegmentRule) (is_broken : Bool) (report : Report)
    → i < length rules → rule ≡ get_or rules i rule
    → is_broken ≡ breaks counts rule (before ++ (here ++ bytes ∷ [])) (here ++ bytes ∷ []) bytes
    → Reports most ((all ++ found counts own n index before here bytes (take i rules))
    ++ map (λ r. record { rule = Segment r; map = own; line = n; index = index }) (cond is_broken (rule ∷ []) [])) report
    → Reports most (all ++ found counts own n index before here bytes (take (i + 1) rules)) report
Reports-rule counts own n index most all before here bytes rules i rule is_broken report h at is reports =
    let finding : SegmentRule → Finding = λ r. record { rule = Segment r; map = own; line = n; index = index } in
    let test : SegmentRule → Bool = λ r. breaks counts r (before ++ (here ++ bytes ∷ [])) (here ++ bytes ∷ []) bytes in
    let one : map finding (cond is_broken (rule ∷ []) [])
    ≡ map finding (cond (test (get_or rules i rule)) (get_or rules i rule ∷ []) []) =
    ap (λ b. map finding (cond b (rule ∷ []) [])) is ∙ ap (λ r. map finding (cond (test r) (r ∷ []) [])) at in
    let more : (all ++ found counts own n index before here bytes (take i rules))
    ++ map finding (cond is_broken (rule ∷ []) [])
    ≡ all ++ found counts own n index before here bytes (take (i + 1) rules) =
    append_assoc all (found counts own n index before here bytes (take i rules))
    (map finding (cond is_broken (rule ∷ []) []))
    ∙ ap (λ fs. all ++ fs) (ap (λ fs. found counts own n index before here bytes (take i rules) ++ fs) one
    ∙ sym (found-more counts own n index before here bytes rules i rule h)) in
    subst (λ fs. Reports most fs report) more reports

pub Reports-none : (most : ℕ) (all : List Finding) (report : Report) → Reports most all report
    → Reports most (all ++ []) report
Reports-none most all report h = subst (λ fs. Reports most fs report) (sym (append-nil all)) h

-- The last position.

pub record ColumnsSoFar (segments left : List (List ℕ)) (column : ℤ) (best : Option ℕ) : Type 0 where
  pub here : List (List ℕ)
  pub rest : greatest_from best (columns_in here left) ≡ greatest_from None (columns_in [] segments)
  pub sum_is : column ≡ sum_at 0 here

pub ColumnsSoFar-none : (segments : List (List ℕ)) → ColumnsSoFar segments segments (pos 0) None
ColumnsSoFar-none segments = record { here = []; rest = refl; sum_is = refl }

pub ColumnsSoFar-more : (segments : List (List ℕ)) (part : List ℕ) (left : List (List ℕ)) (column later : ℤ)
    (best next : Option ℕ) → (so_far : ColumnsSoFar segments (part ∷ left) column best)
    → later ≡ sum_at 0 (so_far.here ++ part ∷ []) → next ≡ greatest_from best (column_at (so_far.here ++ part ∷ []) part)
    → ColumnsSoFar segments left later next
ColumnsSoFar-more segments part left column later best next so_far sum_is is = record {
  here = so_far.here ++ part ∷ [];
  rest = ap (λ b. greatest_from b (columns_in (so_far.here ++ part ∷ []) left)) is
      ∙ (sym (fold-append (λ b c. Some (max c (unwrap_or b 0))) best (column_at (so_far.here ++ part ∷ []) part)
      (columns_in (so_far.here ++ part ∷ []) left)) ∙ so_far.rest);
  sum_is = sum_is;
}

pub ColumnsSoFar-all : (segments : List (List ℕ)) (column : ℤ) (best : Option ℕ) → ColumnsSoFar segments [] column best
    → best ≡ greatest_from None (columns_in [] segments)
ColumnsSoFar-all segments column best so_far = so_far.rest
