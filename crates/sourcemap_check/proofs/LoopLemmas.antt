-- Steps of the loops over rules and over sections.
use Rattle.std.proofs.Common.{◌≡◌, ℕ, ◌+◌, ◌<◌, Bool, true, false, cond, List, [], ◌∷◌, ◌++◌, map, take, length, get_or}
use Rattle.std.proofs.Common.{sym, ◌∙◌, ap, refl, subst, append_assoc, arith, Option, Some, None}
use Rattle.std.specs.Prelude.{filter}
use Rattle.std.proofs.lemmas.List.{append-nil, map-append, length_push}
use Rattle.std.proofs.lemmas.List.Elements.{filter_more}
use Rattle.serde_json.specs.Data.{Data}
use Rattle.sourcemap_check_report.specs.declared.report.Finding.{Finding}
use Rattle.sourcemap_check_report.specs.declared.report.Report.{Report}
use Rattle.sourcemap_check_report.specs.Report.{Reports}
use Rattle.sourcemap_check_segments.specs.declared.last.Position.{Position}
use Rattle.sourcemap_check.specs.declared.sections.Previous.{Previous}
use Rattle.sourcemap_check.specs.declared.tree.Checked.{Checked}
use Rattle.sourcemap_check.specs.declared.tree.MapPlace.{MapPlace}
use Rattle.sourcemap_check.specs.Trees.{Tree, tree, Sections, no_sections, with_section, tree_of}
use Rattle.sourcemap_check.specs.Positions.{start_of, moved_by, later_of, last_of, last_in, text_last}
use Rattle.sourcemap_check.specs.Maps.{map_count, section_count}
use Rattle.sourcemap_check.specs.Findings.{section_findings, sections_findings, tree_findings, none_before}
use Rattle.sourcemap_check.specs.Findings.{key_findings, text_findings}
use Rattle.sourcemap_check.specs.Steps.{ChecksTree, ChecksInner, ChecksSections, places, places_below}

-- Rules one after another.

cond_map : {R : Type 0} (b : Bool) (finding : R → Finding) (rule : R)
    → cond b (finding rule ∷ []) [] ≡ map finding (cond b (rule ∷ []) [])
cond_map true finding rule = refl
cond_map false finding rule = refl

pub rule_by_rule : {R : Type 0} (test : R → Bool) (finding : R → Finding) (most : ℕ) (all : List Finding) (rules : List R)
    (i : ℕ) (rule : R) (is_broken : Bool) (report : Report) → i < length rules → rule ≡ get_or rules i rule
    → is_broken ≡ test rule
    → Reports most ((all ++ map finding (filter test (take i rules))) ++ cond is_broken (finding rule ∷ []) []) report
    → Reports most (all ++ map finding (filter test (take (i + 1) rules))) report
rule_by_rule test finding most all rules i rule is_broken report h at is reports =
    let own : cond is_broken (finding rule ∷ []) []
    ≡ map finding (cond (test (get_or rules i rule)) (get_or rules i rule ∷ []) []) =
    cond_map is_broken finding rule ∙ (ap (λ b. map finding (cond b (rule ∷ []) [])) is
    ∙ ap (λ r. map finding (cond (test r) (r ∷ []) [])) at) in
    let more : map finding (filter test (take (i + 1) rules))
    ≡ map finding (filter test (take i rules))
    ++ map finding (cond (test (get_or rules i rule)) (get_or rules i rule ∷ []) []) =
    ap (map finding) (filter_more test rules i rule h)
    ∙ map-append finding (filter test (take i rules)) (cond (test (get_or rules i rule)) (get_or rules i rule ∷ []) []) in
    let same : (all ++ map finding (filter test (take i rules))) ++ cond is_broken (finding rule ∷ []) []
    ≡ all ++ map finding (filter test (take (i + 1) rules)) =
    append_assoc all (map finding (filter test (take i rules))) (cond is_broken (finding rule ∷ []) [])
    ∙ ap (λ fs. all ++ fs) (ap (λ fs. map finding (filter test (take i rules)) ++ fs) own ∙ sym more) in
    subst (λ fs. Reports most fs report) same reports

pub Reports-none : (most : ℕ) (all : List Finding) (report : Report) → Reports most all report
    → Reports most (all ++ []) report
Reports-none most all report h = subst (λ fs. Reports most fs report) (sym (append-nil all)) h

pub Reports-two : (most : ℕ) (all xs ys : List Finding) (report : Report) → Reports most ((all ++ xs) ++ ys) report
    → Reports most (all ++ (xs ++ ys)) report
Reports-two most all xs ys report h = subst (λ fs. Reports most fs report) (append_assoc all xs ys) h

-- Sections one after another.

pub record SectionsSoFar (most : ℕ) (all : List Finding) (own : ℕ) (old : Checked) (ss : Sections) (index : ℕ)
    (previous : Previous) (left : Sections) (checked : Checked) (last : Option Position) : Type 0 where
  pub found : List Finding
  pub reports : Reports most found checked.report
  pub rest : found ++ sections_findings own index previous (length checked.maps.items) left
      ≡ all ++ sections_findings own 0 none_before (length old.maps.items) ss
  pub places_are : checked.maps.items ++ places_below own index (length checked.maps.items) left
      ≡ old.maps.items ++ places_below own 0 (length old.maps.items) ss
  pub counted : length checked.maps.items + section_count left ≡ length old.maps.items + section_count ss
  pub last_is : last_in last left ≡ last_in None ss

pub SectionsSoFar-none : (most : ℕ) (all : List Finding) (own : ℕ) (old : Checked) (ss : Sections)
    → Reports most all old.report → SectionsSoFar most all own old ss 0 none_before ss old None
SectionsSoFar-none most all own old ss reports =
    record { found = all; reports = reports; rest = refl; places_are = refl; counted = refl; last_is = refl }

pub SectionsSoFar-all : (most : ℕ) (all : List Finding) (own : ℕ) (old : Checked) (ss : Sections) (index : ℕ)
    (previous : Previous) (checked : Checked) (last : Option Position)
    → SectionsSoFar most all own old ss index previous no_sections checked last
    → ChecksSections most all own old checked ss last
SectionsSoFar-all most all own old ss index previous checked last so_far = record {
  reports = subst (λ fs. Reports most fs checked.report) (sym (append-nil so_far.found) ∙ so_far.rest) so_far.reports;
  places_are = sym (append-nil checked.maps.items) ∙ so_far.places_are;
  counted = let e = so_far.counted in omega (arith, e);
  last_is = so_far.last_is;
}

moved_by-none : (o : Option Position) → moved_by o None ≡ None
moved_by-none (Some p) = refl
moved_by-none None = refl

later_of-none : (o : Option Position) → later_of o None ≡ o
later_of-none (Some p) = refl
later_of-none None = refl

three : (a b c d : List Finding) → ((a ++ b) ++ c) ++ d ≡ a ++ ((b ++ c) ++ d)
three a b c d = ap (λ xs. xs ++ d) (append_assoc a b c) ∙ append_assoc a (b ++ c) d

pub SectionsSoFar-more : (most : ℕ) (all : List Finding) (own : ℕ) (old : Checked) (ss : Sections) (index : ℕ)
    (previous : Previous) (s : Data) (o : Option Tree) (left : Sections) (checked mid next : Checked)
    (last inner : Option Position)
    → (so_far : SectionsSoFar most all own old ss index previous (with_section s o left) checked last)
    → mid.maps.items ≡ checked.maps.items
    → ChecksInner most (so_far.found ++ section_findings own index previous s) mid next
    (record { map = own; section = index }) o inner
    → SectionsSoFar most all own old ss (index + 1)
    (record { start = start_of s; last = moved_by (start_of s) inner }) left next
    (later_of last (moved_by (start_of s) inner))
SectionsSoFar-more most all own old ss index previous s None left checked mid next last inner so_far same checks =
    let end : moved_by (start_of s) inner ≡ None = ap (moved_by (start_of s)) checks.last_is ∙ moved_by-none (start_of s) in
    let kept : next.maps.items ≡ checked.maps.items = checks.places_are ∙ same in
    let count : length next.maps.items ≡ length checked.maps.items = ap length kept in
    record {
      found = so_far.found ++ section_findings own index previous s;
      reports = checks.reports;
      places_are = ap (λ ms. ms ++ places_below own (index + 1) (length ms) left) kept ∙ so_far.places_are;
      rest = ap (λ n. (so_far.found ++ section_findings own index previous s)
          ++ sections_findings own (index + 1) (record { start = start_of s; last = moved_by (start_of s) inner }) n left) count
          ∙ (ap (λ e. (so_far.found ++ section_findings own index previous s)
          ++ sections_findings own (index + 1) (record { start = start_of s; last = e }) (length checked.maps.items) left) end
          ∙ (append_assoc so_far.found (section_findings own index previous s)
          (sections_findings own (index + 1) (record { start = start_of s; last = None }) (length checked.maps.items) left)
          ∙ so_far.rest));
      counted = ap (λ n. n + section_count left) count ∙ so_far.counted;
      last_is = ap (λ e. last_in (later_of last e) left) end
          ∙ (ap (λ b. last_in b left) (later_of-none last) ∙ so_far.last_is);
    }
SectionsSoFar-more most all own old ss index previous s (Some t) left checked mid next last inner so_far same checks =
    let mid_is : length mid.maps.items ≡ length checked.maps.items = ap length same in
    let count : length next.maps.items ≡ length checked.maps.items + map_count t =
    checks.counted ∙ ap (λ k. k + map_count t) mid_is in
    let there : MapPlace = record { map = own; section = index } in
    let added : next.maps.items ≡ checked.maps.items ++ places (length checked.maps.items) there t =
    checks.places_are ∙ ap (λ ms. ms ++ places (length ms) there t) same in
    record {
      places_are = ap (λ k. next.maps.items ++ places_below own (index + 1) k left) count
          ∙ (ap (λ ms. ms ++ places_below own (index + 1) (length checked.maps.items + map_count t) left) added
          ∙ (append_assoc checked.maps.items (places (length checked.maps.items) there t)
          (places_below own (index + 1) (length checked.maps.items + map_count t) left) ∙ so_far.places_are));
      found = (so_far.found ++ section_findings own index previous s) ++ tree_findings (length checked.maps.items) t;
      reports = subst (λ k. Reports most ((so_far.found ++ section_findings own index previous s) ++ tree_findings k t)
          next.report) mid_is checks.reports;
      rest = ap (λ k. ((so_far.found ++ section_findings own index previous s)
          ++ tree_findings (length checked.maps.items) t)
          ++ sections_findings own (index + 1) (record { start = start_of s; last = moved_by (start_of s) inner }) k left) count
          ∙ (ap (λ e. ((so_far.found ++ section_findings own index previous s)
          ++ tree_findings (length checked.maps.items) t)
          ++ sections_findings own (index + 1) (record { start = start_of s; last = moved_by (start_of s) e })
          (length checked.maps.items + map_count t) left) checks.last_is
          ∙ (three so_far.found (section_findings own index previous s) (tree_findings (length checked.maps.items) t)
          (sections_findings own (index + 1) (record { start = start_of s; last = moved_by (start_of s) (last_of t) })
          (length checked.maps.items + map_count t) left) ∙ so_far.rest));
      counted = let c = so_far.counted in omega (arith, count, c);
      last_is = ap (λ e. last_in (later_of last (moved_by (start_of s) e)) left) checks.last_is ∙ so_far.last_is;
    }

-- A whole map.

pub sections_none : (most : ℕ) (all : List Finding) (own : ℕ) (mid : Checked) → Reports most all mid.report
    → ChecksSections most all own mid mid no_sections None
sections_none most all own mid reports = record {
  reports = Reports-none most all mid.report reports;
  places_are = sym (append-nil mid.maps.items);
  counted = omega arith;
  last_is = refl;
}

tree_of_parts : (most : ℕ) (all : List Finding) (d : Data) (own : ℕ) (old mid new : Checked) (place : MapPlace)
    (ss : Sections) (last : Option Position) → own ≡ length old.maps.items
    → mid.maps.items ≡ old.maps.items ++ place ∷ []
    → ChecksSections most ((all ++ key_findings own d) ++ text_findings own d) own mid new ss last
    → ChecksTree most all old new place (tree d ss) (later_of last (text_last d))
tree_of_parts most all d own old mid new place ss last own_is pushed checks =
    let one_more : length mid.maps.items ≡ length old.maps.items + 1 =
    ap length pushed ∙ length_push old.maps.items place in
    let P : ℕ → ℕ → Type 0 = λ k next. Reports most (((all ++ key_findings k d) ++ text_findings k d)
    ++ sections_findings k 0 none_before next ss) new.report in
    let at_own : P (length old.maps.items) (length mid.maps.items) =
    subst (λ k. P k (length mid.maps.items)) own_is checks.reports in
    let at_next : P (length old.maps.items) (length old.maps.items + 1) =
    subst (λ next. P (length old.maps.items) next) one_more at_own in
    record {
      reports = subst (λ fs. Reports most fs new.report)
          (ap (λ fs. fs ++ sections_findings (length old.maps.items) 0 none_before (length old.maps.items + 1) ss)
          (append_assoc all (key_findings (length old.maps.items) d) (text_findings (length old.maps.items) d))
          ∙ append_assoc all (key_findings (length old.maps.items) d ++ text_findings (length old.maps.items) d)
          (sections_findings (length old.maps.items) 0 none_before (length old.maps.items + 1) ss)) at_next;
      places_are = checks.places_are
          ∙ (ap (λ ms. ms ++ places_below own 0 (length mid.maps.items) ss) pushed
          ∙ (append_assoc old.maps.items (place ∷ []) (places_below own 0 (length mid.maps.items) ss)
          ∙ (ap (λ k. old.maps.items ++ place ∷ places_below k 0 (length mid.maps.items) ss) own_is
          ∙ ap (λ k. old.maps.items ++ place ∷ places_below (length old.maps.items) 0 k ss) one_more)));
      counted = let e = checks.counted in omega (arith, e, one_more);
      last_is = ap (λ l. later_of l (text_last d)) checks.last_is;
    }

pub tree_checked : (most : ℕ) (all : List Finding) (d : Data) (own : ℕ) (old mid new : Checked) (place : MapPlace)
    (ss : Sections) (last : Option Position) → own ≡ length old.maps.items
    → mid.maps.items ≡ old.maps.items ++ place ∷ [] → tree_of d ≡ tree d ss
    → ChecksSections most ((all ++ key_findings own d) ++ text_findings own d) own mid new ss last
    → ChecksTree most all old new place (tree_of d) (later_of last (text_last d))
tree_checked most all d own old mid new place ss last own_is pushed is checks =
    subst (λ t. ChecksTree most all old new place t (later_of last (text_last d))) (sym is)
    (tree_of_parts most all d own old mid new place ss last own_is pushed checks)
