-- All findings of a map, in the order in which they are reported.
use Rattle.std.specs.Prelude.{ℕ, ◌+◌, ◌&&◌, ◌||◌, Bool, not, false, List, [], ◌∷◌, ◌++◌, map, filter, codes}
use Rattle.std.specs.Prelude.{Option, Some}
use Rattle.std.specs.Prelude.{None, option_and_then, if◌then◌else◌}
use Rattle.std.specs.Option.{option_map_or}
use Rattle.serde_json.specs.Data.{Data}
use Rattle.serde_json.specs.Find.{get, as_str}
use Rattle.sourcemap_check_report.specs.declared.report.Finding.{Finding}
use Rattle.sourcemap_check_report.specs.declared.rules.Rule.{Rule}
use Rattle.sourcemap_check_report.specs.declared.rules.Rule.TheVariants.{Map, Section, OutOfOrder, Overlap}
use Rattle.sourcemap_check_report.specs.declared.rules.TheConstants.{MAP_RULES, SECTION_RULES}
use Rattle.sourcemap_check_keys.specs.MapRules.{is_index, breaks as breaks_map}
use Rattle.sourcemap_check_keys.specs.SectionRules.{breaks as breaks_section}
use Rattle.sourcemap_check_keys.specs.Values.{count_at}
use Rattle.sourcemap_check_segments.specs.declared.last.Position.{Position}
use Rattle.sourcemap_check.specs.declared.sections.Previous.{Previous}
use Rattle.sourcemap_check_segments.specs.Findings.{findings_of}
use Rattle.sourcemap_check_segments.specs.Rules.{Counts}
use Rattle.sourcemap_check.specs.Trees.{Tree, tree, Sections, no_sections, bare, mapped}
use Rattle.sourcemap_check.specs.Positions.{is_before, start_of, last_of, moved_by}
use Rattle.sourcemap_check.specs.Maps.{map_count}

abbrev pub at : (own index : ℕ) → Rule → Finding
at own index rule = record { rule = rule; map = own; line = 0; index = index }

abbrev pub key_findings : ℕ → Data → List Finding
key_findings own m = map (λ rule. at own 0 (Map rule)) (filter (λ rule. breaks_map rule m) MAP_RULES)

-- how many sources and names a map has. A list that is missing has no items
abbrev pub counts_at : Data → Counts
counts_at m = record { sources = count_at (codes "sources") m; names = count_at (codes "names") m }

-- the text `mappings`, if it is one
abbrev pub text_at : Data → Option (List ℕ)
text_at m = option_and_then as_str (get (codes "mappings") m)

-- the findings of the text `mappings`, which an index map has not
abbrev pub text_findings : ℕ → Data → List Finding
text_findings own m =
    if is_index m then [] else option_map_or (findings_of (counts_at m) own) (text_at m) []

-- no section is before the first
abbrev pub none_before : Previous
none_before = record { start = None; last = None }

-- a fact of two positions that are both there
abbrev pub both : (Position → Position → Bool) → Option Position → Option Position → Bool
both test (Some a) (Some b) = test a b
both test (Some a) None = false
both test None b = false

-- a section starts before the one before it starts
abbrev pub is_out_of_order : Previous → Option Position → Bool
is_out_of_order previous start = both is_before start previous.start

-- a section starts where the one before it starts, or before a position in that one
abbrev pub is_overlap : Previous → Option Position → Bool
is_overlap previous start =
    not (is_out_of_order previous start)
    && (both (λ a b. not (is_before a b) && not (is_before b a)) start previous.start || both is_before start previous.last)

abbrev pub order_findings : (own index : ℕ) → Previous → Option Position → List Finding
order_findings own index previous start =
    (if is_out_of_order previous start then at own index OutOfOrder ∷ [] else [])
    ++ (if is_overlap previous start then at own index Overlap ∷ [] else [])

abbrev pub section_key_findings : (own index : ℕ) → Data → List Finding
section_key_findings own index s =
    map (λ rule. at own index (Section rule)) (filter (λ rule. breaks_section rule s) SECTION_RULES)

abbrev pub section_findings : (own index : ℕ) → Previous → Data → List Finding
section_findings own index previous s =
    section_key_findings own index s ++ order_findings own index previous (start_of s)

-- the findings of the map with this number; of the section with this index and later ones of map `own`, where `next` is
-- the number of the next map
abbrev mutual
  pub tree_findings : ℕ → Tree → List Finding
  tree_findings own (tree m sections) =
      (key_findings own m ++ text_findings own m) ++ sections_findings own 0 none_before (own + 1) sections

  pub sections_findings : (own index : ℕ) → Previous → (next : ℕ) → Sections → List Finding
  sections_findings own index previous next no_sections = []
  sections_findings own index previous next (bare s later) =
      section_findings own index previous s
      ++ sections_findings own (index + 1) (record { start = start_of s; last = None }) next later
  sections_findings own index previous next (mapped s inner later) =
      (section_findings own index previous s ++ tree_findings next inner)
      ++ sections_findings own (index + 1)
      (record { start = start_of s; last = moved_by (start_of s) (last_of inner) }) (next + map_count inner) later
