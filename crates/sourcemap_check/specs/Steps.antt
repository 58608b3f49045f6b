-- The steps of a check of a map with its sections.
use Rattle.std.specs.Prelude.{◌≡◌, ℕ, ◌+◌, List, [], ◌∷◌, ◌++◌, length, Option, Some, None}
use Rattle.sourcemap_check_report.specs.declared.report.Finding.{Finding}
use Rattle.sourcemap_check_report.specs.Report.{Reports}
use Rattle.sourcemap_check_segments.specs.declared.last.Position.{Position}
use Rattle.sourcemap_check.specs.declared.tree.Checked.{Checked}
use Rattle.sourcemap_check.specs.declared.tree.MapPlace.{MapPlace}
use Rattle.sourcemap_check.specs.Trees.{Tree, tree, Sections, no_sections, bare, mapped}
use Rattle.sourcemap_check.specs.Positions.{last_of, last_in}
use Rattle.sourcemap_check.specs.Maps.{map_count, section_count}
use Rattle.sourcemap_check.specs.Findings.{tree_findings, sections_findings, none_before}

-- the places of the maps in a map, and in its sections from this index on
abbrev mutual
  pub places : (own : ℕ) → MapPlace → Tree → List MapPlace
  places own place (tree m sections) = place ∷ places_below own 0 (own + 1) sections

  pub places_below : (own index next : ℕ) → Sections → List MapPlace
  places_below own index next no_sections = []
  places_below own index next (bare s later) = places_below own (index + 1) next later
  places_below own index next (mapped s inner later) =
      places next (record { map = own; section = index }) inner
      ++ places_below own (index + 1) (next + map_count inner) later

-- the findings of a tree are added to `all` and its maps to the list of maps, and `last` is its last position
pub record ChecksTree (most : ℕ) (all : List Finding) (old new : Checked) (place : MapPlace) (t : Tree)
    (last : Option Position) : Type 0 where
  pub reports : Reports most (all ++ tree_findings (length old.maps.items) t) new.report
  pub places_are : new.maps.items ≡ old.maps.items ++ places (length old.maps.items) place t
  pub counted : length new.maps.items ≡ length old.maps.items + map_count t
  pub last_is : last ≡ last_of t

-- the same for the map in a section, if there is one
pub record ChecksNone (most : ℕ) (all : List Finding) (old new : Checked) (last : Option Position) : Type 0 where
  pub reports : Reports most all new.report
  pub places_are : new.maps.items ≡ old.maps.items
  pub last_is : last ≡ None

abbrev pub ChecksInner : ℕ → List Finding → Checked → Checked → MapPlace → Option Tree → Option Position → Type 0
ChecksInner most all old new place (Some t) last = ChecksTree most all old new place t last
ChecksInner most all old new place None last = ChecksNone most all old new last

-- the same for all sections of the map with number `own`
pub record ChecksSections (most : ℕ) (all : List Finding) (own : ℕ) (old new : Checked) (ss : Sections)
    (last : Option Position) : Type 0 where
  pub reports : Reports most (all ++ sections_findings own 0 none_before (length old.maps.items) ss) new.report
  pub places_are : new.maps.items ≡ old.maps.items ++ places_below own 0 (length old.maps.items) ss
  pub counted : length new.maps.items ≡ length old.maps.items + section_count ss
  pub last_is : last ≡ last_in None ss
