-- Generated positions: where a section starts, and the last position in a map.
use Rattle.std.specs.Prelude.{ℕ, ◌+◌, ◌==◌, ◌&&◌, ◌||◌, Bool, nat_lt, min, Option, Some, None, codes, option_and_then}
use Rattle.std.specs.Prelude.{if◌then◌else◌}
use Rattle.serde_json.specs.Data.{Data}
use Rattle.serde_json.specs.Find.{get, as_str}
use Rattle.sourcemap_check_keys.specs.Values.{position_of}
use Rattle.sourcemap_check_segments.specs.declared.last.Position.{Position}
use Rattle.sourcemap_check_segments.specs.Last.{last_position}
use Rattle.sourcemap_check.specs.Trees.{Tree, tree, Sections, no_sections, bare, mapped}
use Rattle.sourcemap_check_keys.specs.MapRules.{is_index}

-- position a is before position b
abbrev pub is_before : Position → Position → Bool
is_before a b = nat_lt a.line b.line || ((a.line == b.line) && nat_lt a.column b.column)

-- a sum that stops at 18446744073709551615
abbrev pub capped_sum : ℕ → ℕ → ℕ
capped_sum a b = min (a + b) 18446744073709551615

-- the last position of the text `mappings`, which an index map has not
abbrev pub text_last : Data → Option Position
text_last m =
    if is_index m then None else option_and_then last_position (option_and_then as_str (get (codes "mappings") m))

-- a position in a section, as a position in the map that has the section: the offset is added, its column on line 0
-- only
abbrev pub moved : Position → Position → Position
moved offset p = record {
  line = capped_sum offset.line p.line;
  column = if p.line == 0 then capped_sum offset.column p.column else p.column;
}

abbrev pub position_from : Option ℕ → Option ℕ → Option Position
position_from (Some line) (Some column) = Some (record { line = line; column = column })
position_from (Some line) None = None
position_from None column = None

-- where a section starts, if its offset is valid
abbrev pub start_of : Data → Option Position
start_of s = option_and_then
    (λ o. position_from (option_and_then position_of (get (codes "line") o)) (option_and_then position_of (get (codes "column") o)))
    (get (codes "offset") s)

abbrev pub later_of : Option Position → Option Position → Option Position
later_of None b = b
later_of (Some a) None = Some a
later_of (Some a) (Some b) = if is_before a b then Some b else Some a

abbrev pub moved_by : Option Position → Option Position → Option Position
moved_by (Some offset) (Some p) = Some (moved offset p)
moved_by (Some offset) None = None
moved_by None p = None

-- the last position of the sound segments of a map and of the maps in its sections
abbrev mutual
  pub last_of : Tree → Option Position
  last_of (tree m sections) = later_of (last_in None sections) (text_last m)

  -- the last of `best` and the positions in these sections
  pub last_in : Option Position → Sections → Option Position
  last_in best no_sections = best
  last_in best (bare s later) = last_in best later
  last_in best (mapped s inner later) = last_in (later_of best (moved_by (start_of s) (last_of inner))) later
