-- Where a finding is: the sections that lead to its map, its key, and its segment.
use Rattle.std.specs.Prelude.{ℕ, zero, suc, List, [], ◌∷◌, ◌++◌, codes, length, slice_get}
use Rattle.std.specs.Fmt.{decimal}
use Rattle.std.specs.Option.{option_map_or}
use Rattle.sourcemap_check.specs.declared.tree.MapPlace.{MapPlace}
use Rattle.sourcemap_check_report.specs.declared.rules.Rule.{Rule}
use Rattle.sourcemap_check_report.specs.declared.rules.Rule.TheVariants.{NotJson, NotObject, Map, OutOfOrder, Overlap}
use Rattle.sourcemap_check_report.specs.declared.rules.Rule.TheVariants.{Section, Segment}
use Rattle.sourcemap_check_print.specs.Suspicions.{suspect_key}
use Rattle.sourcemap_check_print.specs.Words.{map_key, section_key}
use Rattle.sourcemap_check_print.specs.declared.entries.Entry.{Entry}
use Rattle.sourcemap_check_print.specs.declared.entries.Entry.TheVariants.{Invalid, Doubtful, Off}

-- the indexes of the sections that lead to the map with this number, the outermost first: those that lead to the map
-- that has its section, and this section. At most `left`
abbrev pub sections_to : (left : ℕ) → (maps : List MapPlace) → (map : ℕ) → List ℕ
sections_to zero maps map = []
sections_to (suc left) maps zero = []
sections_to (suc left) maps (suc map) =
    option_map_or (λ place. sections_to left maps place.map ++ place.section ∷ []) (slice_get maps (suc map)) []

-- no more sections lead to a map than there are maps
abbrev pub sections_of : (maps : List MapPlace) → (map : ℕ) → List ℕ
sections_of maps map = sections_to (length maps) maps map

-- a section and a key in it
abbrev pub section_key_text : ℕ → List ℕ → List ℕ
section_key_text index key = codes "sections[" ++ decimal index ++ codes "]" ++ key

-- the key that a rule is on; the index is that of a section
abbrev pub rule_key : Rule → (index : ℕ) → List ℕ
rule_key NotJson index = []
rule_key NotObject index = []
rule_key (Map rule) index = map_key rule
rule_key OutOfOrder index = section_key_text index (codes ".offset")
rule_key Overlap index = section_key_text index (codes ".offset")
rule_key (Section rule) index = section_key_text index (section_key rule)
rule_key (Segment rule) index = codes "mappings"

-- the key that an entry is on
abbrev pub key_text : Entry → List ℕ
key_text (Invalid finding) = rule_key finding.rule finding.index
key_text (Doubtful suspect) = suspect_key suspect
key_text (Off shifted) = codes "mappings"

-- the number of the map that an entry is in. Only the whole map is looked at for what looks wrong
abbrev pub map_of : Entry → ℕ
map_of (Invalid finding) = finding.map
map_of (Doubtful suspect) = 0
map_of (Off shifted) = 0
