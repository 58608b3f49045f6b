-- Setting the URL of a section.
use Rattle.std.specs.Prelude.{ℕ, List, Some, option_map, slice_get, unwrap_or}
use Rattle.sourcemap.specs.Index.{with_section}
use Rattle.sourcemap.specs.Section.{with_url}
use Rattle.sourcemap.specs.Trees.{IndexValue}

-- the index map with this URL for the section with this id; unchanged if there is no such section
abbrev pub linked : IndexValue → ℕ → List ℕ → IndexValue
linked i id url = unwrap_or (option_map (λ s. with_section i id (with_url s (Some url))) (slice_get i.sections id)) i
