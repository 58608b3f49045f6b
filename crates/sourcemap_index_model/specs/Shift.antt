-- The sections of an index map, with a number of lines added to the offset of each section.
use Rattle.std.specs.Prelude.{ℕ, ◌+◌, ◌≤◌, List, map}
use Rattle.std.specs.List.{AllByRecursion}
use Rattle.sourcemap_index_model.specs.MapTree.{MapSection}

-- the section with `rows` added to the line of its offset; its map is unchanged
abbrev pub moved_down : ℕ → MapSection → MapSection
moved_down rows s = record s { head = record s.head { line = s.head.line + rows } }

abbrev pub shifted : ℕ → List MapSection → List MapSection
shifted rows ss = map (moved_down rows) ss

-- no section moves past line 4294967295
abbrev pub HaveRowsLeft : ℕ → List MapSection → Type 0
HaveRowsLeft rows ss = AllByRecursion (λ s. s.head.line + rows ≤ 4294967295) ss
