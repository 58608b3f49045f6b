-- Sorted and well-formed maps of any kind.
use Rattle.std.specs.Prelude.{ℕ, ◌≤◌, length, IsSortedByKey}
use Rattle.sourcemap_tokens.specs.Tokens.{position_cmp, AreInOrder}
use Rattle.sourcemap_map_regular.specs.Map.{IsWellFormed as IsWellFormedRegular}
use Rattle.sourcemap_hermes.specs.Map.{IsWellFormed as IsWellFormedHermes}
use Rattle.sourcemap_index_model.specs.MapTree.{LeafMap, regular, hermes, held, MapTree, MapSections, section_list, section_offset, AtEachLevel}

-- the sections are sorted by offset
abbrev pub AreSectionsInOrder : MapSections → Type 0
AreSectionsInOrder ss = IsSortedByKey {K = ℕ × ℕ} section_offset position_cmp (section_list ss)

-- at every level, the sections are sorted by offset. The binary search of a lookup needs this
abbrev pub IsInOrder : MapTree → Type 0
IsInOrder t = AtEachLevel (λ l. Unit {0}) AreSectionsInOrder t

-- at most 2^32 - 1 sections
abbrev pub AreFewSections : MapSections → Type 0
AreFewSections ss = length (section_list ss) ≤ 4294967295

abbrev pub AreWellFormedSections : MapSections → Type 0
AreWellFormedSections ss = AreFewSections ss × AreSectionsInOrder ss

abbrev pub IsWellFormedLeaf : LeafMap → Type 0
IsWellFormedLeaf (regular m) = IsWellFormedRegular m
IsWellFormedLeaf (hermes h) = IsWellFormedHermes h

-- each regular map and each Hermes map is well-formed; each index map has at most 2^32 - 1 sections,
-- which are sorted
abbrev pub IsWellFormed : MapTree → Type 0
IsWellFormed t = AtEachLevel IsWellFormedLeaf AreWellFormedSections t

-- the tokens of each map are sorted, as those of every `SourceMap` are
abbrev pub HasTokensInOrder : MapTree → Type 0
HasTokensInOrder t = AtEachLevel (λ l. AreInOrder (held l).tokens) (λ ss. Unit {0}) t
