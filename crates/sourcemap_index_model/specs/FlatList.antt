-- The meaning of each token of a map, paired with the token's generated position in the whole map.
-- Also orderly maps, which are maps whose sections do not overlap.
use Rattle.std.specs.Prelude.{◌≡◌, ℕ, ◌+◌, ◌==◌, if◌then◌else◌, List, [], ◌∷◌, ◌++◌, map, true}
use Rattle.std.specs.List.{AllByRecursion}
use Rattle.std.specs.Ordering.{is_lt}
use Rattle.sourcemap_tokens.specs.Tokens.{position_cmp}
use Rattle.sourcemap_map_regular.specs.Map.{Meaning}
use Rattle.sourcemap_map_regular.specs.Rewrite.{token_meanings}
use Rattle.sourcemap_index_model.specs.MapTree.{MapTree, leaf, index, held, MapSections, no_sections, hollow, filled, offset_of, AtEachLevel}

-- the position `p` in the map of a section, as a position in the index map. The section starts at `offset`. The column
-- of `offset` is added only if `p` is on line 0, the first line of the section
abbrev pub absolute_position : (offset p : ℕ × ℕ) → ℕ × ℕ
absolute_position offset p = (p.0 + offset.0, (if p.0 == 0 then p.1 + offset.1 else p.1))

abbrev pub absolute_entry : (offset : ℕ × ℕ) → (ℕ × ℕ) × Meaning → (ℕ × ℕ) × Meaning
absolute_entry offset entry = (absolute_position offset entry.0, entry.1)

-- the meaning of each token, paired with the token's generated position in the whole map. In an index map, the pairs of
-- the first section come first, then the pairs of the second section, and so on. A section without a map has no pairs
abbrev mutual
  pub flat_list : MapTree → List ((ℕ × ℕ) × Meaning)
  flat_list (leaf l) = token_meanings (held l)
  flat_list (index parts ss) = flat_lists ss

  pub flat_lists : MapSections → List ((ℕ × ℕ) × Meaning)
  flat_lists no_sections = []
  flat_lists (hollow head rest) = flat_lists rest
  flat_lists (filled head t rest) = map (absolute_entry (offset_of head)) (flat_list t) ++ flat_lists rest

-- each section's offset, with the positions of its tokens in the index map
abbrev pub spans : MapSections → List ((ℕ × ℕ) × List (ℕ × ℕ))
spans no_sections = []
spans (hollow head rest) = (offset_of head, []) ∷ spans rest
spans (filled head t rest) =
    (offset_of head, map (λ entry. absolute_position (offset_of head) entry.0) (flat_list t)) ∷ spans rest

abbrev pub IsBefore : (p q : ℕ × ℕ) → Type 0
IsBefore p q = is_lt (position_cmp p q) ≡ true

-- the offset and each token of a section are before the offset of the next section
abbrev pub AreApart : List ((ℕ × ℕ) × List (ℕ × ℕ)) → Type 0
AreApart [] = Unit {0}
AreApart (span ∷ []) = Unit {0}
AreApart (span ∷ next ∷ rest) =
    IsBefore span.0 next.0 × AllByRecursion (λ p. IsBefore p next.0) span.1 × AreApart (next ∷ rest)

-- at every level, the sections do not overlap
abbrev pub IsOrderly : MapTree → Type 0
IsOrderly t = AtEachLevel (λ l. Unit {0}) (λ ss. AreApart (spans ss)) t
