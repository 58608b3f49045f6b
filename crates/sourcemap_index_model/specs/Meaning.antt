-- The meaning of a generated position in a map of any kind.
use Rattle.std.specs.Prelude.{◌≡◌, ℕ, ◌-◌, ◌==◌, if◌then◌else◌, List, [], ◌∷◌, Option, None, option_map, option_and_then}
use Rattle.sourcemap_tokens.specs.Search.{closest_item}
use Rattle.sourcemap_tokens.specs.Tokens.{position_cmp}
use Rattle.sourcemap_map_regular.specs.Map.{Meaning}
use Rattle.sourcemap_map_regular.specs.Token.{TokenValue, says, lookup as lookup_regular}
use Rattle.sourcemap_index_model.specs.MapTree.{MapTree, leaf, index, held, MapSections, no_sections, hollow, filled, offset_of}

-- the position `p` in an index map, relative to `offset`, the offset of a section that starts at or before `p`. The
-- column of `offset` is subtracted only if `p` is on the line of `offset`
abbrev pub relative_position : (offset p : ℕ × ℕ) → ℕ × ℕ
relative_position offset p = (p.0 - offset.0, (if p.0 == offset.0 then p.1 - offset.1 else p.1))

-- the lookup of `p` in one section. The section is the first section whose offset is `p`, otherwise the last section
-- whose offset is before `p` (`closest_item`). The section is searched for `p` relative to the section's offset. No
-- other section is searched. `None` if no offset is at or before `p`, or if the search in the section gives `None`
abbrev pub closest_answer : {Y : Type 0} → List ((ℕ × ℕ) × (ℕ × ℕ → Option Y)) → ℕ × ℕ → Option Y
closest_answer sections p =
    option_and_then (λ section. section.1 (relative_position section.0 p))
    (closest_item (λ section. section.0) position_cmp sections p)

-- the closest token to a position; in an index map, the closest token of the closest section
abbrev mutual
  pub lookup : MapTree → ℕ × ℕ → Option TokenValue
  lookup (leaf l) p = lookup_regular (held l) p
  lookup (index parts ss) p = closest_answer (lookups ss) p

  -- each section's offset, with the lookup in its map
  pub lookups : MapSections → List ((ℕ × ℕ) × (ℕ × ℕ → Option TokenValue))
  lookups no_sections = []
  lookups (hollow head rest) = (offset_of head, λ p. None) ∷ lookups rest
  lookups (filled head t rest) = (offset_of head, λ p. lookup t p) ∷ lookups rest

-- the meaning of a position: that of the closest token
abbrev pub meaning : MapTree → ℕ × ℕ → Option Meaning
meaning t p = option_map says (lookup t p)

-- the same meaning at every position
abbrev pub MeansTheSame : MapTree → MapTree → Type 0
MeansTheSame s t = (p : ℕ × ℕ) → meaning s p ≡ meaning t p
