-- Let `m` be a well-formed map with at most 4294967295 sources, and let its tokens be in order. Let `m` be adjusted by
-- a map `n` without an error, and let the stretch `a` of `n` move the position `q` alone (`IsMovedAlone`). Then the
-- adjusted map gives the position `moved a q` the meaning that `m` gives `q`.
use Rattle.std.proofs.Common.{◌≡◌, refl, sym, ap, ◌∙◌, ℕ, ◌≤◌, List, length, Option, None, Some, option_map, Ok}
use Rattle.sourcemap_tokens.specs.declared.tokens.RawToken.{RawToken}
use Rattle.sourcemap_tokens.specs.Tokens.{AreInOrder, closest_token, destination, position_cmp}
use Rattle.sourcemap_tokens.proofs.SearchLemmas.{item-closest}
use Rattle.sourcemap_compose.specs.declared.stretches.Stretch.{Stretch}
use Rattle.sourcemap_compose.specs.Composition.{composition, moved}
use Rattle.sourcemap_compose.specs.Moved.{IsMovedAlone, Origin, origin, origin_by}
use Rattle.sourcemap_compose.proofs.MovedLemmas.{moved_as_before}
use Rattle.sourcemap_map_regular.specs.Map.{IsWellFormed, MapValue, Meaning, distance, meaning, name_of, says}
use Rattle.sourcemap_map_regular.specs.Map.{source_of}

-- the meaning of an origin
abbrev meaning_of_origin : MapValue → Origin → Meaning
meaning_of_origin m o = record {
  source = source_of m o.source;
  line = o.line;
  column = o.column;
  name = name_of m o.name;
  is_range = o.is_range;
}

-- the meaning of a position is that of its origin
meaning-origin : (m : MapValue) (p : ℕ × ℕ) → meaning m p ≡ option_map (meaning_of_origin m) (origin m.tokens p)
meaning-origin m p = by_case (closest_token m.tokens p) ∙ ap (λ found. option_map (meaning_of_origin m)
    (option_map (λ t. origin_by t p) found)) (item-closest destination position_cmp m.tokens p)
  where
    by_case : (found : Option (ℕ × RawToken))
        → option_map says (option_map
        (λ found. record { map_of = m; raw = found.1; index = found.0; extra_columns = distance found.1 p }) found)
        ≡ option_map (meaning_of_origin m)
        (option_map (λ t. origin_by t p) (option_map (λ (e : ℕ × RawToken). e.1) found))
    by_case None = refl
    by_case (Some found) = refl

pub adjusted_meaning : (m n : MapValue) (tokens : List RawToken) (a : Stretch) (q : ℕ × ℕ)
    → length m.sources ≤ 4294967295 → AreInOrder m.tokens → IsWellFormed m → composition m.tokens n.tokens ≡ Ok tokens
    → IsMovedAlone m.tokens n.tokens a q → meaning (record m { tokens = tokens }) (moved a q) ≡ meaning m q
adjusted_meaning m n tokens a q few up sound given alone =
    meaning-origin (record m { tokens = tokens }) (moved a q)
    ∙ ap (option_map (meaning_of_origin m))
    (moved_as_before (length m.sources) (length m.names) m.tokens n.tokens tokens a q up few sound given alone)
    ∙ sym (meaning-origin m q)
