-- What a compiled map answers, compared with the map that was compiled.
use Rattle.std.specs.Prelude.{◌≡◌, ℕ, Option, option_map, Ok}
use Rattle.std.specs.Option.{option_copied}
use Rattle.sourcemap.specs.Flat.{flat}
use Rattle.sourcemap.specs.Trees.{MapTree}
use Rattle.sourcemap.specs.Types.{MapValue, Meaning, meaning}
use Rattle.sourcemap_uses.specs.declared.caching.Origin.{Origin}

abbrev pub origin_value : Origin → Meaning
origin_value origin = record {
  source = option_copied origin.source;
  line = origin.line;
  column = origin.column;
  name = option_copied origin.name;
  is_range = origin.is_range;
}

-- the meaning of a position in the flat map of `t`, which is the map itself if it is no index map
abbrev pub IsOriginOf : MapTree → ℕ × ℕ → Option Origin → Type 0
IsOriginOf t p origin = (m : MapValue) × (flat t ≡ Ok m) × (option_map origin_value origin ≡ meaning m p)

-- the original line of a position in the flat map of `t`
abbrev pub IsLineOf : MapTree → ℕ × ℕ → Option ℕ → Type 0
IsLineOf t p line = (m : MapValue) × (flat t ≡ Ok m) × (line ≡ option_map (λ says. says.line) (meaning m p))
