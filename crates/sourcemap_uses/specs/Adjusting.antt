-- Original positions with owned strings.
use Rattle.std.specs.Prelude.{option_map, string_bytes}
use Rattle.sourcemap.specs.Types.{Meaning}
use Rattle.sourcemap_uses.specs.declared.adjusting.OriginalPosition.{OriginalPosition}

-- the meaning of the token that the position was copied from
abbrev pub position_meaning : OriginalPosition → Meaning
position_meaning position = record {
  source = option_map string_bytes position.source;
  line = position.line;
  column = position.column;
  name = option_map string_bytes position.name;
  is_range = position.is_range;
}
