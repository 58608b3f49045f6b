-- Original positions.
use Rattle.std.specs.Prelude.{ℕ}
use Rattle.sourcemap.specs.Types.{Meaning}

-- the original line and column of a meaning
abbrev pub source_position : Meaning → ℕ × ℕ
source_position says = (says.line, says.column)
