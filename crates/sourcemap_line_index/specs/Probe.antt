-- A probe for one line and column, as contracts see it.
use Rattle.std.specs.Prelude.{ℕ}
use Rattle.sourcemap_line_index.specs.declared.probe.KeyProbe.{KeyProbe}

-- the line and the column of the position to look up
abbrev pub key_of : KeyProbe → ℕ × ℕ
key_of probe = (probe.line, probe.col)

-- the number of comparisons that the probe has made, at most 4294967295
abbrev pub comparisons_of : KeyProbe → ℕ
comparisons_of probe = probe.count
