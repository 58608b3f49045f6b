-- The position that a `Bound` stands for: the start or the end of a module's text.
use Rattle.std.specs.Prelude.{◌≡◌, ◌⊎◌, ℕ, ◌<◌}
use Rattle.sourcemap_bundle_split.specs.declared.lines.Bound.{Bound}

-- `bound` is the position `p`, or both have a line above 4294967295. No token has such a line
abbrev pub IsBound : Bound → ℕ × ℕ → Type 0
IsBound bound p = ((bound.line, bound.column) ≡ p) ⊎ ((4294967295 < bound.line) × (4294967295 < p.0))
