-- Checksums of the modules of a split bundle.
use Rattle.std.specs.Prelude.{ℕ, length}
use Rattle.sourcemap_bundle_split.specs.Split.{ModuleParts}
use Rattle.sourcemap_bench.specs.Sums.{counted, mixed}

-- the checksum `sum` after two numbers are added to it: first the byte count of a module's text, or 4294967295 if the
-- count is greater; then the number of sources of the module's map
abbrev pub with_module : ℕ → ModuleParts → ℕ
with_module sum parts = mixed (counted sum (length parts.text)) (length parts.map.sources)
