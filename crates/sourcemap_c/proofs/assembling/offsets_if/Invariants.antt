use Rattle.std.proofs.Common.{◌≡◌, map, take}
use Rattle.sourcemap_c.specs.Assembling.{line_of}
use Rattle.sourcemap_c.proofs.assembling.offsets_if.Given as goal

abbrev pub invariant-loop-offset : goal.invariant-loop-offset
invariant-loop-offset l = l.lines.items ≡ map line_of (take l.offset-index l.offsets)
