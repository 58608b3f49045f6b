use Rattle.std.proofs.Common.{◌≡◌, take}
use Rattle.sourcemap_vlq.specs.Vlq.{IsUnfinished, raw_of}
use Rattle.sourcemap_vlq.proofs.vlq.long_number.Given as goal

abbrev pub invariant-loop-index : goal.invariant-loop-index
invariant-loop-index l = IsUnfinished (take l.index l.text) × (l.raw ≡ raw_of (take l.index l.text))
