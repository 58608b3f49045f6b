use Rattle.std.proofs.Common.{◌≡◌, ◌<◌, ◌^◌, max, take}
use Rattle.std.specs.List.{fold}
use Rattle.sourcemap_compiled_write.proofs.packing.width_of.Given as goal

abbrev pub invariant-loop-number : goal.invariant-loop-number
invariant-loop-number l = record {
  value : l.greatest ≡ fold max 0 (take l.number-index l.numbers);
  small : l.greatest < 2 ^ 32;
}
