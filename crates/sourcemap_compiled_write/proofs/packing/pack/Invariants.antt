use Rattle.std.proofs.Common.{◌≡◌, ◌<◌, ◌≤◌, [], length, take}
use Rattle.sourcemap_compiled_write.proofs.PackingLemmas.{IsPacked}
use Rattle.sourcemap_compiled_write.proofs.packing.pack.Given as goal

abbrev pub invariant-loop-number : goal.invariant-loop-number
invariant-loop-number l = record {
  few : l.filled < 32;
  long : length l.bytes ≡ 256;
  within : l.at ≤ 256;
  packed : IsPacked l.width (take l.number-index l.numbers) [] (take l.at l.bytes) l.word l.filled;
}
