use Rattle.std.proofs.Common.{◌≡◌, ℕ, ◌++◌, ◌-◌, ◌<◌, ◌^◌, map, replicate, slice_index, take}
use Rattle.sourcemap_compiled_write.specs.Packing.{number_of, token_values}
use Rattle.sourcemap_compiled_write.proofs.packing.numbers_of.Given as goal

abbrev pub invariant-loop-place : goal.invariant-loop-place
invariant-loop-place l = record {
  numbers : l.numbers
      ≡ map (number_of l.base) (token_values (take l.place l.tokens) l.field) ++ replicate (64 - l.place) 0;
  small : (k : ℕ) → k < l.place → slice_index (token_values l.tokens l.field) k < 2 ^ 32;
}
