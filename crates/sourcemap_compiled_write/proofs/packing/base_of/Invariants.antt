use Rattle.std.proofs.Common.{◌≡◌, ◌<◌, ◌+◌, ◌%◌, ◌^◌, min, take}
use Rattle.std.specs.List.{fold}
use Rattle.sourcemap_compiled_write.specs.Packing.{token_values}
use Rattle.sourcemap_compiled_write.proofs.packing.base_of.Given as goal

abbrev pub invariant-loop-token : goal.invariant-loop-token
invariant-loop-token l = record {
  value : l.least ≡ fold (λ least value. min least ((value + 1) % 2 ^ 32)) 4294967295
      (take l.token-index (token_values l.tokens l.field));
  small : l.least < 2 ^ 32;
}
