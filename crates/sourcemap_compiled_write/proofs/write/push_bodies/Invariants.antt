use Rattle.std.proofs.Common.{◌≡◌, ℕ, ◌+◌, ◌*◌, ◌<◌, ◌^◌, ◌++◌, length, slice_index}
use Rattle.sourcemap_compiled_write.specs.File.{bodies_of, heads_of, starts_of}
use Rattle.sourcemap_compiled_write.specs.Packing.{token_values}
use Rattle.sourcemap_compiled_write.specs.Stored.{parts_value}
use Rattle.sourcemap_compiled_write.proofs.write.push_bodies.Given as goal

abbrev pub invariant-loop-block : goal.invariant-loop-block
invariant-loop-block l = record {
  bodies : l.out.items ≡ l.initial.out.items ++ bodies_of (parts_value l.parts) l.block;
  starts : l.starts.items ≡ starts_of (parts_value l.parts) l.block;
  heads : l.heads.items ≡ heads_of (parts_value l.parts) l.block;
  room : length l.out.items + l.rest < 2 ^ 32;
  small : (field k : ℕ) → field < 7 → k < 64 * l.block
      → slice_index (token_values l.parts.tokens.now field) k < 2 ^ 32;
}
