use Rattle.std.proofs.Common.{◌≡◌, ℕ, ◌<◌, ◌^◌, ◌++◌, ◌∷◌, [], slice_index}
use Rattle.sourcemap_compiled_write.specs.Blocks.{field_numbers, field_width}
use Rattle.sourcemap_compiled_write.specs.Packing.{field_bytes, token_values}
use Rattle.sourcemap_compiled_write.specs.Pieces.{pieces}
use Rattle.sourcemap_compiled_write.proofs.blocks.push_fields.Given as goal

abbrev pub invariant-loop-field : goal.invariant-loop-field
invariant-loop-field l = record {
  body : l.out.items ≡ l.initial.out.items
      ++ pieces (λ field. field_bytes (field_width l.tokens l.scopes field)
      (field_numbers l.tokens l.scopes field)) l.field;
  widths : l.heads.items ≡ l.initial.heads.items ++ pieces (λ field. field_width l.tokens l.scopes field ∷ []) l.field;
  small : (field k : ℕ) → field < l.field → field < 7 → slice_index (token_values l.tokens field) k < 2 ^ 32;
}
