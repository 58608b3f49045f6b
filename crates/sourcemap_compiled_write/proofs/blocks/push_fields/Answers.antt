use Rattle.std.proofs.Common.{◌≡◌, ◌∙◌, ◌<◌, ◌^◌, ◌++◌, ◌∷◌, [], ℕ, ap, subst, slice_index, inl, inr, arith}
use Rattle.std.proofs.lemmas.Bool.{cases_lt}
use Rattle.sourcemap_compiled_write.specs.Blocks.{body_bytes, field_numbers, field_width, width_bytes}
use Rattle.sourcemap_compiled_write.specs.Packing.{field_bytes, token_values, width_of}
use Rattle.sourcemap_compiled_write.specs.Pieces.{pieces}
use Rattle.sourcemap_compiled_write.proofs.BlockRead.{field_piece}
use Rattle.sourcemap_compiled_write.proofs.StandsLemmas.{pieces_start, pieces_step}
use Rattle.sourcemap_compiled_write.proofs.blocks.push_fields.Goals as goal

pub loop-field-init : goal.loop-field-init
loop-field-init c = record {
  body = pieces_start c.args.out.now.items (field_piece c.args.tokens.now c.args.scopes.now);
  widths = pieces_start c.args.heads.now.items (λ k. field_width c.args.tokens.now c.args.scopes.now k ∷ []);
  small = λ field k l m. absurd (omega arith);
}

pub loop-field-preserved : goal.loop-field-preserved
loop-field-preserved c =
    let ts = c.args.tokens.now in
    let ss = c.args.scopes.now in
    let i = c.loop-field.field in
    let xs = c.field_numbers-numbers.result in
    let numbers : xs ≡ field_numbers ts ss i = c.field_numbers-numbers.ensures.numbers in
    let width : c.width_of-width.result ≡ field_width ts ss i = c.width_of-width.ensures.value ∙ ap width_of numbers in
    record {
      body = pieces_step c.args.out.now.items (field_piece ts ss) i c.loop-field.out.items
          (field_bytes c.width_of-width.result xs) c.push_field.new.out.items c.in_ok-push_field.ensures
          c.loop-field.invariant.body
          (ap (λ (w : ℕ). field_bytes w xs) width ∙ ap (field_bytes (field_width ts ss i)) numbers);
      widths = pieces_step c.args.heads.now.items (λ k. field_width ts ss k ∷ []) i c.loop-field.heads.items
          (c.width_of-width.result ∷ []) c.extend_from_slice.new.self.items c.in_ok-extend_from_slice.ensures.items
          c.loop-field.invariant.widths (ap (λ (w : ℕ). w ∷ []) width);
      small = λ field k l m. elim (cases_lt field i) [
        | inl less ↦ c.loop-field.invariant.small field k less m
        | inr not ↦
            let same : i ≡ field = omega arith in
            subst (λ (f : ℕ). slice_index (token_values ts f) k < 2 ^ 32) same
            (c.field_numbers-numbers.ensures.small (omega arith) k)
      ];
    }

pub returns-clause-body : goal.returns-clause-body
unfolding body_bytes
returns-clause-body c =
    let all : c.loop-field.field ≡ 8 = omega arith in
    c.loop-field.invariant.body ∙ ap (λ (n : ℕ). c.args.out.now.items
    ++ pieces (field_piece c.args.tokens.now c.args.scopes.now) n) all

pub returns-clause-widths : goal.returns-clause-widths
unfolding width_bytes
returns-clause-widths c =
    let all : c.loop-field.field ≡ 8 = omega arith in
    c.loop-field.invariant.widths ∙ ap (λ (n : ℕ). c.args.heads.now.items
    ++ pieces (λ k. field_width c.args.tokens.now c.args.scopes.now k ∷ []) n) all
