use Rattle.std.proofs.Common.{ℕ, ◌+◌, ◌%◌, ◌^◌, ◌∙◌, take, min, sym, ap, arith}
use Rattle.std.specs.List.{fold}
use Rattle.std.proofs.lemmas.List.{length-map}
use Rattle.std.proofs.lemmas.List.Sums.{fold_more}
use Rattle.sourcemap_compiled_write.specs.Packing.{token_values}
use Rattle.sourcemap_compiled_write.proofs.PackingLemmas.{get_or-token_values, no_token}
use Rattle.sourcemap_compiled_write.proofs.packing.base_of.Goals as goal

pub loop-token-preserved : goal.loop-token-preserved
loop-token-preserved c =
    let ts = c.args.tokens.now in
    let i = c.loop-token.token-index in
    let values = token_values ts c.args.field in
    let more = fold_more (λ (least value : ℕ). min least ((value + 1) % 2 ^ 32)) 4294967295 values i 0
    (rw length-map c.loop-token-test.true) in
    let value = c.field_value.ensures ∙ sym (get_or-token_values ts c.args.field i no_token c.loop-token-test.true) in
    record {
      value = c.min-least.ensures
          ∙ ap (λ (x : ℕ). min x ((c.field_value.result + 1) % 2 ^ 32)) c.loop-token.invariant.value
          ∙ ap (λ (v : ℕ). min (fold (λ (least value : ℕ). min least ((value + 1) % 2 ^ 32)) 4294967295 (take i values))
          ((v + 1) % 2 ^ 32)) value
          ∙ sym more;
      small = omega arith;
    }
