use Rattle.std.proofs.Common.{ℕ, ◌≡◌, ◌+◌, ◌-◌, ◌<◌, ◌^◌, ◌∷◌, [], ◌++◌, ◌∙◌, List, length, map, replicate, set, take}
use Rattle.std.proofs.Common.{sym, ap, slice_index, below_more, arith}
use Rattle.std.proofs.lemmas.List.{length-map, length-take-le}
use Rattle.sourcemap_compiled_write.specs.Packing.{number_of, token_values}
use Rattle.sourcemap_compiled_write.proofs.PackingLemmas.{fill_more, get_or-token_values, no_token, numbers_more}
use Rattle.sourcemap_compiled_write.proofs.PackingLemmas.{small_all}
use Rattle.sourcemap_compiled_write.proofs.packing.numbers_of.Goals as goal

pub loop-place-preserved : goal.loop-place-preserved
loop-place-preserved c =
    let ts = c.args.tokens.now in
    let place = c.loop-place.place in
    let inside = c.loop-place-test.true in
    let done = map (number_of c.args.base) (token_values (take place ts) c.args.field) in
    let many : length done ≡ place =
    simp length-map (length-take-le place ts (let l = c.loop-place.auto in omega arith)) in
    let value = get_or-token_values ts c.args.field place no_token inside ∙ sym c.field_value.ensures in
    record {
      numbers = ap (λ (ys : List ℕ). set ys place (number_of c.args.base c.field_value.result))
          c.loop-place.invariant.numbers
          ∙ fill_more done 64 place (number_of c.args.base c.field_value.result) many
          (let few = c.requires.few in omega arith)
          ∙ ap (λ (v : ℕ). done ++ number_of c.args.base v ∷ [] ++ replicate (64 - (place + 1)) 0) c.field_value.ensures
          ∙ ap (λ (ys : List ℕ). ys ++ replicate (64 - (place + 1)) 0)
          (sym (numbers_more c.args.base ts c.args.field place no_token inside));
      small = below_more (λ (k : ℕ). slice_index (token_values ts c.args.field) k < 2 ^ 32) place
          c.loop-place.invariant.small (rw value (omega arith));
    }

pub returns-clause-small : goal.returns-clause-small
returns-clause-small c =
    small_all c.args.tokens.now c.args.field c.loop-place.place (omega arith) c.loop-place.invariant.small
