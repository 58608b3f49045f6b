-- The flattened map is compared with the index by two lookups.
use Rattle.std.proofs.Common.{option_map}
use Rattle.std.proofs.lemmas.Result.{err_from_is_err_and}
use Rattle.sourcemap.specs.AnyMap.{index_value}
use Rattle.sourcemap.specs.Token.{meaning_of_token}
use Rattle.sourcemap.specs.Trees.{index_tree}
use Rattle.sourcemap_uses.proofs.FlatteningLemmas.{decided}
use Rattle.sourcemap_uses.proofs.flattening.is_kept_flat.Goals as goal

pub returns-in_err-flat-clause-error : goal.returns-in_err-flat-clause-error
returns-in_err-flat-clause-error c =
    let p = err_from_is_err_and c.from_residual.result c.from_residual.ensures.1 in
    rw (p.1, p.2) c.in_err-flat.ensures.answer

pub returns-clause-exact : goal.returns-clause-exact
returns-clause-exact c = λ order. (
  c.in_ok-flat.flat,
  c.in_ok-flat.ensures.answer,
  decided (index_tree (index_value c.args.index.now)) c.in_ok-flat.flat (c.args.line, c.args.col) c.keeps_meaning.result
      (option_map meaning_of_token c.lookup_token-before.result)
      (option_map meaning_of_token c.lookup_token-after.result)
      (c.lookup_token-before.ensures.meaning order) c.lookup_token-after.ensures.meaning c.keeps_meaning.ensures,
)

pub returns-clause-orderly : goal.returns-clause-orderly
returns-clause-orderly c = λ orderly.
    let t = index_tree (index_value c.args.index.now) in
    (decided t c.in_ok-flat.flat (c.args.line, c.args.col) c.keeps_meaning.result
    (option_map meaning_of_token c.lookup_token-before.result) (option_map meaning_of_token c.lookup_token-after.result)
    (c.lookup_token-before.ensures.meaning (c.orderly_maps_are_in_order.ensures t orderly))
    c.lookup_token-after.ensures.meaning c.keeps_meaning.ensures).1
    (c.in_ok-flat.ensures.meaning orderly (c.args.line, c.args.col))
