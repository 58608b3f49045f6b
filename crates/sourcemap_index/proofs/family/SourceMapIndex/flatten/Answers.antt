use Rattle.sourcemap_map_regular.specs.Map.{IsWellFormed as IsWellFormedRegular}
use Rattle.sourcemap_index_model.specs.MapTree.{IndexValue, index_tree}
use Rattle.sourcemap_index_model.specs.Flat.{AnswersLike, SaysFlat}
use Rattle.sourcemap_index_model.specs.FlatList.{IsOrderly}
use Rattle.sourcemap_index_model.specs.WellFormed.{IsWellFormed}
use Rattle.sourcemap_index_model.proofs.FlatLemmas.{flat_says, flat_answers, flat_well}
use Rattle.sourcemap_index.specs.Family.{index_value}
use Rattle.sourcemap_index.proofs.FlattenLemmas.{answer-made, flat-if_ok}
use Rattle.sourcemap_index.proofs.family.SourceMapIndex.flatten.Goals as goal

pub returns-clause-tokens : goal.returns-clause-tokens
returns-clause-tokens c =
    let v : IndexValue = index_value c.args.self.now in
    let made = c.in_ok-flat.ensures.ok in
    flat-if_ok (index_tree v) c.into_map.result (SaysFlat (index_tree v))
    (answer-made v _ made.0 c.into_map.result c.get_file.ensures made.1 (c.into_map.ensures made.0 made.2))
    (λ m is. flat_says (index_tree v) m c.in_ok-flat.ensures.in_order is)

pub returns-clause-meaning : goal.returns-clause-meaning
returns-clause-meaning c =
    let v : IndexValue = index_value c.args.self.now in
    let made = c.in_ok-flat.ensures.ok in
    flat-if_ok (index_tree v) c.into_map.result (λ m. IsOrderly (index_tree v) → AnswersLike (index_tree v) m)
    (answer-made v _ made.0 c.into_map.result c.get_file.ensures made.1 (c.into_map.ensures made.0 made.2))
    (λ m is orderly. flat_answers (index_tree v) m c.in_ok-flat.ensures.in_order orderly is)

pub returns-clause-well_formed : goal.returns-clause-well_formed
returns-clause-well_formed c =
    let v : IndexValue = index_value c.args.self.now in
    let made = c.in_ok-flat.ensures.ok in
    flat-if_ok (index_tree v) c.into_map.result (λ m. IsWellFormed (index_tree v) → IsWellFormedRegular m)
    (answer-made v _ made.0 c.into_map.result c.get_file.ensures made.1 (c.into_map.ensures made.0 made.2))
    (λ m is well. flat_well (index_tree v) m well is)
