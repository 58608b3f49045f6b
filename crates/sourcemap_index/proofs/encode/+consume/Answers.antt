-- The list of records has one record for each section, in the order of the sections.
use Rattle.std.proofs.Common.{◌≡◌, ◌∙◌, sym, subst, [], map}
use Rattle.std.specs.Vec.Iter.{into_iter_items}
use Rattle.std.proofs.lemmas.List.{append-nil, nil_from_length}
use Rattle.sourcemap_records.specs.Jsontypes.{section}
use Rattle.sourcemap_index.specs.Family.{section_value}
use Rattle.sourcemap_index.proofs.EncodeLemmas.{ArePairs, pairs_in_range, pairs_written}
use Rattle.sourcemap_index.proofs.encode.+consume.Goals as goal

pub sections_into_records-returns : goal.sections_into_records-returns
sections_into_records-returns t c =
    let all = c.args.sections.items in
    let made = map section c.loop-part.records.items in
    let empty : into_iter_items c.loop-part.part-iterator ≡ [] =
    nil_from_length (into_iter_items c.loop-part.part-iterator)
    (sym c.loop-part.part-iterator.rest.ok.0 ∙ c.in-None.ensures.steps.0) in
    let pairs = subst (ArePairs (map section_value all)) (append-nil made)
    (c.loop-part.invariant.pairs [] (subst (λ xs. ArePairs (map section_value xs) []) (sym empty) tt)) in
    (pairs_written (map section_value all) made pairs, pairs_in_range (map section_value all) made pairs)
