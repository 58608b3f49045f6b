-- The ids of the list that are not below `from` are those of the set from `from` on.
use Rattle.std.proofs.Common.{◌≡◌, ◌∙◌, ap, subst}
use Rattle.sourcemap_c.specs.IgnoreLists.{ids_from}
use Rattle.sourcemap_c.specs.Segments.{Overwrites}
use Rattle.sourcemap_c.proofs.IgnoreListsLemmas.{ids_in_range}
use Rattle.sourcemap_c.proofs.ignore_lists.put_ignored.Goals as goal

pub returns : goal.returns
returns c =
    let from = c.args.from in
    let set = c.lists.result.ignored.now in
    let same : c.range-left.result ≡ ids_from from c.args.map.now.ignored =
    c.range-left.ensures.between tt ∙ ids_in_range from set.keys ∙ ap (ids_from from) c.lists.ensures.lists.ignored in
    subst (λ left. Overwrites left c.write_ids.result c.args.ids.now c.write_ids.new.ids) same c.write_ids.ensures
