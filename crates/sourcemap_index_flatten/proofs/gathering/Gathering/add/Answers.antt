use Rattle.std.proofs.Common.{refl, sym, ap, ◌∙◌}
use Rattle.sourcemap_index_flatten.specs.Table.{entry_values}
use Rattle.sourcemap_index_flatten.proofs.FlatLemmas.{same_Ok, part-of_lists}
use Rattle.sourcemap_index_flatten.proofs.gathering.Gathering.add.Goals as goal

pub returns-clause-ok : goal.returns-clause-ok
returns-clause-ok c = λ before m g are.
    let lists = c.args.map.now in
    c.add_part.ensures.ok before m g
    (part-of_lists m lists (record {
      tokens = lists.tokens;
      ignored = lists.ignored;
      sources = c.as_slice.result;
      names = c.as_slice-2.result;
    }) are refl refl
    (ap entry_values c.as_slice.ensures.value ∙ sym (same_Ok _ _ c.in_ok-sources.ensures))
    (ap entry_values c.as_slice-2.ensures.value ∙ sym (same_Ok _ _ c.in_ok-names.ensures)))

pub returns-clause-refused : goal.returns-clause-refused
returns-clause-refused c = λ before m g are.
    let lists = c.args.map.now in
    c.add_part.ensures.refused before m g
    (part-of_lists m lists (record {
      tokens = lists.tokens;
      ignored = lists.ignored;
      sources = c.as_slice.result;
      names = c.as_slice-2.result;
    }) are refl refl
    (ap entry_values c.as_slice.ensures.value ∙ sym (same_Ok _ _ c.in_ok-sources.ensures))
    (ap entry_values c.as_slice-2.ensures.value ∙ sym (same_Ok _ _ c.in_ok-names.ensures)))
