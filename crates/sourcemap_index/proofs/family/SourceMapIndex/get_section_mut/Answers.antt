-- The borrowed section is section `id` of the index map. When the borrow ends, section `id` has the value of the
-- borrowed section, and all else is unchanged.
use Rattle.std.proofs.Common.{refl, ◌∙◌, sym, ap, slice_get}
use Rattle.sourcemap_index.proofs.FamilyLemmas.{index-out, index_same, item_seen, on_some, section_put}
use Rattle.sourcemap_index.specs.Family.{section_value}
use Rattle.sourcemap_index.specs.declared.family.SourceMapIndex.{out-SourceMapIndex}
use Rattle.sourcemap_index.proofs.family.SourceMapIndex.get_section_mut.Goals as goal

pub returns : goal.returns
returns c =
    let i = c.args.self.now in (
      (refl, (λ w. on_some c.get_mut.result _ (section_put i c.args.id w)), index_same i),
      record {
        writes_back = tt;
        value = item_seen (λ s. s.now) section_value (out-SourceMapIndex i).sections.items c.args.id c.get_mut.result
            c.get_mut.ensures.item
            ∙ ap (λ v. slice_get v.sections c.args.id) (sym (index-out i));
      },
    )
