-- The returned section is the section at the index `id` of the list, if there is one.
use Rattle.std.proofs.Common.{◌∙◌, sym, ap, slice_get, map}
use Rattle.sourcemap_index.proofs.FamilyLemmas.{index-out, item_seen}
use Rattle.sourcemap_index.specs.Family.{section_value}
use Rattle.sourcemap_index.proofs.family.SourceMapIndex.get_section.Goals as goal

pub returns : goal.returns
returns c =
    item_seen (λ s. s.now) section_value c.deref.result.now c.args.id c.get.result c.get.ensures.lookup
    ∙ ap (λ ss. slice_get (map section_value ss) c.args.id) c.deref.ensures.value
    ∙ ap (λ v. slice_get v.sections c.args.id) (sym (index-out c.args.self.now))
