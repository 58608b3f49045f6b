use Rattle.std.proofs.Common.{string_bytes, refl, ◌∙◌}
use Rattle.sourcemap_map_parts.specs.TextLists.{same_text}
use Rattle.sourcemap_map_parts.proofs.TextListsLemmas.{pointwise-map}
use Rattle.sourcemap_map_parts.proofs.text_lists.same_texts.Goals as goal

pub returns : goal.returns
returns c =
    c.eq.ensures ∙ pointwise-map (λ x y. same_text (string_bytes x) (string_bytes y)) same_text string_bytes (λ x y.
    refl) c.args.a.now.items c.args.b.now.items
