use Rattle.std.proofs.Common.{string_bytes, sym, ◌∙◌}
use Rattle.std.specs.Cmp.Derive.Mapped.{pointwise-map}
use Rattle.sourcemap_map_parts.specs.TextLists.{same_text}
use Rattle.sourcemap_check_lists.proofs.marks.same_texts.Goals as goal

pub returns : goal.returns
returns c = c.eq.ensures ∙ sym (pointwise-map string_bytes same_text c.args.a.now c.args.b.now)
