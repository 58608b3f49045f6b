use Rattle.std.proofs.Common.{string_bytes, slice_set, ap, ◌∙◌}
use Rattle.std.proofs.lemmas.List.{map-set}
use Rattle.sourcemap_texts.specs.Texts.{texts_of}
use Rattle.sourcemap_map_rewrite.proofs.kept_texts.take_text.Goals as goal

pub returns-clause-left : goal.returns-clause-left
returns-clause-left c =
    map-set string_bytes c.args.texts.now.items c.args.id c.replace.new.dest
    ∙ ap (slice_set (texts_of c.args.texts.now) c.args.id)
    (ap string_bytes c.replace.ensures.after ∙ c.new.ensures.bytes)
