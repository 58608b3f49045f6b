use Rattle.std.proofs.Common.{◌<◌, ◌∙◌, length, ap, sym, subst}
use Rattle.std.specs.Option.{option_copied}
use Rattle.sourcemap_texts.specs.Texts.{contents_in}
use Rattle.sourcemap_builder.specs.Builder.{with_changes}
use Rattle.sourcemap_builder.specs.BuilderStored.{builder_value}
use Rattle.sourcemap_builder.proofs.BuilderLemmas.{contents-put, here-too, length-with_changes}
use Rattle.sourcemap_builder.proofs.builder.SourceMapBuilder.set_source_contents.Goals as goal

pub set-requires : goal.set-requires
set-requires c =
    here-too (contents_in c.self.inside.changed) c.self.inside.interned c.args.id c.len-count.result
    (subst (λ b. c.args.id < length b.sources) (sym c.self.view_is) c.requires) c.len-count.ensures.count

pub returns : goal.returns
returns c =
    let same =
    c.len-count.ensures.count ∙ sym (length-with_changes (contents_in c.self.inside.changed) c.self.inside.interned) in
    rw (← c.self.view_is) (ap (λ contents. record (builder_value c.self.inside) { contents = contents })
    (contents-put c.self.inside.contents c.set.new.self c.len-count.result
    (length (with_changes (contents_in c.self.inside.changed) c.self.inside.interned)) c.args.id
    (option_copied c.args.contents) same c.in_ok-set.ensures))
