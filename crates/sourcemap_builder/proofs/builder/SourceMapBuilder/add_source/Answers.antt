use Rattle.sourcemap_interning.specs.Interner.{with_text}
use Rattle.sourcemap_texts.specs.Texts.{contents_in}
use Rattle.sourcemap_builder.specs.BuilderStored.{builder_value}
use Rattle.std.proofs.Common.{ap, ◌∙◌}
use Rattle.sourcemap_builder.specs.Builder.{with_changes}
use Rattle.sourcemap_builder.proofs.BuilderLemmas.{on_ok, with_changes-with_text, length-with_changes, below-count}
use Rattle.sourcemap_builder.proofs.builder.SourceMapBuilder.add_source.Goals as goal

pub returns-clause-ok : goal.returns-clause-ok
returns-clause-ok c =
    let current = with_changes-with_text
    (contents_in c.self.inside.changed) c.self.inside.interned c.args.source.now c.self.invariant in
    on_ok c.add.result
    (λ e. rw (← c.self.view_is)
    (ap (λ interned. record (builder_value c.self.inside) {
      interned = interned;
      sources = with_changes (contents_in c.self.inside.changed) interned;
    }) e
    ∙ ap (λ sources. record (builder_value c.self.inside) {
      interned = with_text c.self.inside.interned c.args.source.now;
      sources = sources;
    }) current))
    c.add.ensures.texts

pub returns-clause-in_range : goal.returns-clause-in_range
returns-clause-in_range c =
    rw (length-with_changes (contents_in c.self.inside.changed) c.add.new.self)
    (below-count c.add.result c.add.new.self c.args.source.now c.add.ensures.text)
