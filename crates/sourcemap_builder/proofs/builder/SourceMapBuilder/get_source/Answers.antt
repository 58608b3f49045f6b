use Rattle.std.proofs.Common.{rules}
use Rattle.sourcemap_texts.specs.Texts.{contents_in}
use Rattle.sourcemap_builder.proofs.BuilderLemmas.{slice_get-with_changes}
use Rattle.sourcemap_builder.proofs.builder.SourceMapBuilder.get_source.Goals as goal

pub returns-in-Some : goal.returns-in-Some
returns-in-Some c =
    let current =
    slice_get-with_changes (contents_in c.self.inside.changed) c.self.inside.interned c.args.id c.self.invariant in
    search rules

pub returns-in-None : goal.returns-in-None
returns-in-None c =
    let current =
    slice_get-with_changes (contents_in c.self.inside.changed) c.self.inside.interned c.args.id c.self.invariant in
    search rules
