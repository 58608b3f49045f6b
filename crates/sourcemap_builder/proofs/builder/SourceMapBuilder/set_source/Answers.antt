use Rattle.std.proofs.Common.{◌<◌, Some, length, ap, sym, subst, string_bytes}
use Rattle.sourcemap_texts.specs.Texts.{contents_in}
use Rattle.sourcemap_map_parts.proofs.FittingLemmas.{map-put}
use Rattle.sourcemap_builder.specs.BuilderStored.{builder_value}
use Rattle.sourcemap_builder.proofs.BuilderLemmas.{current-put, here-too, length-with_changes}
use Rattle.sourcemap_builder.proofs.builder.SourceMapBuilder.set_source.Goals as goal

pub put-requires : goal.put-requires
put-requires c =
    here-too (contents_in c.self.inside.changed) c.self.inside.interned c.args.id c.len-count.result
    (subst (λ b. c.args.id < length b.sources) (sym c.self.view_is) c.requires) c.len-count.ensures.count

pub returns : goal.returns
returns c =
    let here : c.args.id < length c.self.inside.interned =
    subst (λ n. c.args.id < n) (length-with_changes (contents_in c.self.inside.changed) c.self.inside.interned)
    (subst (λ b. c.args.id < length b.sources) (sym c.self.view_is) c.requires) in
    rw (← c.self.view_is) (ap (λ sources. record (builder_value c.self.inside) { sources = sources })
    (current-put (contents_in c.self.inside.changed)
    (contents_in c.put.new.items) c.self.inside.interned c.args.id c.len-count.result
    (string_bytes c.in_ok-source.source) c.args.source.now c.len-count.ensures.count c.in_ok-source.ensures.ok here
    (map-put string_bytes c.len-count.result c.args.id
    (Some c.in_ok-source.source) c.self.inside.changed.items c.put.new.items.items c.in_ok-put.ensures)))
