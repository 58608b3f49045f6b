use Rattle.std.proofs.Common.{Ok, ap, sym, ◌∙◌}
use Rattle.sourcemap_texts.specs.Texts.{texts_of}
use Rattle.sourcemap_map_parts.proofs.SourcesLemmas.{map-resolved_against_nothing}
use Rattle.sourcemap_map_parts.proofs.sources.resolve_if_rooted.Goals as goal

pub returns-then-is_empty : goal.returns-then-is_empty
returns-then-is_empty c =
    ap Ok (map-resolved_against_nothing c.args.root.now (texts_of c.args.sources.now)
    (sym c.is_empty.ensures ∙ c.if-is_empty.true))
