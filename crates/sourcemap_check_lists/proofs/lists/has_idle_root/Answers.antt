use Rattle.std.proofs.Common.{◌∙◌, ap}
use Rattle.std.specs.Prelude.{◌&&◌, is_some}
use Rattle.std.specs.Cmp.Lexicographic.{pointwise}
use Rattle.sourcemap_map_parts.specs.TextLists.{same_text}
use Rattle.sourcemap_map_regular.specs.Map.{resolved_sources}
use Rattle.sourcemap_check_lists.proofs.ListLemmas.{some_mapped}
use Rattle.sourcemap_check_lists.proofs.lists.has_idle_root.Goals as goal

pub returns : goal.returns
returns c =
    let same = rw (c.lists.ensures.lists.sources, c.unresolved_sources.ensures) at c.same_texts-is_same.ensures in
    rw (c.is_some.ensures, same)
    (ap (λ r. r && pointwise same_text (resolved_sources c.args.map.now) c.args.map.now.sources)
    (some_mapped (λ x. x.now) c.get_source_root.result ∙ ap is_some c.get_source_root.ensures))
