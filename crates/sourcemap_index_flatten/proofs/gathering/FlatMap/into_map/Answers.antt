use Rattle.std.proofs.Common.{None, map, Ok, sym, ap, ◌∙◌}
use Rattle.std.specs.Option.{option_copied}
use Rattle.sourcemap_texts.specs.Texts.{texts_of}
use Rattle.sourcemap_index_flatten.specs.Table.{TextEntry, entry_values}
use Rattle.sourcemap_index_flatten.proofs.FlatLemmas.{same_Ok, map-of_flat}
use Rattle.sourcemap_index_flatten.proofs.gathering.FlatMap.into_map.Goals as goal

pub returns : goal.returns
returns c = λ pieces is.
    let names = same_Ok _ _ (sym c.in_ok-names.ensures)
    ∙ ap (λ es. map (λ (e : TextEntry). e.0) (entry_values es)) c.as_slice.ensures.value in
    let texts = same_Ok _ _ (sym c.in_ok-sources.ensures)
    ∙ ap (λ es. map (λ (e : TextEntry). e.0) (entry_values es)) c.as_slice-2.ensures.value in
    let contents = same_Ok _ _ (sym c.in_ok-contents.ensures)
    ∙ ap (λ es. map (λ (e : TextEntry). e.1) (entry_values es)) c.as_slice-3.ensures.value in
    let file = same_Ok _ _ (sym c.in_ok-file.ensures) in
    ap Ok (sym (c.of_parts.ensures
    ∙ map-of_flat (option_copied c.args.file) pieces c.args.self is c.with-metadata.result c.new-sources.result
    (texts_of c.in_ok-names.names) c.of_views-contents.result
    (c.with-metadata.ensures ∙ (λ i. record { file = file i; ignored = c.args.self.ignored.keys; debug_id = None }))
    (c.new-sources.ensures ∙ (λ i. record { root = None; texts = texts i }))
    names (c.of_views-contents.ensures ∙ contents)))
