-- What is written are the parts of the map.
use Rattle.std.proofs.Common.{◌∙◌, Some, ap, map, refl, subst}
use Rattle.sourcemap_compiled_write.specs.TextValues.{text_value}
use Rattle.sourcemap_cache.specs.Compile.{chosen, parts_with}
use Rattle.sourcemap_cache.specs.Texts.{AreTexts, borrowed}
use Rattle.sourcemap_cache.proofs.PartsLemmas.{file_of_parts, same_parts}
use Rattle.sourcemap_cache.proofs.parts.file_with.Goals as goal

pub returns : goal.returns
returns c =
    let lists = c.lists-lists.ensures.lists in
    let sources = ap (map text_value) c.deref.ensures.value ∙ c.in_ok-sources.ensures.same
    ∙ ap (map Some) lists.sources in
    let names = ap (map text_value) c.deref-2.ensures.value ∙ c.in_ok-names.ensures.same ∙ ap (map Some) lists.names in
    let scope_names = ap (map text_value) c.deref-3.ensures.value ∙ c.in_ok-scope_names.ensures.same in
    let contents = ap (map text_value) c.deref-4.ensures.value ∙ c.in_ok-contents.ensures.same
    ∙ ap (chosen c.args.contents) lists.contents in
    file_of_parts _ (parts_with c.args.contents c.args.map.now c.args.scopes.now (borrowed c.args.scope_names.now))
    c.in_ok-write_file.field-0.items
    (same_parts _ _ lists.tokens refl sources names scope_names c.file_of.ensures.same contents
    (c.debug_id_bytes.ensures ∙ c.get_debug_id.ensures))
    c.in_ok-write_file.ensures.file c.in_ok-write_file.ensures.writable
    (record {
      tokens = c.lists-lists.ensures.in_order;
      sources = subst (λ texts. AreTexts (map Some texts)) lists.sources c.in_ok-sources.ensures.utf8;
      names = subst (λ texts. AreTexts (map Some texts)) lists.names c.in_ok-names.ensures.utf8;
      scope_names = c.in_ok-scope_names.ensures.utf8;
      file = c.file_of.ensures.utf8;
      contents = subst (λ texts. AreTexts (chosen c.args.contents texts)) lists.contents c.in_ok-contents.ensures.utf8;
    })
