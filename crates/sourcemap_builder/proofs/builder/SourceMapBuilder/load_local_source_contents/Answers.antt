use Rattle.std.proofs.Common.{◌≡◌, length, map, string_bytes, ap, sym, ◌∙◌}
use Rattle.std.proofs.lemmas.List.{length-map}
use Rattle.std.specs.Option.{option_copied}
use Rattle.sourcemap_texts.specs.Texts.{contents_in}
use Rattle.sourcemap_source_files.specs.Loading.{folder_of}
use Rattle.sourcemap_builder.specs.Builder.{BuilderValue}
use Rattle.sourcemap_builder.specs.BuilderStored.{builder_value}
use Rattle.sourcemap_builder.proofs.BuilderLemmas.{length-with_changes}
use Rattle.sourcemap_builder.proofs.LoadedLemmas.{Loads-ok, Loads-count, Loads-err}
use Rattle.sourcemap_builder.proofs.builder.SourceMapBuilder.load_local_source_contents.Goals as goal

pub returns-clause-loads : goal.returns-clause-loads
returns-clause-loads g c =
    let old : BuilderValue = builder_value c.self.inside in
    let texts : map string_bytes c.as_slice-sources.result.now ≡ old.interned = c.as_slice-sources.ensures.texts in
    let many : length c.as_slice-sources.result.now ≡ length old.sources =
    sym (length-map c.as_slice-sources.result.now string_bytes) ∙ ap length texts
    ∙ sym (length-with_changes (contents_in c.self.inside.changed) c.self.inside.interned) in
    let was : c.into_views-views.result.items ≡ old.contents =
    c.into_views-views.ensures.views ∙ c.replace-contents.ensures.value in
    rw (← c.self.view_is)
    (Loads-ok old (map string_bytes c.as_slice-sources.result.now)
    (length c.as_slice-sources.result.now) c.into_views-views.result.items c.load_fitted-loaded.new.contents.items
    c.of_views.result texts many was c.of_views.ensures
    (folder_of c.args.current_dir.now
    (option_copied c.args.base_path)) c.load_fitted-loaded.result c.load_fitted-loaded.ensures.ok)

pub returns-clause-count : goal.returns-clause-count
returns-clause-count g c =
    let old : BuilderValue = builder_value c.self.inside in
    let texts : map string_bytes c.as_slice-sources.result.now ≡ old.interned = c.as_slice-sources.ensures.texts in
    let many : length c.as_slice-sources.result.now ≡ length old.sources =
    sym (length-map c.as_slice-sources.result.now string_bytes) ∙ ap length texts
    ∙ sym (length-with_changes (contents_in c.self.inside.changed) c.self.inside.interned) in
    let was : c.into_views-views.result.items ≡ old.contents =
    c.into_views-views.ensures.views ∙ c.replace-contents.ensures.value in
    rw (← c.self.view_is)
    (Loads-count old (map string_bytes c.as_slice-sources.result.now)
    (length c.as_slice-sources.result.now) c.into_views-views.result.items c.load_fitted-loaded.new.contents.items
    c.of_views.result texts many was c.of_views.ensures
    c.load_fitted-loaded.result c.load_fitted-loaded.ensures.count)

pub returns-clause-err : goal.returns-clause-err
returns-clause-err g c =
    let old : BuilderValue = builder_value c.self.inside in
    let texts : map string_bytes c.as_slice-sources.result.now ≡ old.interned = c.as_slice-sources.ensures.texts in
    let many : length c.as_slice-sources.result.now ≡ length old.sources =
    sym (length-map c.as_slice-sources.result.now string_bytes) ∙ ap length texts
    ∙ sym (length-with_changes (contents_in c.self.inside.changed) c.self.inside.interned) in
    let was : c.into_views-views.result.items ≡ old.contents =
    c.into_views-views.ensures.views ∙ c.replace-contents.ensures.value in
    rw (← c.self.view_is)
    (Loads-err old (map string_bytes c.as_slice-sources.result.now)
    (length c.as_slice-sources.result.now) c.into_views-views.result.items c.load_fitted-loaded.new.contents.items
    c.of_views.result texts many was c.of_views.ensures
    (folder_of c.args.current_dir.now (option_copied c.args.base_path)) c.load_fitted-loaded.result
    c.load_fitted-loaded.ensures.memory c.load_fitted-loaded.ensures.err)
