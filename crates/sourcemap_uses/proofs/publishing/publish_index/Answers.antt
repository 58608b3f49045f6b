-- The flat map is rewritten by options that keep no names and no contents, list no prefix and load nothing.
use Rattle.std.proofs.Common.{refl, false}
use Rattle.std.proofs.lemmas.Result.{IfOk-weaker}
use Rattle.sourcemap.specs.AnyMap.{index_value}
use Rattle.sourcemap.specs.Trees.{index_tree}
use Rattle.sourcemap_uses.proofs.RewritingLemmas.{flat_answers, flat_bare, flat_refused}
use Rattle.sourcemap_uses.proofs.publishing.publish_index.Goals as goal

pub returns-clause-bare : goal.returns-clause-bare
returns-clause-bare g c =
    let options = record c.default.result { with_names = false; with_source_contents = false } in
    flat_bare options (index_tree (index_value c.args.index)) refl refl c.default.ensures.no_files
    c.default.ensures.no_prefixes c.flatten_and_rewrite.result c.flatten_and_rewrite.ensures.answer
    c.flatten_and_rewrite.ensures.means

pub returns-clause-meaning : goal.returns-clause-meaning
returns-clause-meaning g c =
    let options = record c.default.result { with_names = false; with_source_contents = false } in
    IfOk-weaker c.flatten_and_rewrite.result _ _
    (λ new answers orderly. flat_answers options (index_tree (index_value c.args.index)) refl refl
    c.default.ensures.no_files c.default.ensures.no_prefixes new (answers orderly))
    c.flatten_and_rewrite.ensures.meaning

pub returns-clause-error : goal.returns-clause-error
returns-clause-error g c =
    let options = record c.default.result { with_names = false; with_source_contents = false } in
    flat_refused options (index_tree (index_value c.args.index)) refl refl c.default.ensures.no_files
    c.default.ensures.no_prefixes c.flatten_and_rewrite.result c.flatten_and_rewrite.ensures.answer
