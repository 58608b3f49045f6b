use Rattle.std.proofs.Common.{ap, Some, ◌∙◌}
use Rattle.sourcemap_source_views.proofs.IdentifiersLemmas.{token-none, token-there}
use Rattle.sourcemap_references.proofs.ReferenceLemmas.{range_from_start}
use Rattle.sourcemap_source_views.proofs.js_identifiers.get_javascript_token.Goals as goal

pub returns-then-length-eq0 : goal.returns-then-length-eq0
returns-then-length-eq0 c = token-none c.args.text.now c.trim_start-words.result.now _ c.utf8.text
    c.trim_start-words.ensures.trim c.identifier_length-length.ensures.value c.if-length-eq0.true

pub returns : goal.returns
returns c =
    let there = token-there c.args.text.now c.trim_start-words.result.now _ c.utf8.text c.trim_start-words.utf8
    c.trim_start-words.ensures.trim c.identifier_length-length.ensures.value c.if-length-eq0.false in
    ap Some (c.range.ensures.value ∙ range_from_start _ _) ∙ there
