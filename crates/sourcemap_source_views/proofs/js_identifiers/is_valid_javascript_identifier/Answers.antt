use Rattle.sourcemap_source_views.proofs.IdentifiersLemmas.{is_identifier-bytes}
use Rattle.sourcemap_source_views.proofs.js_identifiers.is_valid_javascript_identifier.Goals as goal

pub returns : goal.returns
returns c = rw c.identifier_length.ensures.value (is_identifier-bytes c.args.text.now c.utf8.text)
