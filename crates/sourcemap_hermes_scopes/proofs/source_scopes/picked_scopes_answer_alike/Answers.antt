-- If each entry encodes the function map of its source, each selected entry also encodes the function map of its
-- source.
use Rattle.sourcemap_hermes_scopes.proofs.SourceScopesLemmas.{picked_of_entries}
use Rattle.sourcemap_hermes_scopes.proofs.source_scopes.picked_scopes_answer_alike.Goals as goal

pub returns-clause-of_entries : goal.returns-clause-of_entries
returns-clause-of_entries c = picked_of_entries
