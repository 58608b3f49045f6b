-- Equal lists of entries encode equal lists of function maps.
use Rattle.sourcemap_hermes_scopes.proofs.SourceScopesLemmas.{function_maps_same}
use Rattle.sourcemap_hermes_scopes.proofs.source_scopes.entries_determine_function_maps.Goals as goal

pub returns : goal.returns
returns c = function_maps_same
