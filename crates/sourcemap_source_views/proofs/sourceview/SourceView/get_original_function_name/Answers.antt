-- prover: wrong bodies refused fast
use Rattle.std.proofs.Common.{rules}
use Rattle.sourcemap_source_views.proofs.sourceview.SourceView.get_original_function_name.Goals as goal

pub returns-then-not-is_valid_javascript_identifier : goal.returns-then-not-is_valid_javascript_identifier
returns-then-not-is_valid_javascript_identifier g c = search rules

pub returns-in_err-function_token : goal.returns-in_err-function_token
returns-in_err-function_token g c = search rules

pub returns : goal.returns
returns g c = search rules
