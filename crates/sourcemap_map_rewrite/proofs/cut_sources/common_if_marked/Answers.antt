-- prover: explicit search
use Rattle.std.proofs.Common.{rules}
use Rattle.sourcemap_map_rewrite.proofs.cut_sources.common_if_marked.Goals as goal

pub returns-in_err-common : goal.returns-in_err-common
returns-in_err-common c = search rules

pub returns-in_ok-common : goal.returns-in_ok-common
returns-in_ok-common c = search rules

pub returns-else-contains_marker : goal.returns-else-contains_marker
returns-else-contains_marker c = search rules
