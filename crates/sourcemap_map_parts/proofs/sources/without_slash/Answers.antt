use Rattle.sourcemap_map_parts.proofs.SourcesLemmas.{without_slash_none, without_slash_some}
use Rattle.std.proofs.Common.{sym}
use Rattle.sourcemap_map_parts.proofs.sources.without_slash.Goals as goal

pub returns-in-Some : goal.returns-in-Some
returns-in-Some c = without_slash_some _ _ c.in-Some.ensures.cases

pub returns-in-None : goal.returns-in-None
returns-in-None c = sym (without_slash_none _ c.in-None.ensures.cases)
