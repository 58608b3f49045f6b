use Rattle.sourcemap_records.specs.Jsontypes.{tree}
use Rattle.sourcemap_hermes_scopes.specs.ScopeLists.{entries_in}
use Rattle.sourcemap_hermes.specs.Map.{hermes_value}
use Rattle.sourcemap_hermes.proofs.EncodeLemmas.{scoped_answer}
use Rattle.sourcemap_hermes.proofs.map.SourceMapHermes.into_raw_sourcemap.Goals as goal

pub returns : goal.returns
returns c =
    scoped_answer (hermes_value c.args.self) (tree c.in_ok-raw.raw) (tree c.with_scopes.result)
    (entries_in c.into_entries.result)
    c.with_scopes.ensures c.into_entries.ensures.entries c.in_ok-raw.ensures
