use Rattle.sourcemap_records.specs.Jsontypes.{tree}
use Rattle.sourcemap_hermes_scopes.specs.ScopeLists.{entries_in}
use Rattle.sourcemap_hermes.specs.Map.{hermes_value}
use Rattle.sourcemap_hermes.proofs.EncodeLemmas.{scoped_answer, copied}
use Rattle.sourcemap_hermes.proofs.encode.SourceMapHermesEncodable.as_raw_sourcemap.Goals as goal

pub returns-clause-answer : goal.returns-clause-answer
returns-clause-answer c =
    let h = hermes_value c.args.self.now in
    let entries = entries_in c.in_ok-entries.entries in
    scoped_answer h (tree c.in_ok-raw.raw) (tree c.with_scopes.result) entries c.with_scopes.ensures
    (copied h.scopes.entries entries c.in_ok-entries.ensures.entries) c.in_ok-raw.ensures.answer

pub returns-clause-reads_back : goal.returns-clause-reads_back
returns-clause-reads_back c = (returns-clause-answer c).2
