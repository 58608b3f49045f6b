use Rattle.sourcemap_records.specs.Jsontypes.{tree}
use Rattle.sourcemap_records.proofs.ReadBackLemmas.{read_back}
use Rattle.sourcemap_records.proofs.jsontypes.RawSourceMap.into_value.Goals as goal

pub returns-clause-reads_back : goal.returns-clause-reads_back
returns-clause-reads_back c =
    read_back c.write_map.result (tree c.args.self) c.write_map.ensures.value c.write_map.ensures.in_range
