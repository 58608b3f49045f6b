-- The copy of what is kept has the same record.
use Rattle.serde_json.specs.View.{view}
use Rattle.sourcemap_records.specs.Jsontypes.{tree}
use Rattle.sourcemap_records.proofs.KeptLemmas.{gives_record}
use Rattle.sourcemap_records.proofs.jsontypes.RawSourceMap.from_value.Goals as goal

pub returns : goal.returns
returns c = gives_record tree c.from_owned.result (view c.in_ok-kept.kept) (view c.args.value.now) c.in_ok-kept.ensures
    c.from_owned.ensures
