-- Unless memory runs out, the JSON value determines the result.
use Rattle.serde_json.specs.View.{view}
use Rattle.sourcemap_index.proofs.DecodeLemmas.{value_only}
use Rattle.sourcemap_index.proofs.family.DecodedMap.from_value.Goals as goal

pub returns-clause-only : goal.returns-clause-only
returns-clause-only c = value_only (view c.args.value.now) c.decode_value.result c.decode_value.ensures.answer
