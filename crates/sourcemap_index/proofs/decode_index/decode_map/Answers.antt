use Rattle.sourcemap_records.specs.Jsontypes.{tree}
use Rattle.sourcemap_index.proofs.DecodeIndexLemmas.{well_formed_answer}
use Rattle.sourcemap_index.proofs.decode_index.decode_map.Goals as goal

pub returns-clause-well_formed : goal.returns-clause-well_formed
returns-clause-well_formed c = well_formed_answer (tree c.args.raw) c.decode_record.result c.decode_record.ensures
