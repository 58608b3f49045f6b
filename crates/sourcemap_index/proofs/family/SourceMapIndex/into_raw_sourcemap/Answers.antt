-- The returned record is as `RecordAnswer` says.
use Rattle.sourcemap_index_model.specs.MapTree.{index_tree}
use Rattle.sourcemap_index.specs.Family.{index_value}
use Rattle.sourcemap_index.proofs.EncodeLemmas.{record_answer}
use Rattle.sourcemap_index.proofs.family.SourceMapIndex.into_raw_sourcemap.Goals as goal

pub returns : goal.returns
returns c = record_answer (index_tree (index_value c.args.self)) c.index_into_record.result c.index_into_record.ensures
