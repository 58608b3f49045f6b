-- The returned record is as `RecordAnswer` says.
use Rattle.sourcemap_index_model.specs.MapTree.{index_tree}
use Rattle.sourcemap_index.specs.Family.{index_value}
use Rattle.sourcemap_index.proofs.EncodeLemmas.{record_answer, answer_fine, answer_back}
use Rattle.sourcemap_index.proofs.encode.SourceMapIndexEncodable.as_raw_sourcemap.Goals as goal

pub returns-clause-answer : goal.returns-clause-answer
returns-clause-answer c =
    record_answer (index_tree (index_value c.args.self.now)) c.record_of_index.result c.record_of_index.ensures

pub returns-clause-fine : goal.returns-clause-fine
returns-clause-fine c =
    answer_fine (index_tree (index_value c.args.self.now)) c.record_of_index.result c.record_of_index.ensures

pub returns-clause-reads_back : goal.returns-clause-reads_back
returns-clause-reads_back c =
    answer_back (index_tree (index_value c.args.self.now)) c.record_of_index.result c.record_of_index.ensures
