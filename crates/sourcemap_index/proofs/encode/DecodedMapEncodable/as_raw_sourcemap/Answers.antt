-- The returned record is as `RecordAnswer` says.
use Rattle.sourcemap_index.specs.Family.{map_tree}
use Rattle.sourcemap_index.proofs.EncodeLemmas.{record_answer, answer_fine, answer_back}
use Rattle.sourcemap_index.proofs.encode.DecodedMapEncodable.as_raw_sourcemap.Goals as goal

pub returns-clause-answer : goal.returns-clause-answer
returns-clause-answer c = record_answer (map_tree c.args.self.now) c.record_of_map.result c.record_of_map.ensures

pub returns-clause-fine : goal.returns-clause-fine
returns-clause-fine c = answer_fine (map_tree c.args.self.now) c.record_of_map.result c.record_of_map.ensures

pub returns-clause-reads_back : goal.returns-clause-reads_back
returns-clause-reads_back c = answer_back (map_tree c.args.self.now) c.record_of_map.result c.record_of_map.ensures
