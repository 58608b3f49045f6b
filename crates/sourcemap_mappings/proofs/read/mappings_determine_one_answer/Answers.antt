use Rattle.sourcemap_mappings.proofs.ReadAnswers.{MappingsAnswer-same}
use Rattle.sourcemap_mappings.proofs.read.mappings_determine_one_answer.Goals as goal

pub returns : goal.returns
returns c = MappingsAnswer-same
