-- A text encodes at most one list of offsets, and no list if a part of a line is invalid.
use Rattle.sourcemap_hermes_scopes.proofs.OffsetsAnswers.{StandsFor-same}
use Rattle.sourcemap_hermes_scopes.proofs.offsets.scope_mappings_are_determined.Goals as goal

pub returns : goal.returns
returns c = StandsFor-same
