use Rattle.sourcemap.specs.Decoder.{ValueDecodes}
use Rattle.sourcemap_trace.proofs.TraceLemmas.{restored_traces_alike, traces_alike}
use Rattle.sourcemap_trace.proofs.trace.maps_read_back_answer_alike.Goals as goal

pub returns-clause-alike : goal.returns-clause-alike
returns-clause-alike c = traces_alike

pub returns-clause-read_back : goal.returns-clause-read_back
returns-clause-read_back c = λ t back value positions.
    restored_traces_alike t back (ValueDecodes value) positions (c.answers_are_determined.ensures.values value)
