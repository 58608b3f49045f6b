use Rattle.std.proofs.Common.{◌<◌, ◌≤◌, length, arith}
use Rattle.std.proofs.lemmas.List.{get_or_default}
use Rattle.sourcemap_check_suspicious.specs.declared.suspects.TheConstants.{SUSPICIONS}
use Rattle.sourcemap_check_suspicious.proofs.SuspectLemmas.{SuspectsSoFar-none, SuspectsSoFar-more, SuspectsSoFar-all}
use Rattle.sourcemap_check_suspicious.proofs.suspects.suspects_in.Goals as goal

pub loop-suspicion-init : goal.loop-suspicion-init
loop-suspicion-init c =
    λ mappings ranges are. SuspectsSoFar-none _ _ _ _ _ _ c.no_suspects-found.ensures.first c.no_suspects-found.ensures.count

pub loop-suspicion-preserved : goal.loop-suspicion-preserved
loop-suspicion-preserved c =
    λ mappings ranges are.
    let within : c.loop-suspicion.suspicion-index < length SUSPICIONS = omega arith in
    SuspectsSoFar-more _ _ _ _ _ _ _ _ _ within (get_or_default SUSPICIONS c.loop-suspicion.suspicion-index _ _ within)
    (c.loop-suspicion.invariant mappings ranges are) (c.in_ok-add_all.ensures.added mappings ranges are)

pub returns-clause-suspects : goal.returns-clause-suspects
returns-clause-suspects c =
    λ mappings ranges are.
    let past : length SUSPICIONS ≤ c.loop-suspicion.suspicion-index = omega arith in
    SuspectsSoFar-all _ _ _ _ _ _ _ (c.loop-suspicion.invariant mappings ranges are) past
