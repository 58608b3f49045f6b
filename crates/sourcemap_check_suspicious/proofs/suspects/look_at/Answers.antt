use Rattle.sourcemap_check_suspicious.proofs.suspects.look_at.Goals as goal

pub returns-clause-wrong : goal.returns-clause-wrong
returns-clause-wrong c =
    λ mappings ranges are. record {
      places = c.in_ok-places.ensures.suspects mappings ranges are;
      shifts = c.in_ok-shifts.ensures.off;
    }
