use Rattle.std.proofs.Common.{◌+◌, ◌∙◌, ap, min}
use Rattle.sourcemap_check_suspicious.specs.Suspects.{token_suspect}
use Rattle.sourcemap_check_suspicious.proofs.SuspectLemmas.{adds_images}
use Rattle.sourcemap_check_suspicious.proofs.adding.add_tokens.Goals as goal

pub returns-clause-added : goal.returns-clause-added
returns-clause-added c = λ most all places.
    adds_images (token_suspect c.args.suspicion c.args.map.now) most all c.args.places.now.first.items c.args.found.now _ places.first
    (rw c.as_slice.ensures.value at c.in_ok-push_tokens.ensures.pushed)
    (λ small. c.saturating_add-found.ensures ∙ ap (λ n. min (c.args.found.now.count + n) 18446744073709551615) places.count)
