use Rattle.std.proofs.Common.{◌+◌, ◌∙◌, ap, length, min}
use Rattle.sourcemap_check_suspicious.specs.Suspects.{segment_suspect}
use Rattle.sourcemap_check_suspicious.proofs.SuspectLemmas.{adds_images, stopped_sum}
use Rattle.sourcemap_check_suspicious.proofs.adding.add_segments.Goals as goal

pub returns-clause-added : goal.returns-clause-added
returns-clause-added c = λ most all places.
    adds_images (segment_suspect) most all c.args.places.now.first.items c.args.found.now _ places.first
    (rw c.as_slice.ensures.value at c.in_ok-push_segments.ensures.pushed)
    (λ small. c.saturating_add-found.ensures ∙ ap (λ n. min (c.args.found.now.count + n) 18446744073709551615) places.count
    ∙ stopped_sum c.args.found.now.count (length all))
