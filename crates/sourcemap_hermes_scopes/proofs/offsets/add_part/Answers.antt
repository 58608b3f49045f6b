-- A part that is not empty appends the offset of its segment. An empty part appends nothing.
use Rattle.std.proofs.Common.{◌<◌, length, arith}
use Rattle.sourcemap_mappings.specs.Segment.{Segment}
use Rattle.sourcemap_hermes_scopes.proofs.OffsetsLemmas.{AddsOffsets-segment, AddsOffsets-none}
use Rattle.sourcemap_hermes_scopes.proofs.offsets.add_part.Goals as goal

pub returns-then-read-eq0-clause-added : goal.returns-then-read-eq0-clause-added
returns-then-read-eq0-clause-added c = λ before here part numbers is reads steps.
    let count = steps.count in
    AddsOffsets-none before here part numbers _ _ (omega arith) reads is

pub returns-clause-added : goal.returns-clause-added
returns-clause-added c = λ before here part numbers is reads steps.
    let s : Segment = record { index = 0; numbers = numbers } in
    let count = steps.count in
    let some : 0 < length numbers = omega arith in
    AddsOffsets-segment before here part numbers _ _ _ some reads
    (c.next_offset-next.ensures before here s is steps) c.in_ok-push.ensures.items
