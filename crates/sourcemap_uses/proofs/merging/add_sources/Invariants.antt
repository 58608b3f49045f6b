use Rattle.sourcemap.specs.Iterators.{sources_left}
use Rattle.sourcemap.specs.Types.{resolved_sources}
use Rattle.sourcemap_uses.proofs.MergingLemmas.{HasAdded}
use Rattle.sourcemap_uses.proofs.merging.add_sources.Given as goal

-- every source that the iterator has returned was added to the builder, in order
abbrev pub invariant-loop-source : goal.invariant-loop-source
invariant-loop-source l = HasAdded l.fn.builder l.builder (sources_left l.source-iterator) (resolved_sources l.map)
