-- The test decides whether the values are equal.
use Rattle.sourcemap_index.proofs.EqualityLemmas.{section_decides}
use Rattle.sourcemap_index.specs.Family.{section_value}
use Rattle.sourcemap_index.proofs.equality.SourceMapSectionPartialEq.eq.Goals as goal

pub returns-clause-same : goal.returns-clause-same
returns-clause-same c =
    rw c.are_same_sections.ensures (section_decides (section_value c.args.self.now) (section_value c.args.other.now))
