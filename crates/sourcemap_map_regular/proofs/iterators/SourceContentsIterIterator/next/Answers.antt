use Rattle.std.proofs.Common.{arith, length}
use Rattle.sourcemap_map_parts.proofs.ContentsLemmas.{drop-fitted}
use Rattle.sourcemap_map_regular.proofs.iterators.SourceContentsIterIterator.next.Goals as goal

pub returns-clause-steps : goal.returns-clause-steps
returns-clause-steps c =
    rw c.get_source_contents.ensures
    (drop-fitted c.args.self.now.map.now.contents (length c.args.self.now.map.now.sources) c.args.self.now.next
    (omega arith))
