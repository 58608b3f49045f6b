-- `from_reader` returns the result of `decode`. The proof is spelled out so that a wrong body is refused fast.
use Rattle.sourcemap_index.proofs.family.DecodedMap.from_reader.Goals as goal

pub returns-clause-answer : goal.returns-clause-answer
returns-clause-answer g c = c.decode.ensures.answer

pub returns-clause-only : goal.returns-clause-only
returns-clause-only g c = c.decode.ensures.only
