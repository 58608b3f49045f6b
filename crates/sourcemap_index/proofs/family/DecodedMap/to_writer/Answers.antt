-- The written text is the text that `encode` writes. The proof spells this out, so that a wrong body is refused fast.
use Rattle.sourcemap_index.proofs.family.DecodedMap.to_writer.Goals as goal

pub returns-clause-encoded : goal.returns-clause-encoded
returns-clause-encoded g c = c.encode.ensures.encoded
