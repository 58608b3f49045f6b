use Rattle.sourcemap_vlq.proofs.DigitLemmas.{glyphs-at}
use Rattle.sourcemap_vlq.proofs.vlq.glyph_of.Goals as goal

pub returns : goal.returns
returns c = glyphs-at c.args.value c.requires
