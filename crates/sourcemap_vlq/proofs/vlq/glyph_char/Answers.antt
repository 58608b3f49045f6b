use Rattle.std.proofs.Common.{◌%◌, ap, ◌∙◌}
use Rattle.std.proofs.Math.Nat.{mod-eq_of_lt}
use Rattle.sourcemap_vlq.proofs.DigitLemmas.{glyph-ascii}
use Rattle.sourcemap_vlq.proofs.vlq.glyph_char.Goals as goal

pub returns : goal.returns
returns c = c.from.ensures ∙ ap (λ n. n % 128) c.glyph_of.ensures ∙ mod-eq_of_lt (glyph-ascii c.args.value c.requires)
