use Rattle.sourcemap_web.specs.Texts.{IsQuiet}
use Rattle.sourcemap_web.proofs.texts.line_end.Given as goal

abbrev pub invariant-loop-i : goal.invariant-loop-i
invariant-loop-i l = IsQuiet l.text l.i
