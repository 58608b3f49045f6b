use Rattle.std.proofs.Common.{length, option_map}
use Rattle.sourcemap_references.specs.Reference.{text_lines}
use Rattle.sourcemap_check_links.proofs.LinkLemmas.{LinesSoFar}
use Rattle.sourcemap_check_links.proofs.links.last_id_text.Given as goal

abbrev pub invariant-loop-line : goal.invariant-loop-line
invariant-loop-line l = LinesSoFar (text_lines l.text) (length l.yielded) (option_map (λ text. text.now) l.found)
