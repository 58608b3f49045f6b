use Rattle.std.proofs.lemmas.List.{take_rest}
use Rattle.sourcemap_web.proofs.TextsLemmas.{line_cut, line_uncut}
use Rattle.sourcemap_web.proofs.texts.sm_next_line.Goals as goal

pub returns-in-Some : goal.returns-in-Some
returns-in-Some c =
    line_cut c.args.text.now _ c.args.rest.now.now c.after_terminator.result.now c.in-Some.end c.in-Some.ensures
    (take_rest c.args.text.now c.in-Some.end) c.after_terminator.ensures

pub returns-in-None : goal.returns-in-None
returns-in-None c = line_uncut c.args.text.now c.args.rest.now.now c.in-None.ensures
