use Rattle.std.proofs.Common.{arith, lit<}
use Rattle.std.proofs.lemmas.Iterator.Splits.{YieldsList-from_str_split}
use Rattle.std.proofs.lemmas.Iterator.Consumers.{YieldsList-turn, YieldsList-end}
use Rattle.std.proofs.lemmas.List.{length_push}
use Rattle.sourcemap_check_links.proofs.LinkLemmas.{LinesSoFar-none, LinesSoFar-more, LinesSoFar-all}
use Rattle.sourcemap_check_links.proofs.links.last_id_text.Goals as goal

pub loop-line-init : goal.loop-line-init
loop-line-init c = LinesSoFar-none _

pub loop-line-preserved : goal.loop-line-preserved
loop-line-preserved c =
    let t = YieldsList-turn (YieldsList-from_str_split 10 c.args.text.now (lit< tt) (cc) (cc) (cc))
    c.loop-line.yielded _ c.loop-line.yielded_by _ _ c.in-Some.line c.in-Some.is c.next.ensures.steps in
    let more = length_push c.loop-line.yielded c.in-Some.line in
    rw (more, c.or-found.ensures)
    (LinesSoFar-more (λ text. text.now) _ _ c.in-Some.line.now _ _ c.loop-line.invariant t.0 t.1 c.id_text_on.ensures)

pub returns : goal.returns
returns c =
    let t = YieldsList-end (YieldsList-from_str_split 10 c.args.text.now (lit< tt) (cc) (cc) (cc))
    c.loop-line.yielded _ c.loop-line.yielded_by _ _ c.in-None.is c.next.ensures.steps in
    LinesSoFar-all _ _ _ c.loop-line.invariant (omega (arith, t.1))
