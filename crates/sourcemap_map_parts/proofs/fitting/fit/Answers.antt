use Rattle.std.proofs.Common.{arith, ◌≡◌, ◌-◌, ◌+◌, vec_len, ap, ◌∙◌, take}
use Rattle.sourcemap_map_parts.proofs.FittingLemmas.{fitted-filled, filled-push}
use Rattle.sourcemap_map_parts.proofs.fitting.fit.Goals as goal

pub loop-items-preserved : goal.loop-items-preserved
loop-items-preserved g c = let e = c.in-Ok.ensures.items in let f = c.in-Ok.ensures.len in let p =
    c.loop-items.invariant in
    let k : vec_len c.push.new.self - c.len-len.result ≡ (vec_len c.loop-items.items - c.len-len.result) + 1 =
    omega arith in (
      omega arith,
      rw k (filled-push (vec_len c.loop-items.items
          - c.len-len.result) c.args.items.now.items c.loop-items.items.items c.push.new.self.items p.1 e),
    )

pub returns-clause-ok : goal.returns-clause-ok
returns-clause-ok g c =
    fitted-filled c.args.count
    (vec_len c.loop-items.items - c.len-len.result) c.args.items.now.items c.truncate-2.new.self.items
    (omega (arith, c.args.items.now.ok.0, c.loop-items.items.ok.0))
    (c.truncate-2.ensures.items ∙ ap (take c.args.count) c.loop-items.invariant.1)
