use Rattle.std.proofs.Common.{◌≡◌, ◌+◌, ◌-◌, ◌≤◌, length, take, subst, arith, rules, take_all}
use Rattle.json.specs.Filled.{Placed}
use Rattle.sourcemap_json_write.proofs.StoreLemmas.{stored_on}
use Rattle.sourcemap_json_read.proofs.ReadLemmas.{rest_stored}
use Rattle.sourcemap_json_write.proofs.short.store_thirds.Goals as goal

pub returns : goal.returns
returns g c =
    let n = g.row.N in
    let text = c.args.text.now in
    let to = c.args.to in
    let last = length text - n in
    let middle = c.min-middle.result in
    let fits : to ≤ length c.args.buffer.now = omega arith in
    let low : middle ≤ n = search rules in
    let near : last ≤ middle + n = search rules in
    let second = rest_stored _ _ text middle (to + middle) n c.store_block-2.ensures in
    let third = rest_stored _ _ text last (to + last) n c.store_block-3.ensures in
    let two = stored_on text to n middle n fits low c.requires.covers.0 c.store_block.ensures second in
    let three = stored_on text to (middle + n) last n fits near (omega arith) two third in
    let whole : take (last + n) text ≡ text = take_all (last + n) text (omega arith) in
    let end : last + n ≡ length text = omega arith in
    subst (λ xs. Placed c.args.buffer.now c.store_block-3.new.buffer to xs (to + length text)) whole
    (subst (λ k. Placed c.args.buffer.now c.store_block-3.new.buffer to (take (last + n) text) (to + k)) end three)
