use Rattle.std.proofs.Common.{◌≡◌, true, take, get_or, arith}
use Rattle.sourcemap_json_read.specs.Runs.{is_plain}
use Rattle.sourcemap_json_read.proofs.ReadLemmas.{byte_read, read_on}
use Rattle.sourcemap_json_read.proofs.filling.fill_by_bytes.Goals as goal

pub loop-at-preserved : goal.loop-at-preserved
loop-at-preserved c =
    let text = c.args.text.now in
    let l = c.loop-at in
    let plain_byte : is_plain (get_or text l.at 0) ≡ true = cc in
    let next = byte_read (take l.to l.buffer) _ text l.at (omega arith) plain_byte c.store_byte.ensures.bytes in (
      omega (arith, c.store_byte.ensures.len),
      omega arith,
      omega arith,
      omega (arith, c.store_byte.ensures.len),
      read_on (take c.args.start c.args.buffer.now) (take l.to l.buffer) _ text c.args.from l.at _ l.invariant.4 next,
    )
