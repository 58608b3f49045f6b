use Rattle.std.proofs.Common.{arith}
use Rattle.json.proofs.Printed.Plain.{plain_from_lanes}
use Rattle.sourcemap_json_write.proofs.short.is_block_plain.Goals as goal

pub returns : goal.returns
returns g c = plain_from_lanes c.args.text.now c.args.at g.row.N c.requires.within (omega arith) c.type_inv.text
