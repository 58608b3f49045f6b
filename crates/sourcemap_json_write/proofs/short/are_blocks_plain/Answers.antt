use Rattle.std.proofs.Common.{rules}
use Rattle.json.proofs.Printed.Plain.{escape_on_plain}
use Rattle.sourcemap_json_write.proofs.short.are_blocks_plain.Goals as goal

pub returns : goal.returns
returns c = escape_on_plain _ c.args.text.now (search rules)
