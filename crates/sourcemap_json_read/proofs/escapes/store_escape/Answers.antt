use Rattle.std.proofs.Common.{◌<◌, take, arith}
use Rattle.sourcemap_json_read.specs.Strings.{SpellsByte}
use Rattle.sourcemap_json_read.proofs.ReadLemmas.{escape_read}
use Rattle.sourcemap_json_read.proofs.escapes.store_escape.Goals as goal

pub returns-clause-read : goal.returns-clause-read
returns-clause-read c =
    let text = c.args.text.now in
    let byte = c.short_escape_at-byte in
    let some : 0 < byte.result = omega (arith, c.if-byte-eq0.false) in
    let spells : SpellsByte text c.args.at byte.result = byte.ensures some in
    escape_read
    (take c.args.to c.args.buffer.now) _ text c.args.at byte.result c.requires.space.1 spells c.store_byte.ensures.bytes
