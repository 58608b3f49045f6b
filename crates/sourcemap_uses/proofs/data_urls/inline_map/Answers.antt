-- If decoding gives an error other than `InvalidDataUrl` and `OutOfMemory`, the payload decodes to this error.
use Rattle.sourcemap_uses.proofs.DataUrlsLemmas.{held_unless_memory}
use Rattle.sourcemap_uses.proofs.data_urls.inline_map.Goals as goal

pub returns-in_default : goal.returns-in_default
returns-in_default c =
    held_unless_memory c.args.reference.now c.in-Err.error c.in_default.not-InvalidDataUrl c.in-Err.ensures.answer
