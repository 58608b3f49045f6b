use Rattle.sourcemap_compiled_write.proofs.BlockLemmas.{block_of-slice}
use Rattle.sourcemap_compiled_write.proofs.blocks.block_of.Goals as goal

pub returns : goal.returns
returns g c =
    block_of-slice c.args.items.now c.args.block c.min-from.result c.min-to.result c.min-from.ensures c.min-to.ensures
