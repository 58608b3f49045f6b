use Rattle.std.proofs.Common.{◌∙◌, ◌++◌, List, ℕ, ap}
use Rattle.byteorder.specs.Endian.{little_bytes}
use Rattle.sourcemap_compiled_write.proofs.BlockLemmas.{start_bytes-first}
use Rattle.sourcemap_compiled_write.proofs.blocks.push_start.Goals as goal

pub returns : goal.returns
returns c =
    c.in_ok-extend_from_slice.ensures.items
    ∙ ap (λ (l : List ℕ). c.args.starts.now.items ++ l) (c.to_le_bytes.ensures
    ∙ ap (little_bytes 8) c.position_number-start.ensures ∙ start_bytes-first c.args.tokens.now c.requires)
