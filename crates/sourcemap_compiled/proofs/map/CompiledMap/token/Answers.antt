use Rattle.std.proofs.Common.{◌≡◌, ◌∙◌, ◌/◌, ◌%◌, ◌^◌}
use Rattle.sourcemap_compiled.specs.Blocks.{token_in}
use Rattle.sourcemap_compiled.proofs.LookupLemmas.{by_parts, with_position}
use Rattle.sourcemap_compiled.proofs.map.CompiledMap.token.Goals as goal

pub returns : goal.returns
returns c =
    let part = c.block.ensures in
    by_parts (λ x start head. c.token.result ≡ record (token_in x (start / 2 ^ 32) head (c.args.index % 64)) {
      dst_line = c.args.position / 2 ^ 32;
      dst_col = c.args.position % 2 ^ 32;
    }) _ _ _ _ _ _ part.bytes part.start part.head c.token.ensures
    ∙ with_position c.args.self.now.bytes.now c.args.index c.args.position c.requires.position
