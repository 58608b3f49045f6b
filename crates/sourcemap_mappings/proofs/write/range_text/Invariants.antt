use Rattle.std.proofs.Common.{option_copied, take, string_bytes}
use Rattle.sourcemap_tokens.specs.Tokens.{without_repeats}
use Rattle.sourcemap_mappings.proofs.WriteWalk.{Walked}
use Rattle.sourcemap_mappings.proofs.WriteRanges.{Ranging}
use Rattle.sourcemap_mappings.proofs.write.range_text.Given as goal

abbrev pub invariant-loop-token : goal.invariant-loop-token
invariant-loop-token l = record {
  walked : Walked l.line (take l.token-index l.tokens) (option_copied l.before);
  ranging : Ranging l.line (without_repeats (take l.token-index l.tokens)) (string_bytes l.text) l.flags.items;
}
