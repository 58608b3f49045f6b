use Rattle.std.proofs.Common.{◌-◌, length}
use Rattle.std.specs.Option.{option_copied}
use Rattle.sourcemap_check_texts.proofs.PlaceLemmas.{TokensSoFar}
use Rattle.sourcemap_check_texts.proofs.tokens.doubtful_tokens.Given as goal

abbrev pub invariant-loop-token : goal.invariant-loop-token
invariant-loop-token l = TokensSoFar l.most l.doubt l.map (option_copied l.files) l.index l.before l.places

abbrev pub decreases-loop-token : goal.decreases-loop-token
decreases-loop-token l = length l.map.tokens - l.index
