-- prover: explicit search
use Rattle.std.proofs.Common.{rules}
use Rattle.sourcemap_index.proofs.FamilyLemmas.{index-out}
use Rattle.sourcemap_index.proofs.family.SourceMapIndex.debug_id.Goals as goal

pub returns : goal.returns
returns c = search (rules, index-out c.args.self.now)
