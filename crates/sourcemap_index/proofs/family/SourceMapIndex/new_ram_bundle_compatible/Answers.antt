-- prover: explicit search
use Rattle.std.proofs.Common.{rules}
use Rattle.sourcemap_index.proofs.FamilyLemmas.{index-roll}
use Rattle.sourcemap_index.proofs.family.SourceMapIndex.new_ram_bundle_compatible.Goals as goal

pub returns : goal.returns
returns c = search (rules, index-roll)
