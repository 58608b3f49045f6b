-- prover: explicit search
use Rattle.std.proofs.Common.{rules}
use Rattle.sourcemap_index.proofs.FamilyLemmas.{section_map}
use Rattle.sourcemap_index.proofs.family.SourceMapSection.get_sourcemap.Goals as goal

pub returns : goal.returns
returns c = search (rules, section_map c.args.self.now)
