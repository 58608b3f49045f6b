-- prover: explicit search
use Rattle.std.proofs.Common.{rules}
use Rattle.sourcemap_index.proofs.FamilyLemmas.{section_offset_and_url}
use Rattle.sourcemap_index.proofs.family.SourceMapSection.get_url.Goals as goal

pub returns : goal.returns
returns c = search (rules, section_offset_and_url c.args.self.now)
