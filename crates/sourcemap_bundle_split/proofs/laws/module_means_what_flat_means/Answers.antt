use Rattle.sourcemap_bundle_split.specs.ModuleMap.{end_of}
use Rattle.sourcemap_bundle_split.proofs.MeaningLemmas.{module_meaning}
use Rattle.sourcemap_bundle_split.proofs.laws.module_means_what_flat_means.Goals as goal

pub returns : goal.returns
returns c flat name text line p t few_sources few_names inside closest within =
    module_meaning flat name line (end_of line text) p t few_sources few_names inside closest within
